-- A file that was read alone says of its text what the files that were told say.
use Rattle.std.proofs.Common.{◌≡◌, ℕ, Bool, true, false, cond, List, [], ◌∷◌, Option, Some, None, IsSome, refl, sym, ap, subst, ◌∙◌, true≢false, arith}
use Rattle.std.specs.FinMap.{get}
use Rattle.std.proofs.lemmas.Slice.Eq.{bytes_eq-Decides}
use Rattle.dc_types.specs.declared.file.File.{File}
use Rattle.dc_edge.specs.Causes.{Rose}
use Rattle.dc_edge.specs.Library.{FileMap, MayHold, file_map}
use Rattle.dc_edge.proofs.Files.{get_file_map}
use Rattle.dc_top.specs.Words.{Job}
use Rattle.dc_top.specs.Ways.{IsFileOf}
use Rattle.dc_top.specs.Front.{IsProgramOf, IsRefusedBy}
use Rattle.dc_top.specs.Answers.{IsRun, IsRefused}
use Rattle.dc_top.specs.declared.program.Run.{Run}

pub got_alone : (path text : List ℕ) (files : List File) → files ≡ record { path = path; bytes = text } ∷ [] → get (file_map files) path ≡ Some text
got_alone path text files e =
    ap (λ (fs : List File). get (file_map fs) path) e ∙ get_file_map path (record { path = path; bytes = text } ∷ [])
    ∙ ap (λ (b : Bool). cond b (Some text) None) ((bytes_eq-Decides path path).1 refl)

pub none_rose : Rose 0 0 → ⊥
none_rose rose = omega arith

pub both_ways : (b : Bool) → b ≡ true → b ≡ false → ⊥
both_ways b is not_so = true≢false (sym is ∙ not_so)

job_file : (job : Option Job) (path file : List ℕ) (ticks : ℕ) → IsFileOf job path → job ≡ Some (record { file = file; ticks = ticks }) → file ≡ path
job_file job path file ticks of e = subst (λ (o : Option Job). IsFileOf o path) e of

one_text : (told : Option FileMap) (path a b : List ℕ) → IsSome told → MayHold told path a → MayHold told path b → a ≡ b
one_text None path a b some p q = absurd (let k : false ≡ true = some in cc)
one_text (Some files) path a b some p q = let e : Some a ≡ Some b = sym p ∙ q in cc

module _ (job : Option Job) (told : Option FileMap) (path text : List ℕ) (some : IsSome told) (of : IsFileOf job path) (holds : MayHold told path text) where
  this_text : (file other : List ℕ) → file ≡ path → MayHold told file other → other ≡ text
  this_text file other e h = one_text told path other text some (subst (λ (p : List ℕ). MayHold told p other) e h) holds

  alone_holds : (files : FileMap) (file other : List ℕ) → get files path ≡ Some text → file ≡ path → other ≡ text → MayHold (Some files) file other
  alone_holds files file other alone e f = ap (λ (p : List ℕ). get files p) e ∙ alone ∙ ap (λ (t : List ℕ). Some t) (sym f)

  run_file : (run : Run) (is : IsRun job told run) → is.file ≡ path
  run_file run is = job_file job path is.file run.ticks of is.of_job

  pub run_alone : (files : FileMap) → get files path ≡ Some text → (run : Run) → IsRun job told run → IsRun job (Some files) run
  run_alone files alone run is = record {
    file = is.file;
    of_job = is.of_job;
    read = alone_holds files is.file run.text alone (run_file run is) (this_text is.file run.text (run_file run is) is.read);
    program = is.program;
  }

  pub run_program : (run : Run) → IsRun job told run → IsProgramOf path text run.program
  run_program run is =
      subst (λ (p : List ℕ). IsProgramOf p text run.program) (run_file run is)
      (subst (λ (t : List ℕ). IsProgramOf is.file t run.program) (this_text is.file run.text (run_file run is) is.read) is.program)

  refused_file : (line : List ℕ) (is : IsRefused job told line) → is.file ≡ path
  refused_file line is = job_file job path is.file is.ticks of is.of_job

  pub refused_alone : (files : FileMap) → get files path ≡ Some text → (line : List ℕ) → IsRefused job told line → IsRefused job (Some files) line
  refused_alone files alone line is = record {
    file = is.file;
    ticks = is.ticks;
    text = is.text;
    refusal = is.refusal;
    of_job = is.of_job;
    read = alone_holds files is.file is.text alone (refused_file line is) (this_text is.file is.text (refused_file line is) is.read);
    refused = is.refused;
    line_is = is.line_is;
  }

  pub refused_by : (line : List ℕ) (is : IsRefused job told line) → IsRefusedBy path text is.refusal
  refused_by line is =
      subst (λ (p : List ℕ). IsRefusedBy p text is.refusal) (refused_file line is)
      (subst (λ (t : List ℕ). IsRefusedBy is.file t is.refusal) (this_text is.file is.text (refused_file line is) is.read) is.refused)
