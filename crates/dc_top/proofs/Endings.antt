-- What the answer of a call says of its job.
use Rattle.std.proofs.Common.{◌≡◌, ℕ, true, false, Bool, List, [], Option, Some, None, ◌⊎◌, inl, inr, refl, sym, ap, ◌∙◌, ◌∷◌, subst, pos, cond, append-nil, true≢false}
use Rattle.std.specs.Prelude.{IsSome, unwrap_or}
use Rattle.std.specs.Ordering.{int_eq}
use Rattle.std.specs.Io.KnownBytes.{Appends}
use Rattle.dc_types.specs.declared.status.Status.{Status}
use Rattle.dc_types.specs.declared.status.Status.TheVariants as status
use Rattle.dc_edge.specs.Causes.{Rose}
use Rattle.dc_edge.specs.Library.{FileMap, Lacks, MayHold}
use Rattle.dc_edge.specs.Sink.{AppendsFront}
use Rattle.dc_edge.proofs.Puts.{kept_front}
use Rattle.dc_top.specs.Words.{Job}
use Rattle.dc_top.specs.Front.{IsProgramOf, IsRefusedBy}
use Rattle.dc_top.specs.Outcomes.{ending_of, output_of}
use Rattle.dc_top.specs.Reports.{refused_line, ended_line}
use Rattle.dc_top.specs.Told.{told_as}
use Rattle.dc_top.specs.Answers.{IsRun, IsRefused, LacksFile, EndsUnder, ReportsFront, RanTo, Tells, Follows, Refuses, Answers}
use Rattle.dc_top.specs.declared.program.Program.{Program}
use Rattle.dc_top.specs.declared.program.Run.{Run}
use Rattle.dc_top.specs.declared.program.Ending.{Ending}
use Rattle.dc_top.specs.declared.program.Ending.TheVariants as ending
use Rattle.dc_top.proofs.Verdicts.{one_verdict}

-- ---- a run that is told

-- the statuses under which a run ends
abbrev pub is_end : Status → Bool
is_end status.Done = true
is_end status.Trapped = true
is_end status.Bound = true
is_end status.EndedWith = true
is_end _ = false

pub told_ends : (text : List ℕ) (n : ℕ) (e : Ending) → is_end (told_as text n e).status ≡ true
told_ends text n (ending.Number z) = by (int_eq z (pos 0))
  where
    by : (b : Bool) → is_end (cond b (told_as text n (ending.Number (pos 0))) (record { status = status.EndedWith; line = ended_line z })).status ≡ true
    by true = refl
    by false = refl
told_ends text n (ending.Trapped trap) = refl
told_ends text n ending.Bound = refl

-- a status that tells an end is no fault
pub told_no_fault : (text : List ℕ) (n : ℕ) (e : Ending) → (told_as text n e).status ≡ status.WriteFault → ⊥
told_no_fault text n e p = true≢false (sym (told_ends text n e) ∙ ap is_end p)

whole_front : (old new : Option (List ℕ)) (whole : List ℕ) → Appends old new whole → AppendsFront old new whole
whole_front old new whole took = record { front = whole; back = []; split = sym (append-nil whole); appended = took }

module _ (run : Run) (out out' report report' : Option (List ℕ)) where
  under : (result : Status) → is_end result ≡ true → EndsUnder run result out out' report report' → Follows run result out out' report report'
  under status.Done is e = e
  under status.Trapped is e = e
  under status.Bound is e = e
  under status.EndedWith is e = e
  under status.Usage is e = absurd (true≢false (sym is))
  under status.Refused is e = absurd (true≢false (sym is))
  under status.ReadFault is e = absurd (true≢false (sym is))
  under status.WriteFault is e = absurd (true≢false (sym is))
  under status.NoMemory is e = absurd (true≢false (sym is))

  -- the run ended, and then the line was put or not
  pub told_follows : (result : Status) (e : Ending) → ending_of run.program run.ticks ≡ Some e → Appends out out' (output_of run.program run.ticks) → Tells (told_as run.text run.ticks e) report report' result → Follows run result out out' report report'
  told_follows result e is printed tells =
      elim tells [
        | inl t ↦ under result (ap is_end t.0 ∙ told_ends run.text run.ticks e) (record { ending = e; ended = is; under = t.0; printed = printed; reported = t.1 })
        | inr t ↦ elim t [
          | inl f ↦ subst (λ r. Follows run r out out' report report') (sym f.0) (inr (record { ending = e; ended = is; printed = printed; reported = f.1 }))
          | inr w ↦ subst (λ r. Follows run r out out' report report') (sym w.0) (whole_front out out' (output_of run.program run.ticks) printed, w.1)
        ]
      ]

  pub no_read_fault : (result : Status) → Follows run result out out' report report' → result ≡ status.ReadFault → ⊥
  no_read_fault result f e = subst (λ r. Follows run r out out' report report') e f

  pub no_usage : (result : Status) → Follows run result out out' report report' → result ≡ status.Usage → ⊥
  no_usage result f e = subst (λ r. Follows run r out out' report report') e f

  -- it answers for the job whose program it is
  pub run_answers : (job : Option Job) (told : Option FileMap) (before now : ℕ) (result : Status) → IsRun job told run → Follows run result out out' report report' → Answers job told before now result out out' report report'
  run_answers job told before now status.Done is f = record { run = run; is = is; follows = f }
  run_answers job told before now status.Trapped is f = record { run = run; is = is; follows = f }
  run_answers job told before now status.Bound is f = record { run = run; is = is; follows = f }
  run_answers job told before now status.EndedWith is f = record { run = run; is = is; follows = f }
  run_answers job told before now status.WriteFault is f = inl (record { run = run; is = is; follows = f })
  run_answers job told before now status.NoMemory is f = inl (record { run = run; is = is; follows = f })
  run_answers job told before now status.Usage is f = absurd f
  run_answers job told before now status.Refused is f = absurd f
  run_answers job told before now status.ReadFault is f = absurd f

pub refused_front : (job : Option Job) (told : Option FileMap) (before now : ℕ) (old new : Option (List ℕ)) (line : List ℕ) → IsRefused job told line → AppendsFront old new line → ReportsFront job told before now old new
refused_front job told before now old new line is took = record { line = line; due = inr (inr is); took = took }

-- ---- two things said of one job

pub some_same : {A : Type 0} (x y : A) → Some x ≡ Some y → x ≡ y
some_same x y e = ap (λ o. unwrap_or o x) e

pub none_some : {A : Type 0} (y : A) → None ≡ Some y → ⊥
none_some y e = cc

abbrev job_with : List ℕ → ℕ → Job
job_with file ticks = record { file = file; ticks = ticks }

same_job : (job : Option Job) (a b : Job) → job ≡ Some a → job ≡ Some b → a ≡ b
same_job job a b p q = some_same a b (sym p ∙ q)

no_job_here : (job : Option Job) (a : Job) → job ≡ None → job ≡ Some a → ⊥
no_job_here job a p q = none_some a (sym p ∙ q)

one_text : (told : Option FileMap) (file a b : List ℕ) → IsSome told → MayHold told file a → MayHold told file b → a ≡ b
one_text None file a b some p q = absurd (let k : false ≡ true = some in cc)
one_text (Some files) file a b some p q = some_same a b (sym p ∙ q)

not_there : (told : Option FileMap) (file text : List ℕ) → Lacks told file → MayHold told file text → ⊥
not_there None file text lacks holds = lacks
not_there (Some files) file text lacks holds = none_some text (sym lacks ∙ holds)

held : (told : Option FileMap) (file file' text : List ℕ) → file ≡ file' → MayHold told file text → MayHold told file' text
held told file file' text p holds = subst (λ f. MayHold told f text) p holds

-- what holds of a file and its text holds of an equal text of an equal file
moved : (P : List ℕ → List ℕ → Type 0) (file file' text text' : List ℕ) → file ≡ file' → text ≡ text' → P file text → P file' text'
moved P file file' text text' p q is = subst (λ t. P file' t) q (subst (λ f. P f text) p is)

abbrev run_with : Program → List ℕ → ℕ → Run
run_with program text ticks = record { program = program; text = text; ticks = ticks }

same_run : (a b : Run) → a.program ≡ b.program → a.text ≡ b.text → a.ticks ≡ b.ticks → a ≡ b
same_run a b p t n = ap (λ x. run_with x a.text a.ticks) p ∙ ap (λ x. run_with b.program x a.ticks) t ∙ ap (λ x. run_with b.program b.text x) n

-- where the files are told and no read failed
module _ (job : Option Job) (told : Option FileMap) (some : IsSome told) where
  one_run : (a b : Run) → IsRun job told a → IsRun job told b → a ≡ b
  one_run a b p q =
      let same = same_job job (job_with p.file a.ticks) (job_with q.file b.ticks) p.of_job q.of_job in
      let file : p.file ≡ q.file = ap (λ j. j.file) same in
      let text = one_text told q.file a.text b.text some (held told p.file q.file a.text file p.read) q.read in
      let program = moved (λ f t. IsProgramOf f t a.program) p.file q.file a.text b.text file text p.program in
      same_run a b ((one_verdict q.file b.text).one_program a.program b.program program q.program) text (ap (λ j. j.ticks) same)

  not_both : (line : List ℕ) (run : Run) → IsRefused job told line → IsRun job told run → ⊥
  not_both line run p q =
      let file : q.file ≡ p.file = ap (λ j. j.file) (same_job job (job_with q.file run.ticks) (job_with p.file p.ticks) q.of_job p.of_job) in
      let text = one_text told p.file run.text p.text some (held told q.file p.file run.text file q.read) p.read in
      (one_verdict p.file p.text).not_both run.program p.refusal (moved (λ f t. IsProgramOf f t run.program) q.file p.file run.text p.text file text q.program) p.refused

  one_line : (a b : List ℕ) → IsRefused job told a → IsRefused job told b → a ≡ b
  one_line a b p q =
      let file : p.file ≡ q.file = ap (λ j. j.file) (same_job job (job_with p.file p.ticks) (job_with q.file q.ticks) p.of_job q.of_job) in
      let text = one_text told q.file p.text q.text some (held told p.file q.file p.text file p.read) q.read in
      let refused = moved (λ f t. IsRefusedBy f t p.refusal) p.file q.file p.text q.text file text p.refused in
      let refusal = (one_verdict q.file q.text).one_refusal p.refusal q.refusal refused q.refused in
      p.line_is ∙ ap (λ t. refused_line (t ∷ []) p.refusal) text ∙ ap (λ r. refused_line (q.text ∷ []) r) refusal ∙ sym q.line_is

pub lacks_or_held : (job : Option Job) (told : Option FileMap) (file text : List ℕ) (ticks : ℕ) → LacksFile job told → job ≡ Some (job_with file ticks) → MayHold told file text → ⊥
lacks_or_held job told file text ticks p q holds =
    let same : file ≡ p.file = ap (λ j. j.file) (same_job job (job_with file ticks) (job_with p.file p.ticks) q p.of_job) in
    not_there told p.file text p.lacks (held told file p.file text same holds)

-- ---- by the status

module _ (job : Option Job) (told : Option FileMap) (before now : ℕ) (out out' report report' : Option (List ℕ)) where
  abbrev Is : Status → Type 0
  Is result = Answers job told before now result out out' report report'

  module _ (some : IsSome told) (sound : Rose before now → ⊥) where
    -- no read fault is told where the file is there
    no_fault : (file text : List ℕ) (ticks : ℕ) → job ≡ Some (job_with file ticks) → MayHold told file text → Rose before now ⊎ LacksFile job told → ⊥
    no_fault file text ticks of_job read cause = elim cause [ inl r ↦ sound r | inr l ↦ lacks_or_held job told file text ticks l of_job read ]

    as_run : (run : Run) (result : Status) → IsRun job told run → RanTo job told result out out' report report' → Follows run result out out' report report'
    as_run run result is p = subst (λ r. Follows r result out out' report report') (one_run job told some p.run run p.is is) p.follows

    pub run_says : (result : Status) → Is result → (run : Run) → IsRun job told run → Follows run result out out' report report'
    run_says status.Done a run is = as_run run status.Done is a
    run_says status.Trapped a run is = as_run run status.Trapped is a
    run_says status.Bound a run is = as_run run status.Bound is a
    run_says status.EndedWith a run is = as_run run status.EndedWith is a
    run_says status.Usage a run is = absurd (no_job_here job (job_with is.file run.ticks) a.1.due.no_job is.of_job)
    run_says status.Refused a run is = absurd (not_both job told some a.1.line run a.1.due is)
    run_says status.ReadFault a run is = absurd (no_fault is.file run.text run.ticks is.of_job is.read a.1.due.cause)
    run_says status.WriteFault a run is =
        elim a [
          | inl p ↦ as_run run status.WriteFault is p
          | inr k ↦ elim k.1.due [
            | inl u ↦ absurd (no_job_here job (job_with is.file run.ticks) u.no_job is.of_job)
            | inr d ↦ elim d [
              | inl f ↦ absurd (no_fault is.file run.text run.ticks is.of_job is.read f.cause)
              | inr r ↦ absurd (not_both job told some k.1.line run r is)
            ]
          ]
        ]
    run_says status.NoMemory a run is =
        elim a [ inl p ↦ as_run run status.NoMemory is p | inr k ↦ (kept_front out out' (output_of run.program run.ticks) k.0, k.1) ]

    pub refusal_says : (result : Status) → Is result → (line : List ℕ) → IsRefused job told line → Refuses line result out out' report report'
    refusal_says status.Done a line is = absurd (not_both job told some line a.run is a.is)
    refusal_says status.Trapped a line is = absurd (not_both job told some line a.run is a.is)
    refusal_says status.Bound a line is = absurd (not_both job told some line a.run is a.is)
    refusal_says status.EndedWith a line is = absurd (not_both job told some line a.run is a.is)
    refusal_says status.Usage a line is = absurd (no_job_here job (job_with is.file is.ticks) a.1.due.no_job is.of_job)
    refusal_says status.Refused a line is = (a.0, subst (λ l. Appends report report' l) (one_line job told some a.1.line line a.1.due is) a.1.took)
    refusal_says status.ReadFault a line is = absurd (no_fault is.file is.text is.ticks is.of_job is.read a.1.due.cause)
    refusal_says status.WriteFault a line is =
        elim a [
          | inl p ↦ absurd (not_both job told some line p.run is p.is)
          | inr k ↦ elim k.1.due [
            | inl u ↦ absurd (no_job_here job (job_with is.file is.ticks) u.no_job is.of_job)
            | inr d ↦ elim d [
              | inl f ↦ absurd (no_fault is.file is.text is.ticks is.of_job is.read f.cause)
              | inr r ↦ (k.0, subst (λ l. AppendsFront report report' l) (one_line job told some k.1.line line r is) k.1.took)
            ]
          ]
        ]
    refusal_says status.NoMemory a line is =
        elim a [ inl p ↦ absurd (not_both job told some line p.run is p.is) | inr k ↦ k ]
