-- A run of the machine on a program's code is a run of the program.
use Rattle.std.proofs.Common.{◌≡◌, ◌∙◌, refl, sym, ap, subst, ℕ, length, List, [], ◌∷◌, Option, Some, Result, Ok, Err, ℤ, pos}
use Rattle.std.specs.Prelude.{IfOk, IfSome}
use Rattle.std.specs.Io.KnownBytes.{Appends}
use Rattle.dc_types.specs.declared.kind.Kind.TheVariants as kind
use Rattle.dc_types.specs.declared.place.Place.{Place}
use Rattle.dc_types.specs.declared.ty.Ty.{Ty}
use Rattle.dc_types.specs.declared.ty.Ty.TheOpen.{Ty-F}
use Rattle.dc_types.specs.declared.ty.Ty.TheViews.{out-Ty}
use Rattle.dc_value.specs.declared.value.Value.{Value}
use Rattle.dc_types.specs.declared.event.Trap.{Trap}
use Rattle.dc_types.specs.declared.event.TrapKind.{TrapKind}
use Rattle.dc_types.specs.declared.event.Event.{Event}
use Rattle.dc_types.specs.declared.event.Limits.{Limits}
use Rattle.dc_types.specs.declared.status.NoMemory.{NoMemory}
use Rattle.dc_types.specs.Events.{printed}
use Rattle.dc_types.specs.Integers.{bits_of, residue, wrap}
use Rattle.dc_types.proofs.Values.{zero_in_kind}
use Rattle.dc_types.proofs.Integers.{residue-residue, wrap_same, wrap_in_kind}
use Rattle.dc_code.specs.State as machine
use Rattle.dc_code.specs.Exec.{Exec}
use Rattle.dc_code.specs.Numbers.{number_of, word_of}
use Rattle.dc_code.specs.declared.code.Draft.{Draft}
use Rattle.dc_code.specs.declared.run.Block.{Block}
use Rattle.dc_code.proofs.Once.{runs_once}
use Rattle.dc_edge.specs.Sink.{AppendsFront}
use Rattle.core_lower_expr.specs.Frames.{words_at}
use Rattle.core_lower.specs.Runs.{Runs, machine_end}
use Rattle.dc_machine.specs.Runs.{EndsSo, RanTo, first_of}
use Rattle.dc_machine.specs.Program.{Program as Opened}
use Rattle.dc_machine.specs.declared.report.RunEnd.{RunEnd}
use Rattle.dc_machine.specs.declared.report.RunEnd.TheVariants as end
use Rattle.core_tree.specs.Values.{number_in}
use Rattle.core_tree.specs.Nodes.{own_type}
use Rattle.core_tree.specs.Meaning as meaning
use Rattle.dc_top.specs.declared.program.Program.{Program}
use Rattle.dc_top.specs.declared.program.Ending.{Ending}
use Rattle.dc_top.specs.declared.program.Ending.TheVariants as ending
use Rattle.dc_top.specs.Outcomes.{limits_of, outcome_of, number_by, ending_by, ending_of, output_of, Ends, RanSo}
use Rattle.dc_top.specs.Machines.{Holds, ending_from}

-- a number read from its word as a `long`
long_of_word : (z : ℤ) → number_of kind.I64 (word_of z) ≡ wrap kind.I64 z
unfolding bits_of
long_of_word z = wrap_same kind.I64 (λ e. cc) (pos (residue 64 z)) z (residue-residue 64 0 z)

no_number : number_of kind.I64 0 ≡ pos 0
no_number = wrap_in_kind kind.I64 (pos 0) (zero_in_kind kind.I64)

number_of_words : (ty : Ty-F Ty) (v : Value) → number_of kind.I64 (first_of (words_at ty v)) ≡ number_by ty v
number_of_words (Ty-F.Int k) v = long_of_word (number_in v)
number_of_words _ v = no_number

-- ---- an end of the machine as one of the meaning

words_of : machine.End → List ℕ
words_of (machine.Returned words blocks) = words
words_of _ = []

gave : (code : Draft) (ty : Ty) (e : meaning.End) (words : List ℕ) (blocks : List Block) → machine.Returned words blocks ≡ machine_end code ty e → ending_by ty e ≡ Some (ending.Number (number_of kind.I64 (first_of words)))
unfolding words_of
gave code ty (meaning.Gave v) words blocks p = ap (λ z. Some (ending.Number z)) (sym (ap (λ d. number_of kind.I64 (first_of (words_of d))) p ∙ number_of_words (out-Ty ty) v))
gave code ty (meaning.Trapped trap place) words blocks p = absurd (cc)
gave code ty meaning.Bound words blocks p = absurd (cc)
gave code ty (meaning.Missing f) words blocks p = absurd (cc)

abbrev trap_at : TrapKind → Place → Trap
trap_at kind place = record { kind = kind; place = place }

trapped : (code : Draft) (ty : Ty) (e : meaning.End) (trap : Trap) → machine.Trapped trap.kind trap.place ≡ machine_end code ty e → ending_by ty e ≡ Some (ending.Trapped trap)
trapped code ty (meaning.Gave v) trap p = absurd (cc)
trapped code ty (meaning.Trapped kind place) trap p =
    let k : trap.kind ≡ kind = cc in
    let q : trap.place ≡ place = cc in
    ap (λ x. Some (ending.Trapped (trap_at x place))) (sym k) ∙ ap (λ y. Some (ending.Trapped (trap_at trap.kind y))) (sym q)
trapped code ty meaning.Bound trap p = absurd (cc)
trapped code ty (meaning.Missing f) trap p = absurd (cc)

bound : (code : Draft) (ty : Ty) (e : meaning.End) → machine.Bound ≡ machine_end code ty e → ending_by ty e ≡ Some ending.Bound
bound code ty (meaning.Gave v) p = absurd (cc)
bound code ty (meaning.Trapped trap place) p = absurd (cc)
bound code ty meaning.Bound p = refl
bound code ty (meaning.Missing f) p = absurd (cc)

-- ---- a run

module _ (program : Program) (n : ℕ) (code : Draft) (runs : Runs program.bodies (program.start ∷ []) code) where
  abbrev meant : machine.End
  meant = machine_end code (own_type program.start) (outcome_of program n).end

  -- the machine does what the program means
  same : (events : List Event) (d : machine.End) → Exec code 0 (limits_of n) n events d → (events ≡ (outcome_of program n).events) × (d ≡ meant)
  unfolding outcome_of
  same events d exec = runs_once code 0 (limits_of n) n events _ d _ exec (runs 0 program.start refl (limits_of n) n)

  ends : (old new : Option (List ℕ)) (d : machine.End) (e : Ending) → EndsSo code 0 (limits_of n) old new d → (d ≡ meant → ending_by (own_type program.start) (outcome_of program n).end ≡ Some e) → Ends program n old new e
  unfolding ending_of output_of
  ends old new d e so is =
      let s = same so.events d so.exec in
      record { ended = is s.1; put = subst (λ es. Appends old new (printed es)) s.0 so.put }

  pub ran_so : (old new : Option (List ℕ)) (result : RunEnd) → RanTo code 0 (limits_of n) old new result → RanSo program n old new (ending_from result)
  unfolding output_of
  ran_so old new (end.Value z) r =
      subst (λ z. Ends program n old new (ending.Number z)) (sym r.number) (ends old new _ (ending.Number (number_of kind.I64 (first_of r.words))) r.so (gave code _ _ r.words r.blocks))
  ran_so old new (end.Trapped trap) r = ends old new _ (ending.Trapped trap) r (trapped code _ _ trap)
  ran_so old new end.Bound r = ends old new _ ending.Bound r (bound code _ _)
  ran_so old new end.WriteFault r = record {
    before = r.before;
    text = r.text;
    behind = r.behind;
    events = sym (same _ r.end r.exec).0;
    some = r.some;
    put = r.put;
  }
  ran_so old new end.NoMemory r = subst (λ es. AppendsFront old new (printed es)) (same r.0.events r.0.end r.0.exec).0 r.0.put

-- ---- a machine that holds a program

module _ (program : Program) (n : ℕ) (m : Option Opened) (h : Holds program (limits_of n) m) where
  pub holds_ran : (old new : Option (List ℕ)) (result : RunEnd) → IfSome m (λ m. RanTo m.code 0 m.limits old new result) → RanSo program n old new (ending_from result)
  holds_ran old new result r = ran_so program n h.code h.runs old new result (subst (λ (o : Option Opened). IfSome o (λ m. RanTo m.code 0 m.limits old new result)) h.opened r)

-- it was opened on the program's code
pub opened_holds : (program : Program) (limits : Limits) (code : Draft) (r : Result (Option Opened) NoMemory) → Runs program.bodies (program.start ∷ []) code → length code.entries ≡ 1 → IfOk r (λ m. m ≡ Some (record { code = code; limits = limits })) → IfOk r (λ m. Holds program limits m)
opened_holds program limits code (Ok m) runs one opened = record { code = code; opened = opened; runs = runs; entries = one }
opened_holds program limits code (Err e) runs one opened = tt
