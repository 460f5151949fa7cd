use Rattle.std.proofs.Common.{rules, ◌≡◌, ◌<◌, Some, length, replicate, get_or, refl, sym, ap, ◌∙◌, subst, arith}
use Rattle.std.specs.Prelude.{slice_get}
use Rattle.std.proofs.lemmas.Option.{slice_get-get_or, slice_get_read}
use Rattle.dc_code.specs.State.{Machine, On}
use Rattle.dc_code.specs.Standing.{Stands}
use Rattle.dc_machine.specs.declared.state.State.{State}
use Rattle.dc_machine.proofs.Begin.{begins_at, first_is}
use Rattle.dc_machine.proofs.start.first_state.Goals as goal

pub returns-clause-start : goal.returns-clause-start
returns-clause-start c =
    let code = c.args.code.now in
    let g = c.in-Some.function.now in
    let n = get_or c.entries.result.now c.args.entry 0 in
    let look = c.in-Some.ensures.lookup in
    let there : slice_get code.functions n ≡ Some g = ap (λ xs. slice_get xs n) (sym c.functions.ensures) ∙ slice_get_read c.functions.result.now (length c.functions.result.now) n g refl (look.3).0 look.1 in
    let lt : c.args.entry < length c.entries.result.now = rw c.entries.ensures c.requires.entry in
    let is : slice_get code.entries c.args.entry ≡ Some n = ap (λ xs. slice_get xs c.args.entry) (sym c.entries.ensures) ∙ slice_get-get_or c.entries.result.now c.args.entry 0 lt in
    let words : c.resize.new.self.items ≡ replicate g.weight 0 = search rules in
    let state : State = record { pc = g.first; words = c.resize.new.self; base = 0; callers = c.args.callers; nest = record { depth = 0; weight = 0 }; pending = c.new.result; left = c.args.limits.ticks } in
    ap (λ m. On m) (first_is code c.args.limits.ticks g state refl words refl c.requires.no_callers refl c.new.ensures.items refl)
    ∙ sym (begins_at code c.args.entry c.args.limits.ticks n g is there)

pub returns-clause-begins : goal.returns-clause-begins
returns-clause-begins c =
    let code = c.args.code.now in
    let g = c.in-Some.function.now in
    let n = get_or c.entries.result.now c.args.entry 0 in
    let look = c.in-Some.ensures.lookup in
    let there : slice_get code.functions n ≡ Some g = ap (λ xs. slice_get xs n) (sym c.functions.ensures) ∙ slice_get_read c.functions.result.now (length c.functions.result.now) n g refl (look.3).0 look.1 in
    let words : c.resize.new.self.items ≡ replicate g.weight 0 = search rules in
    let state : State = record { pc = g.first; words = c.resize.new.self; base = 0; callers = c.args.callers; nest = record { depth = 0; weight = 0 }; pending = c.new.result; left = c.args.limits.ticks } in
    let same = first_is code c.args.limits.ticks g state refl words refl c.requires.no_callers refl c.new.ensures.items refl in
    let P : Machine → Type 0 = λ m. Stands code c.args.limits g.weight m in
    let fit = c.requires.sound.functions n g there in
    record {
      first = g.weight;
      stands = subst P (sym same) ((c.keeps_standing.ensures c.args.limits g.weight).begins c.args.limits.ticks n g there refl);
      words = omega (arith, fit.weight, c.resize.ensures.capacity, c.requires.words);
      callers = c.requires.callers;
    }
