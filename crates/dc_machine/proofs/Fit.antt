-- The instruction at which a machine stands fits its frame.
use Rattle.std.proofs.Common.{◌≡◌, ℕ, ◌+◌, ◌-◌, ◌<◌, ◌≤◌, List, [], ◌∷◌, length, map, reverse, Option, Some, None, zero, suc, refl, sym, ap, ◌∙◌, subst, arith}
use Rattle.std.specs.Prelude.{slice_get, slice_index_or, option_map}
use Rattle.std.specs.List.{All}
use Rattle.std.proofs.lemmas.Option.{slice_get-map, get_or_from_slice_get}
use Rattle.dc_types.specs.declared.event.Limits.{Limits}
use Rattle.dc_code.specs.Slots.{NumberSlots}
use Rattle.dc_code.specs.Sound.{CallsFit, ReturnsFit, NamesFit, IsThere, IsSound}
use Rattle.dc_code.specs.Standing.{Waits}
use Rattle.dc_code.specs.declared.code.Draft.{Draft}
use Rattle.dc_code.specs.declared.instr.Instr.{Instr}
use Rattle.dc_code.specs.declared.instr.Op.{Op}
use Rattle.dc_code.specs.declared.instr.Op.TheVariants as op
use Rattle.dc_code.specs.declared.run.Caller.{Caller}
use Rattle.dc_machine.specs.declared.state.State.{State}
use Rattle.dc_machine.specs.After.{IsSimple, ReturnsFitBack}
use Rattle.dc_machine.specs.Running.{Ready}

pub record Fitted (code : Draft) (m : State) (o : Op) : Type 0 where
  pub instr : Instr
  pub there : slice_get code.instrs m.pc ≡ Some instr
  pub is : o ≡ instr.op
  pub simple : IsSimple o
  pub slots : NumberSlots (length m.words.items - m.base) o
  pub callee : CallsFit code.functions (length m.words.items - m.base) o
  pub back : ReturnsFitBack o (reverse m.callers.items) m.base
  pub names : NamesFit code o

is_there : {A : Type 0} (xs : List A) (g : ℕ) → g < length xs → IsThere (slice_get xs g) (λ x. Unit {0})
is_there [] g h = absurd (omega arith)
is_there (x ∷ xs) zero h = tt
is_there (x ∷ xs) (suc g) h = is_there xs g (omega arith)

waits_fit : (code : Draft) (first : ℕ) (c : Caller) (cs : List Caller) (base result n : ℕ) → Waits code first (c ∷ cs) base result → n ≡ result → c.base + c.slot + n ≤ base
waits_fit code first c cs base result n w e = let r = w.0 in omega (arith, r.frame, r.room, e)

fits_back : (code : Draft) (first : ℕ) (callers : List Caller) (base result : ℕ) (o : Op) → Waits code first callers base result → ReturnsFit result o → ReturnsFitBack o callers base
fits_back code first callers base result (op.Return s n) w r = λ c cs e. let P : List Caller → Type 0 = λ l. Waits code first l base result in waits_fit code first c cs base result n (subst P e w) r
fits_back code first callers base result _ w r = tt

op_at : (instrs : List Instr) (ops : List Op) (pc : ℕ) (i : Instr) (d : Op) → ops ≡ map (λ i. i.op) instrs → slice_get instrs pc ≡ Some i → slice_index_or ops pc d ≡ i.op
op_at instrs ops pc i d e there = get_or_from_slice_get ops pc i.op d (ap (λ ops. slice_get ops pc) e ∙ slice_get-map (λ i. i.op) instrs pc ∙ ap (option_map (λ i. i.op)) there)

simple_at : (instrs : List Instr) (pc : ℕ) (i : Instr) → All (λ i. IsSimple i.op) instrs → pc < length instrs → slice_get instrs pc ≡ Some i → IsSimple i.op
simple_at instrs pc i all lt there = let P : Instr → Type 0 = λ i. IsSimple i.op in subst P (get_or_from_slice_get instrs pc i i there) (all pc i lt)

module _ (code : Draft) (limits : Limits) (m : State) (sound : IsSound code) (r : Ready code limits m) where
  pub pc_there : m.pc < length code.instrs
  pc_there = let f = sound.functions r.stands.within.number r.stands.function r.stands.within.there in omega (arith, r.stands.within.to_end, f.ends)

  fitted_by : (i : Instr) (ops : List Op) (d : Op) → ops ≡ map (λ i. i.op) code.instrs → All (λ i. IsSimple i.op) code.instrs → slice_get code.instrs m.pc ≡ Some i → Fitted code m (slice_index_or ops m.pc d)
  fitted_by i ops d e all there =
      let s = r.stands in
      let f = sound.functions s.within.number s.function s.within.there in
      let h = f.each m.pc i s.within.from_first s.within.to_end there in
      let is = op_at code.instrs ops m.pc i d e there in
      let weight : s.function.weight ≡ length m.words.items - m.base = omega (arith, s.frame) in
      let Slots : ℕ → Op → Type 0 = NumberSlots in
      let Callee : ℕ → Op → Type 0 = CallsFit code.functions in
      let Back : Op → Type 0 = λ o. ReturnsFitBack o (reverse m.callers.items) m.base in
      let Names : Op → Type 0 = NamesFit code in
      let Simple : Op → Type 0 = IsSimple in
      record {
        instr = i;
        there = there;
        is = is;
        simple = subst Simple (sym is) (simple_at code.instrs m.pc i all pc_there there);
        slots = subst (Slots (length m.words.items - m.base)) (sym is) (subst (λ w. Slots w i.op) weight h.numbers);
        callee = subst (Callee (length m.words.items - m.base)) (sym is) (subst (λ w. Callee w i.op) weight h.calls);
        back = subst Back (sym is) (fits_back code r.first (reverse m.callers.items) m.base s.function.result i.op s.waits h.returns);
        names = subst Names (sym is) h.names;
      }

  pub fitted : (ops : List Op) (d : Op) → ops ≡ map (λ i. i.op) code.instrs → All (λ i. IsSimple i.op) code.instrs → Fitted code m (slice_index_or ops m.pc d)
  fitted ops d e all = by (slice_get code.instrs m.pc) refl
    where
      by : (o : Option Instr) → slice_get code.instrs m.pc ≡ o → Fitted code m (slice_index_or ops m.pc d)
      by None is = absurd (subst (λ o. IsThere o (λ x. Unit {0})) is (is_there code.instrs m.pc pc_there))
      by (Some i) is = fitted_by i ops d e all is
