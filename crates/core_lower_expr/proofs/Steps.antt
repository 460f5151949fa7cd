-- Runs of the machine.
use Rattle.std.proofs.Common.{◌≡◌, ℕ, suc, ◌+◌, ◌<◌, List, [], ◌∷◌, ◌++◌, length, Some, refl, ap, ◌∙◌, subst, arith, append_assoc, length-append}
use Rattle.std.specs.Prelude.{slice_get}
use Rattle.std.proofs.lemmas.List.{get_or_at}
use Rattle.std.proofs.lemmas.Option.{slice_get-get_or}
use Rattle.dc_types.specs.declared.event.Limits.{Limits}
use Rattle.dc_code.specs.State.{Machine, Run, On}
use Rattle.dc_code.specs.Exec.{does, at_instr, steps}
use Rattle.dc_code.specs.declared.instr.Instr.{Instr}
use Rattle.dc_code.specs.declared.code.Draft.{Draft}
pub use Rattle.core_lower_expr.specs.Follows.{HasAt, Leads}

pub has_front : (code : List Instr) (pc : ℕ) (a b : List Instr) → HasAt code pc (a ++ b) → HasAt code pc a
has_front code pc [] b h = tt
has_front code pc (i ∷ a) b h = (h.0, has_front code (pc + 1) a b h.1)

pub has_back : (code : List Instr) (pc : ℕ) (a b : List Instr) → HasAt code pc (a ++ b) → HasAt code (pc + length a) b
has_back code pc [] b h = let e : pc ≡ pc + 0 = omega arith in subst (λ n. HasAt code n b) e h
has_back code pc (i ∷ a) b h =
    let e : pc + 1 + length a ≡ pc + length (i ∷ a) = omega arith in
    subst (λ n. HasAt code n b) e (has_back code (pc + 1) a b h.1)

pub has_all : (is pre : List Instr) → HasAt (pre ++ is) (length pre) is
has_all [] pre = tt
has_all (i ∷ is) pre =
    let below : length pre < length (pre ++ i ∷ is) = omega (arith, length-append pre (i ∷ is)) in
    let here = slice_get-get_or (pre ++ i ∷ is) (length pre) i below ∙ ap Some (get_or_at pre i is i (length pre) refl) in
    let n : length (pre ++ i ∷ []) ≡ length pre + 1 = omega (arith, length-append pre (i ∷ [])) in
    let rest = has_all is (pre ++ i ∷ []) in
    let rest' = subst (λ l. HasAt l (length (pre ++ i ∷ [])) is) (append_assoc pre (i ∷ []) is) rest in
    (here, subst (λ m. HasAt (pre ++ i ∷ is) m is) n rest')

module _ (code : Draft) (limits : Limits) where
  pub here : (a b : Run) → a ≡ b → Leads code limits a b
  here a b e = record { by = λ k. (k, ap (steps code limits k) e) }

  pub leads : (a b c : Run) → Leads code limits a b → Leads code limits b c → Leads code limits a c
  leads a b c l m = record { by = λ k. let n = m.by k in let o = l.by n.0 in (o.0, o.1 ∙ n.1) }

  -- one instruction
  pub one : (m : Machine) (i : Instr) (to : Run) → slice_get code.instrs m.pc ≡ Some i → does code limits i m ≡ to → Leads code limits (On m) to
  one m i to h e = record { by = λ k. (suc k, ap (λ o. steps code limits k (at_instr code limits o m)) h ∙ ap (steps code limits k) e) }
