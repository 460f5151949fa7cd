-- A jump of a loop that is written after the instructions that it passes.
use Rattle.std.proofs.Common.{◌≡◌, ℕ, ◌+◌, List, [], ◌∷◌, ◌++◌, length, sym, ap, ap₂, ◌∙◌, arith, append_assoc, length-append}
use Rattle.std.specs.Prelude.{slice_set}
use Rattle.std.proofs.lemmas.List.{set_at}
use Rattle.dc_types.specs.declared.place.Place.{Place}
use Rattle.dc_code.specs.declared.instr.Op.TheVariants as op
use Rattle.dc_code.specs.declared.instr.Instr.{Instr}
use Rattle.core_lower_expr.specs.Lowered.{Codes, instr}
use Rattle.core_lower.specs.Lowered.{while_code}

pub patch_while : (place : Place) (test body : Codes) (base c1 c2 c3 c4 c5 c6 : List Instr) (x : Instr) (n0 n1 n3 spare : ℕ) → n0 ≡ length base → c1 ≡ base ++ x ∷ [] → n1 ≡ length c1 → c2 ≡ c1 ++ instr place op.Turn ∷ [] → c3 ≡ c2 ++ body (length c2) spare → n3 ≡ length c3 → c4 ≡ c3 ++ test (length c3) spare → c5 ≡ c4 ++ instr place (op.JumpOther spare n1) ∷ [] → c6 ≡ slice_set c5 n0 (instr place (op.Jump n3)) → c6 ≡ base ++ while_code place test body (length base) spare
patch_while place test body base c1 c2 c3 c4 c5 c6 x n0 n1 n3 spare m0 e1 m1 e2 e3 m3 e4 e5 s1 =
    let pc = length base in
    let b = body (pc + 2) spare in
    let t_at = pc + 2 + length b in
    let t = test t_at spare in
    let turn = instr place op.Turn in
    let i = instr place (op.Jump n3) in
    let j = instr place (op.JumpOther spare n1) in
    let l1 : length c1 ≡ pc + 1 = ap length e1 ∙ length-append base (x ∷ []) in
    let l2 : length c2 ≡ pc + 2 = omega (arith, l1, ap length e2 ∙ length-append c1 (turn ∷ [])) in
    let e3' : c3 ≡ c2 ++ b = e3 ∙ ap (λ p. c2 ++ body p spare) l2 in
    let l3 : length c3 ≡ t_at = omega (arith, l2, ap length e3' ∙ length-append c2 b) in
    let e4' : c4 ≡ c3 ++ t = e4 ∙ ap (λ p. c3 ++ test p spare) l3 in
    let all : c5 ≡ ((((base ++ x ∷ []) ++ turn ∷ []) ++ b) ++ t) ++ j ∷ [] = e5 ∙ ap (λ l. l ++ j ∷ []) (e4' ∙ ap (λ l. l ++ t) (e3' ∙ ap (λ l. l ++ b) (e2 ∙ ap (λ l. l ++ turn ∷ []) e1))) in
    let flat : ((((base ++ x ∷ []) ++ turn ∷ []) ++ b) ++ t) ++ j ∷ [] ≡ base ++ x ∷ (turn ∷ (b ++ (t ++ j ∷ []))) = simp append_assoc in
    s1 ∙ ap (λ l. slice_set l n0 i) (all ∙ flat)
    ∙ set_at base x (turn ∷ (b ++ (t ++ j ∷ []))) i n0 (sym m0)
    ∙ ap₂ (λ p q. base ++ instr place (op.Jump p) ∷ (turn ∷ (b ++ (t ++ instr place (op.JumpOther spare q) ∷ [])))) (m3 ∙ l3) (m1 ∙ l1)
