-- A chain is its operators, each around the ones before it.
use Rattle.std.proofs.Common.{◌≡◌, ℕ, ◌+◌, List, [], ◌∷◌, ◌++◌, length, refl, sym, ap, ◌∙◌, arith, append_assoc, append-nil, length-append}
use Rattle.dc_types.specs.declared.kind.Kind.{Kind}
use Rattle.dc_types.specs.declared.kind.BinOp.{BinOp}
use Rattle.dc_types.specs.declared.place.Place.{Place}
use Rattle.dc_value.specs.declared.value.Value.{Value}
use Rattle.dc_code.specs.declared.instr.Instr.{Instr}
use Rattle.core_tree.specs.Meaning.{State, Ran, Goes, Over, Part, and_then, both, operated, chained}
use Rattle.core_tree.specs.declared.tree.Operation.{Operation}
use Rattle.core_lower_expr.specs.Lowered.{Codes, two_code, then_ops, binary_ops, operations_code, chain_code}

-- an operator on what stands before it and on an operand
abbrev pub binary_code : Place → Kind → Codes → Operation Codes → Codes
binary_code place k c o = then_ops (two_code c o.operand) (binary_ops place o.operator k)

abbrev pub binary_part : Place → Kind → Part Value → Operation (Part Value) → Part Value
binary_part place k m o s = and_then (both m o.operand s) (operated place o.operator k)

abbrev pub nested_code : Place → Kind → Codes → List (Operation Codes) → Codes
nested_code place k c [] = c
nested_code place k c (o ∷ os) = nested_code place k (binary_code place k c o) os

abbrev pub nested_part : Place → Kind → Part Value → List (Operation (Part Value)) → Part Value
nested_part place k m [] = m
nested_part place k m (o ∷ os) = nested_part place k (binary_part place k m o) os

pub nested_code_is : (place : Place) (k : Kind) (os : List (Operation Codes)) (c : Codes) (pc spare : ℕ) → nested_code place k c os pc spare ≡ chain_code place k c os pc spare
nested_code_is place k [] c pc spare = sym (append-nil (c pc spare))
nested_code_is place k (o ∷ os) c pc spare =
    let a = c pc spare in
    let b = o.operand (pc + length a) (spare + 1) in
    let ops = binary_ops place o.operator k spare in
    let rest : ℕ → List Instr = λ p. operations_code place k os p spare in
    let n : pc + length ((a ++ b) ++ ops) ≡ pc + length a + length (b ++ ops) = omega (arith, length-append (a ++ b) ops, length-append a b, length-append b ops) in
    nested_code_is place k os (binary_code place k c o) pc spare
    ∙ ap (λ p. ((a ++ b) ++ ops) ++ rest p) n
    ∙ ap (λ l. l ++ rest (pc + length a + length (b ++ ops))) (append_assoc a b ops)
    ∙ append_assoc a (b ++ ops) (rest (pc + length a + length (b ++ ops)))

goes_on : (r : Ran Value) → r ≡ and_then r (λ x s. Goes x s)
goes_on (Goes x s) = refl
goes_on (Over end events) = refl

module _ (place : Place) (k : Kind) (go : Value → Part Value) where
  operand_first : (o : BinOp) (x : Value) (r : Ran Value) → and_then (and_then (and_then r (λ y s. Goes (x, y) s)) (operated place o k)) go ≡ and_then r (λ y s. and_then (operated place o k (x, y) s) go)
  operand_first o x (Goes y s) = refl
  operand_first o x (Over end events) = refl

  value_first : (o : Operation (Part Value)) (r : Ran Value) →
      and_then (and_then (and_then r (λ x s. and_then (o.operand s) (λ y s. Goes (x, y) s))) (operated place o.operator k)) go ≡ and_then r (λ x s. and_then (o.operand s) (λ y s. and_then (operated place o.operator k (x, y) s) go))
  value_first o (Goes x s) = operand_first o.operator x (o.operand s)
  value_first o (Over end events) = refl

pub nested_part_is : (place : Place) (k : Kind) (os : List (Operation (Part Value))) (m : Part Value) (s : State) → nested_part place k m os s ≡ and_then (m s) (chained place k os)
nested_part_is place k [] m s = goes_on (m s)
nested_part_is place k (o ∷ os) m s = nested_part_is place k os (binary_part place k m o) s ∙ value_first place k (chained place k os) o (m s)
