-- A loop that reads a chain of branches.
use Rattle.std.proofs.Common.{◌≡◌, ℕ, suc, ◌+◌, ◌-◌, ◌<◌, ◌≤◌, Bool, true, false, List, [], ◌∷◌, ◌++◌, Option, Some, None, Result, refl, subst, sym, ap, ◌∙◌, append_assoc, arith}
use Rattle.dc_grammar.specs.declared.terminal.Terminal.TheVariants as k
use Rattle.dc_grammar.specs.Terminals.{Tokens}
use Rattle.dc_grammar.specs.declared.miss.Miss.{Miss}
use Rattle.dc_grammar.specs.Gives.{Gives}
use Rattle.dc_grammar.specs.Reading.{Outcome, Reader, and_then, pure, mark, if_any}
use Rattle.dc_grammar.specs.StmtReaders.{chain_from, chain, else_part, ends_with, branch_or, last_else, joined}
use Rattle.dc_parse.specs.Chains.{ended, closing}

pub given_as : {X A : Type 0} (view : X → A × Tokens) (r : Result X Miss) (u w : Outcome A) → w ≡ u → Gives view r u → Gives view r w
given_as {X} {A} view r u w e h = subst (λ (t : Outcome A). Gives view r t) (sym e) h

-- what was read before, and what is read from here on
abbrev pub carried : {B L : Type 0} → List B → Tokens → Outcome (Bool × (List B × Option L)) → Outcome (Bool × (List B × Option L))
carried found back None = ended found back
carried found back (Some v) = Some ((v.0.0, (found ++ v.0.1.0, v.0.1.1)), v.1)

pub starts : {B L : Type 0} (back : Tokens) (r : Outcome (Bool × (List B × Option L))) → carried [] back r ≡ r
starts back (Some v) = refl
starts back None = refl

pub ended_pushed : {B L : Type 0} (found : List B) (b : B) (back : Tokens) → ended {L = L} (found ++ b ∷ []) back ≡ Some ((true, (found ++ b ∷ [], None)), back)
ended_pushed [] b back = refl
ended_pushed (x ∷ xs) b back = refl

pub ended_some : {B L : Type 0} (found : List B) (back : Tokens) → (found ≡ [] → ⊥) → ended {L = L} found back ≡ Some ((true, (found, None)), back)
ended_some [] back some = absurd (some refl)
ended_some (x ∷ xs) back some = refl

abbrev entered : {A : Type 0} → Outcome (Unit {0} × A) → Outcome A
entered r = and_then r (λ z. pure z.1)

abbrev paired : {A : Type 0} → Outcome A → Outcome (Unit {0} × A)
paired r = and_then r (λ y. pure (tt, y))

unwrapped : {A : Type 0} (r : Outcome A) → entered (paired r) ≡ r
unwrapped (Some v) = refl
unwrapped None = refl

module _ {B L : Type 0} (p : Reader (Bool × B)) (o : Tokens → Bool) (q : Reader (Bool × L)) where
  read_one : (n : ℕ) (rest : Tokens) (f : Bool) (b : B) (after : Tokens) → p rest ≡ Some ((f, b), after) → chain_from p o q (suc n) rest ≡ ends_with p o q (chain_from p o q n) (f, b) after
  unfolding chain_from
  read_one n rest f b after e = ap (λ (r : Outcome (Bool × B)). and_then r (ends_with p o q (chain_from p o q n))) e

  behind_else : (more : Reader (Bool × (List B × Option L))) (after behind : Tokens) → mark k.Else after ≡ Some (tt, behind) → else_part p o q more after ≡ branch_or p o q (o behind) more behind
  behind_else more after behind e = ap (λ (r : Outcome (Unit {0})). entered {A = Bool × (List B × Option L)} (and_then r (λ x ts. and_then (branch_or p o q (o ts) more ts) (λ y. pure (x, y))))) e ∙ unwrapped (branch_or p o q (o behind) more behind)

  no_else : (more : Reader (Bool × (List B × Option L))) (after : Tokens) → mark k.Else after ≡ None → else_part p o q more after ≡ None
  no_else more after e = ap (λ (r : Outcome (Unit {0})). entered {A = Bool × (List B × Option L)} (and_then r (λ x ts. and_then (branch_or p o q (o ts) more ts) (λ y. pure (x, y))))) e

  -- the branch and what its `else` gives
  with_else : (b : B) (after : Tokens) (r : Outcome (Bool × (List B × Option L))) → Outcome (Bool × (List B × Option L))
  with_else b after r = and_then (if_any r after) (λ x. pure (joined b x))

  not_taken : (n : ℕ) (b : B) (after : Tokens) → ends_with p o q (chain_from p o q n) (false, b) after ≡ with_else b after (else_part p o q (chain_from p o q n) after)
  unfolding with_else
  not_taken n b after = refl

  module _ (n at : ℕ) (found : List B) (back rest : Tokens) (whole : Outcome (Bool × (List B × Option L))) (below : at < n) (inv : carried found back (chain_from p o q (n - at) rest) ≡ whole) where
    turn : carried found back (chain_from p o q (suc (n - (at + 1))) rest) ≡ whole
    turn = let e : n - at ≡ suc (n - (at + 1)) = omega arith in ap (λ (m : ℕ). carried found back (chain_from p o q m rest)) (sym e) ∙ inv

    pub turn_none : p rest ≡ None → whole ≡ ended found back
    unfolding chain_from
    turn_none e = sym turn ∙ ap (λ (r : Outcome (Bool × B)). carried found back (and_then r (ends_with p o q (chain_from p o q (n - (at + 1)))))) e

    module _ (b : B) (after : Tokens) where
      pub turn_taken : p rest ≡ Some ((true, b), after) → whole ≡ Some ((true, (found ++ b ∷ [], None)), after)
      turn_taken e = sym turn ∙ ap (carried found back) (read_one (n - (at + 1)) rest true b after e)

      else_by : p rest ≡ Some ((false, b), after) → whole ≡ carried found back (with_else b after (else_part p o q (chain_from p o q (n - (at + 1))) after))
      else_by e = sym turn ∙ ap (carried found back) (read_one (n - (at + 1)) rest false b after e ∙ not_taken (n - (at + 1)) b after)

      pub turn_alone : p rest ≡ Some ((false, b), after) → mark k.Else after ≡ None → whole ≡ Some ((true, (found ++ b ∷ [], None)), after)
      unfolding with_else
      turn_alone e absent = else_by e ∙ ap (λ (r : Outcome (Bool × (List B × Option L))). carried found back (with_else b after r)) (no_else (chain_from p o q (n - (at + 1))) after absent)

      last_cases : (behind : Tokens) (r : Outcome (Bool × L)) → carried found back (with_else b after (and_then r (λ v. pure (v.0, ([], Some v.1))))) ≡ closing (found ++ b ∷ []) after r
      unfolding with_else
      last_cases behind (Some v) = refl
      last_cases behind None = refl

      pub turn_last : (behind : Tokens) → p rest ≡ Some ((false, b), after) → mark k.Else after ≡ Some (tt, behind) → o behind ≡ false → whole ≡ closing (found ++ b ∷ []) after (q behind)
      turn_last behind e there opens =
          let other : else_part p o q (chain_from p o q (n - (at + 1))) after ≡ and_then (q behind) (λ v. pure (v.0, ([], Some v.1)))
          = behind_else (chain_from p o q (n - (at + 1))) after behind there ∙ ap (λ (t : Bool). branch_or p o q t (chain_from p o q (n - (at + 1))) behind) opens in
          else_by e ∙ ap (λ (r : Outcome (Bool × (List B × Option L))). carried found back (with_else b after r)) other ∙ last_cases behind (q behind)

      more_cases : (r : Outcome (Bool × (List B × Option L))) → carried found back (with_else b after r) ≡ carried (found ++ b ∷ []) after r
      unfolding with_else
      more_cases (Some v) = rw append_assoc refl
      more_cases None = sym (ended_pushed found b after)

      pub turn_more : (behind : Tokens) → p rest ≡ Some ((false, b), after) → mark k.Else after ≡ Some (tt, behind) → o behind ≡ true → carried (found ++ b ∷ []) after (chain_from p o q (n - (at + 1)) behind) ≡ whole
      turn_more behind e there opens =
          let other : else_part p o q (chain_from p o q (n - (at + 1))) after ≡ chain_from p o q (n - (at + 1)) behind
          = behind_else (chain_from p o q (n - (at + 1))) after behind there ∙ ap (λ (t : Bool). branch_or p o q t (chain_from p o q (n - (at + 1))) behind) opens in
          sym (else_by e ∙ ap (λ (r : Outcome (Bool × (List B × Option L))). carried found back (with_else b after r)) other ∙ more_cases (chain_from p o q (n - (at + 1)) behind))

  pub turn_over : (n at : ℕ) (found : List B) (back rest : Tokens) (whole : Outcome (Bool × (List B × Option L))) → n ≤ at → carried found back (chain_from p o q (n - at) rest) ≡ whole → whole ≡ ended found back
  unfolding chain_from
  turn_over n at found back rest whole done inv = let e : n - at ≡ 0 = omega arith in sym inv ∙ ap (λ (m : ℕ). carried found back (chain_from p o q m rest)) e
