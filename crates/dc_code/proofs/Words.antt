-- Lengths of words.
use Rattle.std.proofs.Common.{◌≡◌, ℕ, zero, suc, ◌+◌, ◌≤◌, ◌==◌, ◌⊎◌, inl, inr, Bool, true, false, nat_le, List, [], ◌++◌, length, take, drop, Option, Some, None, refl, sym, ap, subst, arith}
use Rattle.std.specs.Prelude.{if◌then◌else◌}
use Rattle.std.proofs.lemmas.List.{length-take, length-drop, length-append}
use Rattle.std.proofs.lemmas.Bool.{leb-true, eqb-true}
use Rattle.dc_code.specs.State.{Machine}
use Rattle.dc_code.specs.Blocks.{words_in, put, piece, words_at, block_words, if_there}

pub length-put : (words : List ℕ) (i : ℕ) (ws : List ℕ) → i + length ws ≤ length words → length (put words i ws) ≡ length words
length-put words i ws h =
    omega (arith, length-append (take i words) (ws ++ drop (i + length ws) words), length-append ws (drop (i + length ws) words), length-take i words, length-drop (i + length ws) words, h)

pub length-words_in : (m : Machine) (s n : ℕ) → m.base + s + n ≤ length m.words → length (words_in m s n) ≡ n
length-words_in m s n h = omega (arith, length-take n (drop (m.base + s) m.words), length-drop (m.base + s) m.words, h)

pub some_is : {A : Type 0} (a b : A) → Some a ≡ Some b → a ≡ b
some_is {A} a b e = ap (or a) e where
  or : A → Option A → A
  or d None = d
  or d (Some a) = a

pub none_isn't : {A : Type 0} (a : A) → None ≡ Some a → ⊥
none_isn't {A} a e = subst IsNothing e tt where
  IsNothing : Option A → Type 0
  IsNothing None = Unit {0}
  IsNothing (Some a) = ⊥

-- what is found of a block: it has so many words
pub record Fills (m : Machine) (block start n : ℕ) (ws : List ℕ) : Type 0 where
  pub long : length ws ≡ n
  pub inside : block ≡ 0 → (n ≡ 0) ⊎ (start + n ≤ length m.words)

piece_by : (b : Bool) (words : List ℕ) (start n : ℕ) (ws : List ℕ) → nat_le (start + n) (length words) ≡ b → (if b then Some (take n (drop start words)) else None) ≡ Some ws → (length ws ≡ n) × (start + n ≤ length words)
piece_by true words start n ws is e =
    let h = leb-true (start + n) (length words) is in
    let l = ap length (sym (some_is (take n (drop start words)) ws e)) in
    (omega (arith, h, l, length-take n (drop start words), length-drop start words), h)
piece_by false words start n ws is e = absurd (none_isn't ws e)

pub piece_long : (words : List ℕ) (start n : ℕ) (ws : List ℕ) → piece start n words ≡ Some ws → (length ws ≡ n) × (start + n ≤ length words)
piece_long words start n ws e = piece_by (nat_le (start + n) (length words)) words start n ws refl e

piece_found : (m : Machine) (block start n : ℕ) (o : Option (List ℕ)) (ws : List ℕ) → (block ≡ 0 → o ≡ Some m.words) → if_there o (piece start n) ≡ Some ws → Fills m block start n ws
piece_found m block start n None ws is e = absurd (none_isn't ws e)
piece_found m block start n (Some words) ws is e =
    let p = piece_long words start n ws e in
    record {
      long = p.0;
      inside = λ z. inr (let l = ap length (some_is words m.words (is z)) in omega (arith, p.1, l));
    }

block_zero : (m : Machine) (block : ℕ) → block ≡ 0 → block_words m block ≡ Some m.words
block_zero m zero z = refl
block_zero m (suc b) z = absurd (omega arith)

fills_by : (b : Bool) (m : Machine) (block start n : ℕ) (ws : List ℕ) → (n == 0) ≡ b → (if b then Some [] else if_there (block_words m block) (piece start n)) ≡ Some ws → Fills m block start n ws
fills_by true m block start n ws is e =
    let z = eqb-true n 0 is in
    let l = ap length (sym (some_is [] ws e)) in
    record { long = omega (arith, z, l); inside = λ zero_block. inl z }
fills_by false m block start n ws is e = piece_found m block start n (block_words m block) ws (block_zero m block) e

pub fills : (m : Machine) (block start n : ℕ) (ws : List ℕ) → words_at m block start n ≡ Some ws → Fills m block start n ws
fills m block start n ws e = fills_by (n == 0) m block start n ws refl e

pub length-put_found : (m : Machine) (block start n : ℕ) (old ws : List ℕ) → words_at m block start n ≡ Some old → length ws ≡ n → block ≡ 0 → length (put m.words start ws) ≡ length m.words
length-put_found m block start n old ws e l z = by_room ((fills m block start n old e).inside z) where
  by_room : (n ≡ 0) ⊎ (start + n ≤ length m.words) → length (put m.words start ws) ≡ length m.words
  by_room (inl none) = omega (arith, none, l, length-append (take start m.words) (ws ++ drop (start + length ws) m.words), length-append ws (drop (start + length ws) m.words), length-take start m.words, length-drop (start + length ws) m.words)
  by_room (inr h) = let le : start + length ws ≤ length m.words = omega (arith, h, l) in length-put m.words start ws le
