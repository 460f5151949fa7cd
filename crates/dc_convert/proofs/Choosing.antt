-- Of two candidates at most one beats the other, and at most one is the best.
use Rattle.std.proofs.Common.{◌≡◌, sym, ◌⊎◌, inl, inr, Bool, true, false, not, ◌&&◌, arith}
use Rattle.std.proofs.lemmas.List.Elements.{All-contains}
use Rattle.dc_convert.proofs.Numbering.{are_numbered}
use Rattle.dc_convert.specs.Best.{Numbered, numbered, is_above, is_more_special, before_by, goes_before, Beats, OneBeats, OneBest}

both_special : (f g : Bool) → (f && not g) ≡ true → (g && not f) ≡ true → ⊥
both_special true true e h = cc
both_special true false e h = cc
both_special false g e h = cc

one_before : (p q s t : Bool) → (s ≡ true → t ≡ true → ⊥) → before_by p q s ≡ true → before_by q p t ≡ true → ⊥
one_before true true s t n e h = n e h
one_before false false s t n e h = n e h
one_before true false s t n e h = cc
one_before false true s t n e h = cc

both_before : (a b : Numbered) → goes_before a b ≡ true → goes_before b a ≡ true → ⊥
both_before a b e h = one_before a.candidate.plain b.candidate.plain (is_more_special a b) (is_more_special b a) (both_special (is_above a b) (is_above b a)) e h

pub one_beats : OneBeats
one_beats args a b (inl m) (inl n) = omega (arith, m, n)
one_beats args a b (inl m) (inr n) = omega (arith, m, n.0)
one_beats args a b (inr m) (inl n) = omega (arith, m.0, n)
one_beats args a b (inr m) (inr n) = both_before a b m.1 n.1

pub one_best : OneBest
one_best sets args a b is_a is_b =
    elim (All-contains (λ other. (other.number ≡ a.number) ⊎ Beats args a other) (numbered sets) b is_a.beats is_b.stands) [
      | inl same ↦ (are_numbered sets).distinct a b is_a.stands is_b.stands (sym same)
      | inr beaten ↦ absurd (All-contains (λ other. Beats args other b → ⊥) (numbered sets) a is_b.unbeaten is_a.stands beaten)
    ]
