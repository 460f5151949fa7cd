-- What each instruction of sound code does fits its function.
use Rattle.std.proofs.Common.{◌≡◌, ℕ, zero, suc, ◌+◌, ◌-◌, ◌*◌, ◌<◌, ◌≤◌, ◌==◌, ◌&&◌, Bool, true, false, nat_lt, nat_le, List, [], ◌∷◌, length, Option, Some, None, Result, Ok, Err, refl, sym, ap, ◌∙◌, arith, ℤ, add_comm}
use Rattle.std.proofs.Math.Nat.{suc-mul, zero-mul}
use Rattle.std.proofs.lemmas.List.{length-append}
use Rattle.std.proofs.lemmas.Bool.{eqb-true}
use Rattle.std.specs.Prelude.{slice_get, if◌then◌else◌}
use Rattle.dc_types.specs.declared.event.TrapKind.{TrapKind}
use Rattle.dc_types.specs.Integers.{binary}
use Rattle.dc_code.specs.State.{Machine}
use Rattle.dc_code.specs.Blocks.{word_in, words_in, put, words_at, slice_words, grows, overlaps, repeated}
use Rattle.dc_code.specs.Effect.{Effect, Writes, Goes, Turns, Calls, Returns, Changes, Makes, Lengthens, Prints, Flushes, Traps, Sticks}
use Rattle.dc_code.specs.Table.{effect, number_in, second_kind, computes, named, found, item, part, copies}
use Rattle.dc_code.specs.Sound.{IsThere, IsTurn, JumpFits, CalleeFits, InstrFits, IsLast}
use Rattle.dc_code.specs.declared.instr.Op.{Op}
use Rattle.dc_code.specs.declared.instr.Op.TheVariants as op
use Rattle.dc_code.specs.declared.instr.Function.{Function}
use Rattle.dc_code.specs.declared.code.Draft.{Draft}
use Rattle.dc_code.proofs.Words.{length-words_in, fills, length-put_found}

pub is_there : {A : Type 0} (xs : List A) (g : ℕ) → g < length xs → IsThere (slice_get xs g) (λ x. Unit {0})
is_there [] g h = absurd (omega arith)
is_there (x ∷ xs) zero h = tt
is_there (x ∷ xs) (suc g) h = is_there xs g (omega arith)

length-repeated : (n : ℕ) (ws : List ℕ) → length (repeated n ws) ≡ n * length ws
length-repeated zero ws = sym (zero-mul (length ws))
length-repeated (suc n) ws = length-append ws (repeated n ws) ∙ ap (λ k. length ws + k) (length-repeated n ws) ∙ add_comm (length ws) (n * length ws) ∙ sym (suc-mul n (length ws))

module _ (code : Draft) (m : Machine) (f : Function) (end : ℕ) where
  abbrev Next : Type 0
  Next = m.pc + 1 < end

  -- what an effect is to meet in the function f, whose instructions end before `end`
  abbrev pub EffectFits : Effect → Type 0
  EffectFits (Writes d ws) = (d + length ws ≤ f.weight) × Next
  EffectFits (Goes t) = (f.first ≤ t) × (t < end) × (t ≤ m.pc → IsThere (slice_get code.instrs t) (λ i. IsTurn i.op))
  EffectFits Turns = Next
  EffectFits (Calls g a d) = (k : ℕ) × (slice_get code.functions k ≡ Some g) × CalleeFits f.weight a d g × Next
  EffectFits (Returns ws) = length ws ≡ f.result
  EffectFits (Changes block start ws) = (block ≡ 0 → length (put m.words start ws) ≡ length m.words) × Next
  EffectFits (Makes d rest ws growable) = (d + suc (length rest) ≤ f.weight) × Next
  EffectFits (Lengthens d rest block ws) = (d + length rest ≤ f.weight) × Next
  EffectFits (Prints bytes) = Next
  EffectFits Flushes = Next
  EffectFits (Traps trap) = Unit {0}
  EffectFits Sticks = ⊥

  found_fits : (o : Option (List ℕ)) (go : List ℕ → Effect) → ((ws : List ℕ) → o ≡ Some ws → EffectFits (go ws)) → EffectFits (found o go)
  found_fits None go h = tt
  found_fits (Some ws) go h = h ws refl

  named_fits : {A : Type 0} (o : Option A) (P : A → Type 0) (go : A → Effect) → IsThere o P → ((a : A) → o ≡ Some a → P a → EffectFits (go a)) → EffectFits (named o go)
  named_fits None P go there h = absurd there
  named_fits (Some a) P go there h = h a refl there

  if_fits : (b : Bool) (x y : Effect) → EffectFits x → EffectFits y → EffectFits (if b then x else y)
  if_fits true x y h k = h
  if_fits false x y h k = k

  goes_fits : (b : Bool) (t u : ℕ) → EffectFits (Goes t) → EffectFits (Goes u) → EffectFits (Goes (if b then t else u))
  goes_fits true t u h k = h
  goes_fits false t u h k = k

  computes_fits : (d : ℕ) (r : Result ℤ TrapKind) → d < f.weight → Next → EffectFits (computes d r)
  computes_fits d (Ok z) h n = (omega arith, n)
  computes_fits d (Err trap) h n = tt

  jump_fits : (t : ℕ) → JumpFits code.instrs f.first end m.pc t → EffectFits (Goes t)
  jump_fits t j = (j.from_first, j.to_end, j.back)

  module _ (frame : m.base + f.weight ≡ length m.words) (from_first : f.first ≤ m.pc) where
    next_fits : Next → EffectFits (Goes (m.pc + 1))
    next_fits n = (omega arith, n, λ h. absurd (omega arith))

    long : (s n : ℕ) → s + n ≤ f.weight → length (words_in m s n) ≡ n
    long s n h = let le : m.base + s + n ≤ length m.words = omega arith in length-words_in m s n le

    change_fits : (block start n : ℕ) (old ws : List ℕ) → words_at m block start n ≡ Some old → length ws ≡ n → Next → EffectFits (Changes block start ws)
    change_fits block start n old ws e l n' = (length-put_found m block start n old ws e l, n')

    item_fits : (d block start n c i : ℕ) → d + 2 ≤ f.weight → Next → EffectFits (item d block start n c i)
    item_fits d block start n c i h next = if_fits (nat_lt i n) (Writes d (block ∷ (start + i * c) ∷ [])) (Traps _) (omega arith, next) tt

    part_fits : (d block start n c i j : ℕ) → d + 3 ≤ f.weight → Next → EffectFits (part d block start n c i j)
    part_fits d block start n c i j h next = if_fits (nat_le i j && nat_le j n) (Writes d (block ∷ (start + i * c) ∷ (j - i) ∷ [])) (Traps _) (omega arith, next) tt

    copies_by : (b o : Bool) (block start : ℕ) (ws : List ℕ) (x y : TrapKind) → (b ≡ true → EffectFits (Changes block start ws)) → EffectFits (if b then if o then Traps x else Changes block start ws else Traps y)
    copies_by true true block start ws x y h = tt
    copies_by true false block start ws x y h = h refl
    copies_by false o block start ws x y h = tt

    copies_fits : (a b c : ℕ) (old ws : List ℕ) → slice_words m a c ≡ Some old → slice_words m b c ≡ Some ws → Next → EffectFits (copies m a b ws)
    copies_fits a b c old ws e g next =
        let w = (fills m (word_in m b) (word_in m (b + 1)) (word_in m (b + 2) * c) ws g).long in
        copies_by (word_in m (a + 2) == word_in m (b + 2)) (overlaps (word_in m a) (word_in m (a + 1)) (word_in m b) (word_in m (b + 1)) (length ws)) (word_in m a) (word_in m (a + 1)) ws _ _
        (λ is. change_fits (word_in m a) (word_in m (a + 1)) (word_in m (a + 2) * c) old ws e (w ∙ ap (λ n. n * c) (sym (eqb-true (word_in m (a + 2)) (word_in m (b + 2)) is))) next)

    fill_fits : (a s c : ℕ) (old : List ℕ) → s + c ≤ f.weight → slice_words m a c ≡ Some old → Next → EffectFits (Changes (word_in m a) (word_in m (a + 1)) (repeated (word_in m (a + 2)) (words_in m s c)))
    fill_fits a s c old h e next =
        change_fits (word_in m a) (word_in m (a + 1)) (word_in m (a + 2) * c) old _ e
        (length-repeated (word_in m (a + 2)) (words_in m s c) ∙ ap (λ n. word_in m (a + 2) * n) (long s c h)) next

    -- the table, line by line
    pub fits : (o : Op) → InstrFits code f end m.pc o → ((IsLast o → ⊥) → Next) → EffectFits (effect code m o)
    fits (op.Const d w) i n = let h : d < f.weight = i.numbers in (omega arith, n (λ h. h))
    fits (op.Copy d s n') i n = let h : (d + n' ≤ f.weight) × (s + n' ≤ f.weight) = i.numbers in let l = long s n' h.1 in (omega (arith, l, h.0), n (λ h. h))
    fits (op.Binary o k d a b) i n = computes_fits d (binary o k (number_in k m a) (number_in (second_kind o k) m b)) (i.numbers).0 (n (λ h. h))
    fits (op.Unary o k d a) i n = let h : d < f.weight = (i.numbers).0 in (omega arith, n (λ h. h))
    fits (op.Compare o k d a b) i n = let h : d < f.weight = (i.numbers).0 in (omega arith, n (λ h. h))
    fits (op.Cast k d a) i n = let h : d < f.weight = (i.numbers).0 in (omega arith, n (λ h. h))
    fits (op.Jump t) i n = jump_fits t i.jumps
    fits (op.JumpZero s t) i n = goes_fits (word_in m s == 0) t (m.pc + 1) (jump_fits t i.jumps) (next_fits (n (λ h. h)))
    fits (op.JumpOther s t) i n = goes_fits (word_in m s == 0) (m.pc + 1) t (next_fits (n (λ h. h))) (jump_fits t i.jumps)
    fits op.Turn i n = n (λ h. h)
    fits (op.Call g a d) i n = named_fits (slice_get code.functions g) (CalleeFits f.weight a d) (λ g. Calls g a d) i.calls (λ g' e c. (g, e, c, n (λ h. h)))
    fits (op.Return s n') i n = let h : s + n' ≤ f.weight = i.numbers in long s n' h ∙ i.returns
    fits (op.FrameAt d s) i n = let h : d + 2 ≤ f.weight = (i.addresses).0 in (omega arith, n (λ h. h))
    fits (op.GlobalAt d g) i n = named_fits (slice_get code.globals g) (λ x. Unit {0}) _ (is_there code.globals g i.names) (λ x e t. let h : d + 2 ≤ f.weight = i.addresses in (omega arith, n (λ h. h)))
    fits (op.Data d g) i n = named_fits (slice_get code.blocks g) (λ x. Unit {0}) _ (is_there code.blocks g i.names) (λ x e t. let h : d + 3 ≤ f.weight = i.addresses in (omega arith, n (λ h. h)))
    fits (op.Load d p n') i n = found_fits (words_at m (word_in m p) (word_in m (p + 1)) n') (λ ws. Writes d ws)
        (λ ws e. let h : d + n' ≤ f.weight = (i.addresses).0 in let l = (fills m (word_in m p) (word_in m (p + 1)) n' ws e).long in (omega (arith, h, l), n (λ h. h)))
    fits (op.Store p s n') i n = found_fits (words_at m (word_in m p) (word_in m (p + 1)) n') (λ old. Changes (word_in m p) (word_in m (p + 1)) (words_in m s n'))
        (λ old e. change_fits (word_in m p) (word_in m (p + 1)) n' old (words_in m s n') e (long s n' (i.addresses).1) (n (λ h. h)))
    fits (op.Item d v s c) i n = found_fits (slice_words m v c) _ (λ ws e. item_fits d (word_in m v) (word_in m (v + 1)) (word_in m (v + 2)) c (word_in m s) (i.addresses).0 (n (λ h. h)))
    fits (op.FixedItem d p s n' c) i n = found_fits (words_at m (word_in m p) (word_in m (p + 1)) (n' * c)) _ (λ ws e. item_fits d (word_in m p) (word_in m (p + 1)) n' c (word_in m s) (i.addresses).0 (n (λ h. h)))
    fits (op.Part d v a b c) i n = found_fits (slice_words m v c) _ (λ ws e. part_fits d (word_in m v) (word_in m (v + 1)) (word_in m (v + 2)) c (word_in m a) (word_in m b) (i.addresses).0 (n (λ h. h)))
    fits (op.FixedPart d p a b n' c) i n = found_fits (words_at m (word_in m p) (word_in m (p + 1)) (n' * c)) _ (λ ws e. part_fits d (word_in m p) (word_in m (p + 1)) n' c (word_in m a) (word_in m b) (i.addresses).0 (n (λ h. h)))
    fits (op.Own d c) i n = let h : d + 2 ≤ f.weight = i.blocks in (omega arith, n (λ h. h))
    fits (op.Make d s e c g) i n = named_fits (slice_get code.blocks e) (λ words. length words ≡ c) _ i.names (λ words x t. ((i.blocks).0, n (λ h. h)))
    fits (op.List d s n' c g) i n = ((i.blocks).0, n (λ h. h))
    fits (op.Join d a b c g) i n = found_fits (slice_words m a c) _ (λ xs e. found_fits (slice_words m b c) _ (λ ys e'. ((i.blocks).0, n (λ h. h))))
    fits (op.Append d a b c g) i n = found_fits (slice_words m a c) _ (λ xs e. found_fits (slice_words m b c) _ (λ ys e'.
        if_fits (grows m (word_in m a) (word_in m (a + 1) + length xs)) _ _ (let h : d + 3 ≤ f.weight = (i.blocks).0 in (omega arith, n (λ h. h))) (((i.blocks).0, n (λ h. h)))))
    fits (op.CopyPart a b c) i n = found_fits (slice_words m a c) _ (λ old e. found_fits (slice_words m b c) _ (λ ws e'. copies_fits a b c old ws e e' (n (λ h. h))))
    fits (op.Fill a s c) i n = found_fits (slice_words m a c) _ (λ old e. fill_fits a s c old (i.blocks).1 e (n (λ h. h)))
    fits (op.Same d a b c) i n = found_fits (slice_words m a c) _ (λ xs e. found_fits (slice_words m b c) _ (λ ys e'. let h : d < f.weight = (i.blocks).0 in (omega arith, n (λ h. h))))
    fits (op.Number d k s) i n = ((i.blocks).0, n (λ h. h))
    fits (op.PutInt k s) i n = n (λ h. h)
    fits (op.PutText v) i n = found_fits (slice_words m v 1) _ (λ ws e. n (λ h. h))
    fits (op.PutList k v) i n = found_fits (slice_words m v 1) _ (λ ws e. n (λ h. h))
    fits (op.PutData g) i n = named_fits (slice_get code.blocks g) (λ x. Unit {0}) _ (is_there code.blocks g i.names) (λ x e t. n (λ h. h))
    fits op.Flush i n = n (λ h. h)
    fits (op.Check s trap) i n = if_fits (word_in m s == 0) (Traps trap) (Goes (m.pc + 1)) tt (next_fits (n (λ h. h)))
