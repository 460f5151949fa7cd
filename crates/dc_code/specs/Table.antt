-- The table of instructions: what each one does.
use Rattle.std.specs.Prelude.{ℕ, suc, ◌+◌, ◌-◌, ◌*◌, ◌%◌, ◌^◌, ◌&&◌, ◌==◌, Bool, true, false, nat_lt, nat_le, List, [], ◌∷◌, ◌++◌, map, length, Option, Some, None, Result, Ok, Err, slice_get, ℤ, if◌then◌else◌}
use Rattle.std.specs.Str.{bytes_eq}
use Rattle.dc_types.specs.declared.kind.Kind.{Kind}
use Rattle.dc_types.specs.declared.kind.Kind.TheVariants as kind
use Rattle.dc_types.specs.declared.kind.BinOp.{BinOp}
use Rattle.dc_types.specs.declared.kind.BinOp.TheVariants as binop
use Rattle.dc_types.specs.declared.event.TrapKind.{TrapKind}
use Rattle.dc_types.specs.declared.event.TrapKind.TheVariants.{Bounds, Length, Overlap}
use Rattle.dc_types.specs.Integers.{binary, unary, compare}
use Rattle.dc_code.specs.State.{Machine}
use Rattle.dc_code.specs.Numbers.{number_of, word_of, bit_of, byte_of, text_of, list_text}
use Rattle.dc_code.specs.Blocks.{word_in, words_in, words_at, slice_words, grows, overlaps, repeated}
use Rattle.dc_code.specs.Effect.{Effect, Writes, Goes, Turns, Calls, Returns, Changes, Makes, Lengthens, Prints, Flushes, Traps, Sticks}
use Rattle.dc_code.specs.declared.instr.Op.{Op}
use Rattle.dc_code.specs.declared.instr.Op.TheVariants as op
use Rattle.dc_code.specs.declared.code.Draft.{Draft}

-- ---- numbers

abbrev pub number_in : Kind → Machine → ℕ → ℤ
number_in k m s = number_of k (word_in m s)

-- the kind of an operator's second operand: the count of a shift is a `long`
abbrev pub second_kind : BinOp → Kind → Kind
second_kind binop.Shl k = kind.I64
second_kind binop.Shr k = kind.I64
second_kind binop.Ushr k = kind.I64
second_kind _ k = k

abbrev pub computes : ℕ → Result ℤ TrapKind → Effect
computes d (Ok z) = Writes d (word_of z ∷ [])
computes d (Err trap) = Traps trap

-- ---- what the code names

abbrev pub named : {A : Type 0} → Option A → (A → Effect) → Effect
named None go = Sticks
named (Some a) go = go a

-- ---- words of blocks

-- An address or a slice that names a word which no block has is the trap Bounds, before any change.
abbrev pub found : Option (List ℕ) → (List ℕ → Effect) → Effect
found None go = Traps Bounds
found (Some ws) go = go ws

-- the address of element i of n, which have c cells each
abbrev pub item : ℕ → ℕ → ℕ → ℕ → ℕ → ℕ → Effect
item d block start n c i = if nat_lt i n then Writes d (block ∷ (start + i * c) ∷ []) else Traps Bounds

-- the slice of the elements from i to j of n
abbrev pub part : ℕ → ℕ → ℕ → ℕ → ℕ → ℕ → ℕ → Effect
part d block start n c i j = if nat_le i j && nat_le j n then Writes d (block ∷ (start + i * c) ∷ (j - i) ∷ []) else Traps Bounds

-- A new block whose slice has so many elements. A number is stored modulo 2 ^ 64.
abbrev pub makes : ℕ → ℕ → List ℕ → Bool → Effect
makes d n ws growable = Makes d (0 ∷ n % 2 ^ 64 ∷ []) ws growable

-- x behind the slice of n elements at `start`, which ends with its block
abbrev pub lengthens : ℕ → ℕ → ℕ → ℕ → List ℕ → Effect
lengthens d block start n ws = Lengthens d (block ∷ start ∷ n % 2 ^ 64 ∷ []) block ws

abbrev pub copies : Machine → ℕ → ℕ → List ℕ → Effect
copies m a b ws =
    if word_in m (a + 2) == word_in m (b + 2)
    then if overlaps (word_in m a) (word_in m (a + 1)) (word_in m b) (word_in m (b + 1)) (length ws)
    then Traps Overlap
    else Changes (word_in m a) (word_in m (a + 1)) ws
    else Traps Length

-- ---- the table

abbrev pub effect : Draft → Machine → Op → Effect
effect code m (op.Const d w) = Writes d (w ∷ [])
effect code m (op.Copy d s n) = Writes d (words_in m s n)
effect code m (op.Binary o k d a b) = computes d (binary o k (number_in k m a) (number_in (second_kind o k) m b))
effect code m (op.Unary o k d a) = Writes d (word_of (unary o k (number_in k m a)) ∷ [])
effect code m (op.Compare o k d a b) = Writes d (bit_of (compare o (number_in k m a) (number_in k m b)) ∷ [])
effect code m (op.Cast k d a) = Writes d (word_of (number_in k m a) ∷ [])
effect code m (op.Jump t) = Goes t
effect code m (op.JumpZero s t) = Goes (if word_in m s == 0 then t else m.pc + 1)
effect code m (op.JumpOther s t) = Goes (if word_in m s == 0 then m.pc + 1 else t)
effect code m op.Turn = Turns
effect code m (op.Call f a d) = named (slice_get code.functions f) (λ f. Calls f a d)
effect code m (op.Return s n) = Returns (words_in m s n)
effect code m (op.FrameAt d s) = Writes d (0 ∷ (m.base + s) ∷ [])
effect code m (op.GlobalAt d g) = named (slice_get code.globals g) (λ words. Writes d (suc (length code.blocks + g) ∷ 0 ∷ []))
effect code m (op.Data d g) = named (slice_get code.blocks g) (λ words. Writes d (suc g ∷ 0 ∷ length words ∷ []))
effect code m (op.Load d p n) = found (words_at m (word_in m p) (word_in m (p + 1)) n) (λ ws. Writes d ws)
effect code m (op.Store p s n) = found (words_at m (word_in m p) (word_in m (p + 1)) n) (λ old. Changes (word_in m p) (word_in m (p + 1)) (words_in m s n))
effect code m (op.Item d v s c) = found (slice_words m v c) (λ ws. item d (word_in m v) (word_in m (v + 1)) (word_in m (v + 2)) c (word_in m s))
effect code m (op.FixedItem d p s n c) = found (words_at m (word_in m p) (word_in m (p + 1)) (n * c)) (λ ws. item d (word_in m p) (word_in m (p + 1)) n c (word_in m s))
effect code m (op.Part d v a b c) = found (slice_words m v c) (λ ws. part d (word_in m v) (word_in m (v + 1)) (word_in m (v + 2)) c (word_in m a) (word_in m b))
effect code m (op.FixedPart d p a b n c) = found (words_at m (word_in m p) (word_in m (p + 1)) (n * c)) (λ ws. part d (word_in m p) (word_in m (p + 1)) n c (word_in m a) (word_in m b))
effect code m (op.Own d c) = Makes d (0 ∷ []) (repeated c (0 ∷ [])) false
effect code m (op.Make d s e c growable) = named (slice_get code.blocks e) (λ words. makes d (word_in m s) (repeated (word_in m s) words) growable)
effect code m (op.List d s n c growable) = makes d n (words_in m s (n * c)) growable
effect code m (op.Join d a b c growable) = found (slice_words m a c) (λ xs. found (slice_words m b c) (λ ys. makes d (word_in m (a + 2) + word_in m (b + 2)) (xs ++ ys) growable))
effect code m (op.Append d a b c growable) = found (slice_words m a c) (λ xs. found (slice_words m b c) (λ ys.
    if grows m (word_in m a) (word_in m (a + 1) + length xs)
    then lengthens d (word_in m a) (word_in m (a + 1)) (word_in m (a + 2) + word_in m (b + 2)) ys
    else makes d (word_in m (a + 2) + word_in m (b + 2)) (xs ++ ys) growable))
effect code m (op.CopyPart a b c) = found (slice_words m a c) (λ old. found (slice_words m b c) (λ ws. copies m a b ws))
effect code m (op.Fill a s c) = found (slice_words m a c) (λ old. Changes (word_in m a) (word_in m (a + 1)) (repeated (word_in m (a + 2)) (words_in m s c)))
effect code m (op.Same d a b c) = found (slice_words m a c) (λ xs. found (slice_words m b c) (λ ys. Writes d (bit_of ((word_in m (a + 2) == word_in m (b + 2)) && bytes_eq xs ys) ∷ [])))
effect code m (op.Number d k s) = makes d (length (text_of k (word_in m s))) (text_of k (word_in m s)) false
effect code m (op.PutInt k s) = Prints (text_of k (word_in m s))
effect code m (op.PutText v) = found (slice_words m v 1) (λ ws. Prints (map byte_of ws))
effect code m (op.PutList k v) = found (slice_words m v 1) (λ ws. Prints (list_text k ws))
effect code m (op.PutData g) = named (slice_get code.blocks g) (λ words. Prints (map byte_of words))
effect code m op.Flush = Flushes
effect code m (op.Check s trap) = if word_in m s == 0 then Traps trap else Goes (m.pc + 1)

-- the instructions that take memory
abbrev pub is_taking : Op → Bool
is_taking (op.Own d c) = true
is_taking (op.Make d s e c growable) = true
is_taking (op.List d s n c growable) = true
is_taking (op.Join d a b c growable) = true
is_taking (op.Append d a b c growable) = true
is_taking (op.Number d k s) = true
is_taking (op.PutInt k s) = true
is_taking (op.PutText v) = true
is_taking (op.PutList k v) = true
is_taking (op.PutData g) = true
is_taking op.Flush = true
is_taking _ = false
