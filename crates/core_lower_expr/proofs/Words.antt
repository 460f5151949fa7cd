-- Numbers as words.
use Rattle.std.proofs.Common.{◌≡◌, ℕ, ◌+◌, ◌-◌, ◌==◌, Bool, true, false, [], ◌∷◌, refl, sym, ap, ◌∙◌, subst, arith, ℤ, pos}
use Rattle.std.specs.Prelude.{unsigned_abs, codes, if◌then◌else◌}
use Rattle.std.specs.Fmt.{signed_decimal}
use Rattle.std.specs.Ordering.{int_eq}
use Rattle.dc_types.specs.declared.kind.Kind.{Kind}
use Rattle.dc_types.specs.declared.kind.Kind.TheVariants as kind
use Rattle.dc_types.specs.Integers.{InKind, bits_of, residue, wrap, truth}
use Rattle.std.proofs.lemmas.Bool.Decides.{Decides-eqb, Decides-int_eq, Decides-like, same_from_decides}
use Rattle.dc_types.proofs.Integers.{residue_small, residue-residue, wrap_same, wrap_in_kind, by_bool, by_digit, bits_of_at_most}
use Rattle.dc_types.proofs.Values.{zero_in_kind, one_in_kind}
use Rattle.dc_code.specs.Numbers.{number_of, word_of, bit_of, byte_of, text_of}
use Rattle.core_tree.specs.Values.{number_text, truth_number}

pub zero_word : word_of (pos 0) ≡ 0
zero_word = residue_small 64 0 (omega arith)

one_word : word_of (pos 1) ≡ 1
one_word = residue_small 64 1 (omega arith)

wide : (k : Kind) → (k ≡ kind.Bool → ⊥) → (z : ℤ) → wrap k (pos (residue 64 z)) ≡ wrap k z
wide k not_bool z =
    let e : bits_of k + (64 - bits_of k) ≡ 64 = omega (arith, bits_of_at_most k) in
    wrap_same k not_bool (pos (residue 64 z)) z (ap (λ n. residue (bits_of k) (pos (residue n z))) (sym e) ∙ residue-residue (bits_of k) (64 - bits_of k) z)

truths : (z : ℤ) → InKind kind.Bool z → number_of kind.Bool (word_of z) ≡ z
unfolding wrap truth
truths z h = by_digit (λ z. number_of kind.Bool (word_of z) ≡ z) z h (ap (λ n. wrap kind.Bool (pos n)) zero_word) (ap (λ n. wrap kind.Bool (pos n)) one_word)

-- A number of a kind is what its word is read as.
pub reads : (k : Kind) (z : ℤ) → InKind k z → number_of k (word_of z) ≡ z
reads k z h = by_bool k (λ e. subst (λ k. InKind k z → number_of k (word_of z) ≡ z) (sym e) (truths z) h) (λ n. wide k n z ∙ wrap_in_kind k z h)

-- ---- the word of 0

zero_read : (k : Kind) → number_of k 0 ≡ pos 0
zero_read k = wrap_in_kind k (pos 0) (zero_in_kind k)

pub zero_test : (k : Kind) (z : ℤ) → InKind k z → (word_of z == 0) ≡ int_eq z (pos 0)
zero_test k z h = same_from_decides (word_of z == 0) (int_eq z (pos 0))
    (Decides-like (word_of z == 0) (λ e. sym (reads k z h) ∙ ap (number_of k) e ∙ zero_read k) (λ e. ap word_of e ∙ zero_word) (Decides-eqb (word_of z) 0))
    (Decides-int_eq z (pos 0))

pub truth_word : (b : Bool) → bit_of b ≡ word_of (truth_number b)
truth_word true = sym one_word
truth_word false = sym zero_word

pub truth_in_kind : (b : Bool) → InKind kind.Bool (truth_number b)
truth_in_kind true = one_in_kind kind.Bool
truth_in_kind false = zero_in_kind kind.Bool

-- ---- texts

byte_is : (w : ℕ) → byte_of w ≡ unsigned_abs (number_of kind.Char w)
unfolding wrap residue
byte_is w = refl

-- A number's word prints as the number.
pub same_text : (k : Kind) (z : ℤ) → InKind k z → text_of k (word_of z) ≡ number_text k z
same_text kind.Bool z h = ap (λ v. if int_eq v (pos 0) then codes "false" else codes "true") (reads kind.Bool z h)
same_text kind.Char z h = ap (λ b. b ∷ []) (byte_is (word_of z) ∙ ap unsigned_abs (reads kind.Char z h))
same_text kind.I8 z h = ap signed_decimal (reads kind.I8 z h)
same_text kind.U8 z h = ap signed_decimal (reads kind.U8 z h)
same_text kind.I16 z h = ap signed_decimal (reads kind.I16 z h)
same_text kind.U16 z h = ap signed_decimal (reads kind.U16 z h)
same_text kind.I32 z h = ap signed_decimal (reads kind.I32 z h)
same_text kind.U32 z h = ap signed_decimal (reads kind.U32 z h)
same_text kind.I64 z h = ap signed_decimal (reads kind.I64 z h)
same_text kind.U64 z h = ap signed_decimal (reads kind.U64 z h)

-- 10 prints as a line feed.
pub line_text : text_of kind.Char 10 ≡ 10 ∷ []
line_text = refl
