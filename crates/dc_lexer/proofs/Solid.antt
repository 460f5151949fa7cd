-- Items in which no white space stands, and fronts of a text that they are in.
use Rattle.std.proofs.Common.{◌≡◌, ℕ, ◌+◌, ◌/◌, ◌%◌, ◌<◌, ◌≤◌, Bool, true, false, not, ◌&&◌, ◌||◌, ◌==◌, nat_le, List, [], ◌∷◌, ◌++◌, ◌⊎◌, inl, inr, length, drop, ⊎_elim, refl, sym, ap, subst, ◌∙◌, arith, nat_lt, if◌then◌else◌}
use Rattle.std.proofs.lemmas.Bool.{and_parts, cases_lt}
use Rattle.std.proofs.lemmas.Bool.Decides.{nat_tests}
use Rattle.std.proofs.lemmas.Str.{encode_ascii}
use Rattle.std.specs.List.{list_all}
use Rattle.std.specs.Char.{encode_utf8, is_ascii_alphabetic, is_ascii_digit}
use Rattle.std.specs.Str.{encode_utf8_all}
use Rattle.dc_token.specs.Balance.{Bytes}
use Rattle.dc_token.specs.Bytes.{Run, is_blank, is_word, is_digit_or_bar, is_hex_or_bar, is_binary_or_bar}
use Rattle.dc_token.specs.Signs.{used_signs, outside_signs, is_sign, is_outside_sign}
use Rattle.dc_token.specs.Vocabulary.{starts_name, is_xid_continue, among}
use Rattle.dc_token.specs.Numbers.{is_long, is_unsigned, is_number_suffix, is_exponent, is_power, is_hex_or_point}
use Rattle.dc_token.specs.Names.{IsName}
use Rattle.dc_token.specs.Items.{PlainSpells}
use Rattle.dc_token.specs.declared.item.Item.{Item}
use Rattle.dc_token.specs.declared.item.Item.TheVariants as item
use Rattle.dc_token.proofs.Characters.{is_xid_start-ascii, is_xid_continue-ascii}
use Rattle.dc_lexer.proofs.SignTable.{or_split, among_all}

-- ---- fronts

pub heads_are : (a b : ℕ) (v w : Bytes) → a ∷ v ≡ b ∷ w → a ≡ b
heads_are a b v w e = cc

pub tails_are : (a b : ℕ) (v w : Bytes) → a ∷ v ≡ b ∷ w → v ≡ w
tails_are a b v w e = cc

-- what a shorter front leaves of a longer one
pub record Leaves (p v a b : Bytes) : Type 0 where
  pub left : Bytes
  pub front : p ≡ v ++ left
  pub rest : b ≡ left ++ a

pub leaves : (p v a b : Bytes) → p ++ a ≡ v ++ b → length v ≤ length p → Leaves p v a b
leaves p [] a b e h = record { left = p; front = refl; rest = sym e }
leaves [] (c ∷ v) a b e h = absurd (omega arith)
leaves (d ∷ p) (c ∷ v) a b e h =
    let r = leaves p v a b (tails_are d c (p ++ a) (v ++ b) e) (omega arith) in
    record { left = r.left; front = (let i = heads_are d c (p ++ a) (v ++ b) e in let f = r.front in cc); rest = r.rest }

-- ---- no white space

abbrev pub is_solid : ℕ → Bool
is_solid b = not (is_blank b)

-- bytes of a class stand before the first byte that isn't of it
pub before : (f : ℕ → Bool) (p v : Bytes) (c : ℕ) (a b : Bytes) → f c ≡ false → list_all f v ≡ true → p ++ (c ∷ a) ≡ v ++ b → length v ≤ length p
before f p [] c a b stops all e = omega arith
before f [] (d ∷ v) c a b stops all e =
    let q = and_parts (f d) (list_all f v) all in
    let is : c ≡ d = heads_are c d a (v ++ b) e in
    absurd (let k : false ≡ true = sym stops ∙ ap f is ∙ q.0 in cc)
before f (h ∷ p) (d ∷ v) c a b stops all e =
    let q = and_parts (f d) (list_all f v) all in
    let r = before f p v c a b stops q.1 (tails_are h d (p ++ (c ∷ a)) (v ++ b) e) in omega arith

all_of : (f g : ℕ → Bool) → ((b : ℕ) → f b ≡ true → g b ≡ true) → (w : Bytes) → list_all f w ≡ true → list_all g w ≡ true
all_of f g h [] all = refl
all_of f g h (b ∷ w) all = let p = and_parts (f b) (list_all f w) all in rw (h b p.0) (all_of f g h w p.1)

pub all_append : (g : ℕ → Bool) (v w : Bytes) → list_all g v ≡ true → list_all g w ≡ true → list_all g (v ++ w) ≡ true
all_append g [] w a b = b
all_append g (c ∷ v) w a b = let p = and_parts (g c) (list_all g v) a in rw p.0 (all_append g v w p.1 b)

word_solid : (b : ℕ) → is_word b ≡ true → is_solid b ≡ true
word_solid b h = grind (arith, nat_tests)

digit_solid : (b : ℕ) → is_ascii_digit b ≡ true → is_solid b ≡ true
digit_solid b h = grind (arith, nat_tests)

digit_or_bar_solid : (b : ℕ) → is_digit_or_bar b ≡ true → is_solid b ≡ true
digit_or_bar_solid b h = grind (arith, nat_tests)

hex_or_bar_solid : (b : ℕ) → is_hex_or_bar b ≡ true → is_solid b ≡ true
hex_or_bar_solid b h = grind (arith, nat_tests)

binary_or_bar_solid : (b : ℕ) → is_binary_or_bar b ≡ true → is_solid b ≡ true
binary_or_bar_solid b h = grind (arith, nat_tests)

hex_or_point_solid : (b : ℕ) → is_hex_or_point b ≡ true → is_solid b ≡ true
hex_or_point_solid b h = grind (arith, nat_tests)

exponent_solid : (b : ℕ) → is_exponent b ≡ true → is_solid b ≡ true
exponent_solid b h = grind (arith, nat_tests)

power_solid : (b : ℕ) → is_power b ≡ true → is_solid b ≡ true
power_solid b h = grind (arith, nat_tests)

one_suffix_solid : (b : ℕ) → (is_long b || is_unsigned b) ≡ true → is_solid b ≡ true
one_suffix_solid b h = grind (arith, nat_tests)

two_suffix_solid : (b c : ℕ) → ((is_long b && is_unsigned c) || (is_unsigned b && is_long c)) ≡ true → (is_solid b ≡ true) × (is_solid c ≡ true)
two_suffix_solid b c h = (grind (arith, nat_tests), grind (arith, nat_tests))

suffix_solid : (w : Bytes) → is_number_suffix w ≡ true → list_all is_solid w ≡ true
suffix_solid [] h = refl
suffix_solid (b ∷ []) h = rw (one_suffix_solid b h) refl
suffix_solid (b ∷ c ∷ []) h = let p = two_suffix_solid b c h in rw (p.0, p.1) refl
suffix_solid (b ∷ c ∷ d ∷ w) h = absurd (let k : false ≡ true = h in cc)

-- ---- characters in UTF-8

-- a byte that goes on in a character
abbrev pub is_inner : ℕ → Bool
is_inner b = nat_le 128 b && nat_le b 191

inner_next : (n : ℕ) → is_inner (128 + n % 64) ≡ true
inner_next n = grind (arith, nat_tests)

-- what follows a character's first byte
pub inner_bytes : (c : ℕ) → list_all is_inner (drop 1 (encode_utf8 c)) ≡ true
unfolding encode_utf8
inner_bytes c = by (nat_lt c 128) (nat_lt c 2048) (nat_lt c 65536)
  where
    by : (x y z : Bool) → list_all is_inner (drop 1 (if x then (c ∷ []) else (if y then ((192 + c / 64) ∷ (128 + c % 64) ∷ []) else (if z then ((224 + c / 4096) ∷ (128 + (c / 64) % 64) ∷ (128 + c % 64) ∷ []) else ((240 + c / 262144) ∷ (128 + (c / 4096) % 64) ∷ (128 + (c / 64) % 64) ∷ (128 + c % 64) ∷ []))))) ≡ true
    by true y z = refl
    by false true z = rw (inner_next c) refl
    by false false true = rw (inner_next c, inner_next (c / 64)) refl
    by false false false = rw (inner_next c, inner_next (c / 64), inner_next (c / 4096)) refl

-- a character's bytes, of which each is the character itself or above ASCII
high_bytes : (c : ℕ) → (c < 128 → is_solid c ≡ true) → list_all is_solid (encode_utf8 c) ≡ true
unfolding encode_utf8
high_bytes c low = ⊎_elim (λ h. rw (encode_ascii c h, low h) refl) (λ h. by (nat_lt c 128) (nat_lt c 2048) (nat_lt c 65536) refl h) (cases_lt c 128)
  where
    above : (n : ℕ) → 128 ≤ n → is_solid n ≡ true
    above n h = grind (arith, nat_tests)

    by : (x y z : Bool) → nat_lt c 128 ≡ x → 128 ≤ c
        → list_all is_solid (if x then (c ∷ []) else (if y then ((192 + c / 64) ∷ (128 + c % 64) ∷ []) else (if z then ((224 + c / 4096) ∷ (128 + (c / 64) % 64) ∷ (128 + c % 64) ∷ []) else ((240 + c / 262144) ∷ (128 + (c / 4096) % 64) ∷ (128 + (c / 64) % 64) ∷ (128 + c % 64) ∷ [])))) ≡ true
    by true y z e h = rw (above c h) refl
    by false true z e h = rw (above (192 + c / 64) (omega arith), above (128 + c % 64) (omega arith)) refl
    by false false true e h = rw (above (224 + c / 4096) (omega arith), above (128 + (c / 64) % 64) (omega arith), above (128 + c % 64) (omega arith)) refl
    by false false false e h = rw (above (240 + c / 262144) (omega arith), above (128 + (c / 4096) % 64) (omega arith), above (128 + (c / 64) % 64) (omega arith), above (128 + c % 64) (omega arith)) refl

pub start_solid : (c : ℕ) → starts_name c ≡ true → c < 128 → is_solid c ≡ true
start_solid c h low = let e = is_xid_start-ascii c low in let g : (is_ascii_alphabetic c || c == 95) ≡ true = subst (λ x. (x || c == 95) ≡ true) e h in grind (arith, nat_tests)

continue_solid : (c : ℕ) → is_xid_continue c ≡ true → c < 128 → is_solid c ≡ true
continue_solid c h low = let g : is_word c ≡ true = sym (is_xid_continue-ascii c low) ∙ h in word_solid c g

more_solid : (cs : List ℕ) → list_all is_xid_continue cs ≡ true → list_all is_solid (encode_utf8_all cs) ≡ true
more_solid [] h = refl
more_solid (c ∷ cs) h = let p = and_parts (is_xid_continue c) (list_all is_xid_continue cs) h in all_append is_solid (encode_utf8 c) (encode_utf8_all cs) (high_bytes c (continue_solid c p.0)) (more_solid cs p.1)

name_solid : (w : Bytes) → IsName w → list_all is_solid w ≡ true
name_solid w n = rw n.parts (all_append is_solid (encode_utf8 n.first) (encode_utf8_all n.more) (high_bytes n.first (start_solid n.first n.begins)) (more_solid n.more n.goes))

-- ---- signs

used_solid : list_all (λ (w : Bytes). list_all is_solid w) used_signs ≡ true
used_solid = refl

outside_solid : list_all (λ (w : Bytes). list_all is_solid w) outside_signs ≡ true
outside_solid = refl

sign_solid : (w : Bytes) → is_sign w ≡ true → list_all is_solid w ≡ true
unfolding is_sign is_outside_sign
sign_solid w h = ⊎_elim (λ e. among_all used_signs w (λ (w : Bytes). list_all is_solid w) e used_solid) (λ e. among_all outside_signs w (λ (w : Bytes). list_all is_solid w) e outside_solid) (or_split (among used_signs w) (among outside_signs w) h)

-- ---- the kinds that white space ends

abbrev pub is_lean : Item → Bool
is_lean item.Name = true
is_lean item.Decimal = true
is_lean item.Hexadecimal = true
is_lean item.Binary = true
is_lean item.Float = true
is_lean item.PointFloat = true
is_lean item.HexFloat = true
is_lean item.Sign = true
is_lean other = false

run_solid : (f g : ℕ → Bool) (w : Bytes) → ((b : ℕ) → f b ≡ true → is_solid b ≡ true) → ((b : ℕ) → g b ≡ true → is_solid b ≡ true) → Run f g w → list_all is_solid w ≡ true
run_solid f g w h k r = rw (r.parts, h r.head r.begins) (all_of g is_solid k r.tail r.goes)

mark_solid : (b : ℕ) → (is_exponent b ≡ true) ⊎ (b ≡ 46) → is_solid b ≡ true
mark_solid b (inl e) = exponent_solid b e
mark_solid b (inr e) = rw e refl

pub solid : (kind : Item) (w rest : Bytes) → is_lean kind ≡ true → PlainSpells kind w rest → list_all is_solid w ≡ true
solid item.Name w rest lean s = name_solid w s
solid item.Decimal w rest lean s = rw s.parts (all_append is_solid s.digits s.suffix (run_solid is_ascii_digit is_digit_or_bar s.digits digit_solid digit_or_bar_solid s.run) (suffix_solid s.suffix s.ends))
solid item.Hexadecimal w rest lean s = rw s.parts (all_append is_solid s.digits s.suffix (all_of is_hex_or_bar is_solid hex_or_bar_solid s.digits s.goes) (suffix_solid s.suffix s.ends))
solid item.Binary w rest lean s = rw s.parts (all_append is_solid s.digits s.suffix (all_of is_binary_or_bar is_solid binary_or_bar_solid s.digits s.goes) (suffix_solid s.suffix s.ends))
solid item.Float w rest lean s =
    let m : is_solid s.mark ≡ true = mark_solid s.mark (⊎_elim (λ e. inl e) (λ e. inr e.0) s.marks) in
    rw s.parts (all_append is_solid s.digits (s.mark ∷ s.tail) (run_solid is_ascii_digit is_digit_or_bar s.digits digit_solid digit_or_bar_solid s.run) (rw m (all_of is_word is_solid word_solid s.tail s.goes)))
solid item.PointFloat w rest lean s = rw (s.parts, digit_solid s.digit s.begins) (all_of is_word is_solid word_solid s.tail s.goes)
solid item.HexFloat w rest lean s =
    let m = s.mantissa in
    rw s.parts (all_append is_solid s.digits (s.mark ∷ s.tail) (all_of is_hex_or_point is_solid hex_or_point_solid s.digits m.goes) (rw (power_solid s.mark s.marks) (all_of is_word is_solid word_solid s.tail s.goes)))
solid item.Sign w rest lean s = sign_solid w s
solid other w rest lean s = absurd (let k : false ≡ true = lean in cc)

-- ---- and that closing braces end

abbrev pub is_no_brace : ℕ → Bool
is_no_brace b = not (b == 125)

word_no_brace : (b : ℕ) → is_word b ≡ true → is_no_brace b ≡ true
word_no_brace b h = grind (arith, nat_tests)

digit_no_brace : (b : ℕ) → is_ascii_digit b ≡ true → is_no_brace b ≡ true
digit_no_brace b h = grind (arith, nat_tests)

digit_or_bar_no_brace : (b : ℕ) → is_digit_or_bar b ≡ true → is_no_brace b ≡ true
digit_or_bar_no_brace b h = grind (arith, nat_tests)

hex_or_bar_no_brace : (b : ℕ) → is_hex_or_bar b ≡ true → is_no_brace b ≡ true
hex_or_bar_no_brace b h = grind (arith, nat_tests)

binary_or_bar_no_brace : (b : ℕ) → is_binary_or_bar b ≡ true → is_no_brace b ≡ true
binary_or_bar_no_brace b h = grind (arith, nat_tests)

hex_or_point_no_brace : (b : ℕ) → is_hex_or_point b ≡ true → is_no_brace b ≡ true
hex_or_point_no_brace b h = grind (arith, nat_tests)

mark_no_brace : (b : ℕ) → (is_exponent b ≡ true) ⊎ (b ≡ 46) → is_no_brace b ≡ true
mark_no_brace b (inl e) = grind (arith, nat_tests)
mark_no_brace b (inr e) = rw e refl

power_no_brace : (b : ℕ) → is_power b ≡ true → is_no_brace b ≡ true
power_no_brace b h = grind (arith, nat_tests)

one_suffix_no_brace : (b : ℕ) → (is_long b || is_unsigned b) ≡ true → is_no_brace b ≡ true
one_suffix_no_brace b h = grind (arith, nat_tests)

two_suffix_no_brace : (b c : ℕ) → ((is_long b && is_unsigned c) || (is_unsigned b && is_long c)) ≡ true → (is_no_brace b ≡ true) × (is_no_brace c ≡ true)
two_suffix_no_brace b c h = (grind (arith, nat_tests), grind (arith, nat_tests))

suffix_no_brace : (w : Bytes) → is_number_suffix w ≡ true → list_all is_no_brace w ≡ true
suffix_no_brace [] h = refl
suffix_no_brace (b ∷ []) h = rw (one_suffix_no_brace b h) refl
suffix_no_brace (b ∷ c ∷ []) h = let p = two_suffix_no_brace b c h in rw (p.0, p.1) refl
suffix_no_brace (b ∷ c ∷ d ∷ w) h = absurd (let k : false ≡ true = h in cc)

high_no_brace : (c : ℕ) → (c < 128 → is_no_brace c ≡ true) → list_all is_no_brace (encode_utf8 c) ≡ true
unfolding encode_utf8
high_no_brace c low = ⊎_elim (λ h. rw (encode_ascii c h, low h) refl) (λ h. by (nat_lt c 128) (nat_lt c 2048) (nat_lt c 65536) refl h) (cases_lt c 128)
  where
    above : (n : ℕ) → 128 ≤ n → is_no_brace n ≡ true
    above n h = grind (arith, nat_tests)

    by : (x y z : Bool) → nat_lt c 128 ≡ x → 128 ≤ c
        → list_all is_no_brace (if x then (c ∷ []) else (if y then ((192 + c / 64) ∷ (128 + c % 64) ∷ []) else (if z then ((224 + c / 4096) ∷ (128 + (c / 64) % 64) ∷ (128 + c % 64) ∷ []) else ((240 + c / 262144) ∷ (128 + (c / 4096) % 64) ∷ (128 + (c / 64) % 64) ∷ (128 + c % 64) ∷ [])))) ≡ true
    by true y z e h = rw (above c h) refl
    by false true z e h = rw (above (192 + c / 64) (omega arith), above (128 + c % 64) (omega arith)) refl
    by false false true e h = rw (above (224 + c / 4096) (omega arith), above (128 + (c / 64) % 64) (omega arith), above (128 + c % 64) (omega arith)) refl
    by false false false e h = rw (above (240 + c / 262144) (omega arith), above (128 + (c / 4096) % 64) (omega arith), above (128 + (c / 64) % 64) (omega arith), above (128 + c % 64) (omega arith)) refl

pub start_no_brace : (c : ℕ) → starts_name c ≡ true → c < 128 → is_no_brace c ≡ true
start_no_brace c h low = let e = is_xid_start-ascii c low in let g : (is_ascii_alphabetic c || c == 95) ≡ true = subst (λ x. (x || c == 95) ≡ true) e h in grind (arith, nat_tests)

continue_no_brace : (c : ℕ) → is_xid_continue c ≡ true → c < 128 → is_no_brace c ≡ true
continue_no_brace c h low = let g : is_word c ≡ true = sym (is_xid_continue-ascii c low) ∙ h in word_no_brace c g

more_no_brace : (cs : List ℕ) → list_all is_xid_continue cs ≡ true → list_all is_no_brace (encode_utf8_all cs) ≡ true
more_no_brace [] h = refl
more_no_brace (c ∷ cs) h = let p = and_parts (is_xid_continue c) (list_all is_xid_continue cs) h in all_append is_no_brace (encode_utf8 c) (encode_utf8_all cs) (high_no_brace c (continue_no_brace c p.0)) (more_no_brace cs p.1)

name_no_brace : (w : Bytes) → IsName w → list_all is_no_brace w ≡ true
name_no_brace w n = rw n.parts (all_append is_no_brace (encode_utf8 n.first) (encode_utf8_all n.more) (high_no_brace n.first (start_no_brace n.first n.begins)) (more_no_brace n.more n.goes))

-- a sign of two bytes and more
abbrev is_long_plain : Bytes → Bool
is_long_plain w = nat_le (length w) 1 || list_all is_no_brace w

used_no_brace : list_all is_long_plain used_signs ≡ true
used_no_brace = refl

outside_no_brace : list_all is_long_plain outside_signs ≡ true
outside_no_brace = refl

sign_plain : (w : Bytes) → is_sign w ≡ true → is_long_plain w ≡ true
unfolding is_sign is_outside_sign
sign_plain w h = ⊎_elim (λ e. among_all used_signs w is_long_plain e used_no_brace) (λ e. among_all outside_signs w is_long_plain e outside_no_brace) (or_split (among used_signs w) (among outside_signs w) h)

sign_no_brace : (w : Bytes) → is_sign w ≡ true → 1 < length w → list_all is_no_brace w ≡ true
sign_no_brace w h long = ⊎_elim (λ e. absurd (short (length w) e long)) (λ e. e) (or_split (nat_le (length w) 1) (list_all is_no_brace w) (sign_plain w h))
  where
    short : (n : ℕ) → nat_le n 1 ≡ true → 1 < n → ⊥
    short n h l = grind (arith, nat_tests)

run_no_brace : (f g : ℕ → Bool) (w : Bytes) → ((b : ℕ) → f b ≡ true → is_no_brace b ≡ true) → ((b : ℕ) → g b ≡ true → is_no_brace b ≡ true) → Run f g w → list_all is_no_brace w ≡ true
run_no_brace f g w h k r = rw (r.parts, h r.head r.begins) (all_of g is_no_brace k r.tail r.goes)

pub no_brace : (kind : Item) (w rest : Bytes) → is_lean kind ≡ true → 1 < length w → PlainSpells kind w rest → list_all is_no_brace w ≡ true
no_brace item.Name w rest lean long s = name_no_brace w s
no_brace item.Decimal w rest lean long s = rw s.parts (all_append is_no_brace s.digits s.suffix (run_no_brace is_ascii_digit is_digit_or_bar s.digits digit_no_brace digit_or_bar_no_brace s.run) (suffix_no_brace s.suffix s.ends))
no_brace item.Hexadecimal w rest lean long s = rw s.parts (all_append is_no_brace s.digits s.suffix (all_of is_hex_or_bar is_no_brace hex_or_bar_no_brace s.digits s.goes) (suffix_no_brace s.suffix s.ends))
no_brace item.Binary w rest lean long s = rw s.parts (all_append is_no_brace s.digits s.suffix (all_of is_binary_or_bar is_no_brace binary_or_bar_no_brace s.digits s.goes) (suffix_no_brace s.suffix s.ends))
no_brace item.Float w rest lean long s =
    let m : is_no_brace s.mark ≡ true = mark_no_brace s.mark (⊎_elim (λ e. inl e) (λ e. inr e.0) s.marks) in
    rw s.parts (all_append is_no_brace s.digits (s.mark ∷ s.tail) (run_no_brace is_ascii_digit is_digit_or_bar s.digits digit_no_brace digit_or_bar_no_brace s.run) (rw m (all_of is_word is_no_brace word_no_brace s.tail s.goes)))
no_brace item.PointFloat w rest lean long s = rw (s.parts, digit_no_brace s.digit s.begins) (all_of is_word is_no_brace word_no_brace s.tail s.goes)
no_brace item.HexFloat w rest lean long s =
    let m = s.mantissa in
    rw s.parts (all_append is_no_brace s.digits (s.mark ∷ s.tail) (all_of is_hex_or_point is_no_brace hex_or_point_no_brace s.digits m.goes) (rw (power_no_brace s.mark s.marks) (all_of is_word is_no_brace word_no_brace s.tail s.goes)))
no_brace item.Sign w rest lean long s = sign_no_brace w s long
no_brace other w rest lean long s = absurd (let k : false ≡ true = lean in cc)
