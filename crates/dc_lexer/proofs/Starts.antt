-- Which kinds of items a first byte can begin.
use Rattle.dc_lexer.proofs.SignTable.{pick, by_bytes, double_single, triple_double, quadruple_triple}
use Rattle.dc_lexer.specs.SignBytes.{singles}
use Rattle.std.proofs.Common.{◌≡◌, ℕ, ◌<◌, ◌≤◌, true, false, ◌||◌, ◌==◌, [], ◌∷◌, ◌++◌, length, get_or, ⊎_elim, refl, sym, ap, subst, ◌∙◌, arith}
use Rattle.std.proofs.lemmas.Bool.Decides.{nat_tests}
use Rattle.std.proofs.lemmas.Str.{byte_from_char, char_from_byte, length-encode}
use Rattle.std.proofs.lemmas.Bool.{cases_lt}
use Rattle.std.specs.Str.{encode_utf8_all}
use Rattle.dc_token.proofs.Characters.{is_xid_start-ascii}
use Rattle.dc_token.specs.Balance.{Bytes}
use Rattle.dc_token.specs.Vocabulary.{starts_name}
use Rattle.dc_token.specs.Bytes.{is_blank, is_letter}
use Rattle.dc_lexer.specs.Leads.{lead, can_begin}
use Rattle.dc_token.specs.Items.{PlainSpells, Spells}
use Rattle.dc_lexer.specs.SignBytes.{is_sign_by_bytes, single}
use Rattle.std.specs.Char.{encode_utf8, is_ascii_digit, is_ascii_alphabetic}
use Rattle.dc_lexer.specs.declared.lead.Lead.TheVariants as lead_is
use Rattle.dc_token.specs.declared.item.Item.{Item}
use Rattle.dc_token.specs.declared.item.Item.TheVariants as item

pub record Begins (kind : Item) (w : Bytes) : Type 0 where
  pub head : ℕ
  pub tail : Bytes
  pub parts : w ≡ head ∷ tail
  pub can : can_begin (lead head) kind ≡ true

pub blank_class : (b : ℕ) → is_blank b ≡ true → lead b ≡ lead_is.Blank
blank_class b h = rw h

pub letter_class : (b : ℕ) → is_letter b ≡ true → lead b ≡ lead_is.Letter
letter_class b h = let e : is_blank b ≡ false = grind (arith, nat_tests) in rw (e, h)

pub digit_class : (b : ℕ) → is_ascii_digit b ≡ true → lead b ≡ lead_is.Digit
digit_class b h = let e : is_blank b ≡ false = grind (arith, nat_tests) in let f : is_letter b ≡ false = grind (arith, nat_tests) in rw (e, f, h)

single_class : (b : ℕ) → single b ≡ true → can_begin (lead b) item.Sign ≡ true
single_class b h = pick singles b (λ k. can_begin (lead k) item.Sign) h refl

head_of : (w : Bytes) → is_sign_by_bytes w ≡ true → Begins item.Sign w
unfolding is_sign_by_bytes
head_of [] h = absurd (let k : false ≡ true = h in cc)
head_of (b ∷ []) h = record { head = b; tail = []; parts = refl; can = single_class b h }
head_of (b ∷ c ∷ []) h = record { head = b; tail = c ∷ []; parts = refl; can = single_class b (double_single b c h) }
head_of (b ∷ c ∷ d ∷ []) h = record { head = b; tail = c ∷ d ∷ []; parts = refl; can = single_class b (double_single b c (triple_double b c d h)) }
head_of (b ∷ c ∷ d ∷ e ∷ []) h = record { head = b; tail = c ∷ d ∷ e ∷ []; parts = refl; can = single_class b (double_single b c (triple_double b c d (quadruple_triple b c d e h))) }
head_of (b ∷ c ∷ d ∷ e ∷ f ∷ w) h = absurd (let k : false ≡ true = h in cc)

pub positive : (c : ℕ) → 1 ≤ length (encode_utf8 c)
positive c = rw length-encode (grind (arith, nat_tests))

high_letter : (b : ℕ) → 128 ≤ b → is_letter b ≡ true
high_letter b h = grind (arith, nat_tests)

low_letter : (c : ℕ) → c < 128 → starts_name c ≡ true → is_letter c ≡ true
low_letter c low h = let e = is_xid_start-ascii c low in let g : (is_ascii_alphabetic c || c == 95) ≡ true = subst (λ x. (x || c == 95) ≡ true) e h in grind (arith, nat_tests)

first_letter : (c h : ℕ) (bs rest : Bytes) → bs ≡ encode_utf8 c ++ rest → get_or bs 0 0 ≡ h → 0 < length bs → starts_name c ≡ true → is_letter h ≡ true
first_letter c h bs rest e is some starts = ⊎_elim low high (cases_lt c 128)
  where
    low : c < 128 → is_letter h ≡ true
    low l = let f : c ≡ h = sym (byte_from_char bs rest c e l) ∙ is in subst (λ x. is_letter x ≡ true) f (low_letter c l starts)

    high : 128 ≤ c → is_letter h ≡ true
    high l = ⊎_elim (λ m. (let lo : get_or bs 0 0 < 128 = omega arith in let f : c ≡ get_or bs 0 0 = char_from_byte bs rest c e lo some in absurd (omega arith))) (λ m. high_letter h m) (cases_lt h 128)

name_head : (c : ℕ) (e more w : Bytes) → w ≡ e ++ more → 1 ≤ length e → e ≡ encode_utf8 c → starts_name c ≡ true → Begins item.Name w
name_head c [] more w parts some is starts = absurd (omega arith)
name_head c (h ∷ e) more w parts some is starts =
    let w2 : w ≡ encode_utf8 c ++ more = parts ∙ ap (λ (x : Bytes). x ++ more) is in
    let g : get_or w 0 0 ≡ h = rw parts refl in
    let n : 0 < length w = rw parts (omega arith) in
    record { head = h; tail = e ++ more; parts = parts; can = rw (letter_class h (first_letter c h w more w2 g n starts)) refl }

pub plain_starts : (kind : Item) (w rest : Bytes) → PlainSpells kind w rest → Begins kind w
plain_starts item.Blank w rest s = record { head = s.head; tail = s.tail; parts = s.parts; can = rw (blank_class s.head s.begins) refl }
plain_starts item.LineComment w rest s = record { head = 47; tail = 47 ∷ s.tail; parts = s.parts; can = refl }
plain_starts item.BlockComment w rest s = record { head = 47; tail = 42 ∷ (s.inside ++ (42 ∷ 47 ∷ [])); parts = s.parts; can = refl }
plain_starts item.NestedComment w rest s = record { head = 47; tail = 43 ∷ (s.inside ++ (43 ∷ 47 ∷ [])); parts = s.parts; can = refl }
plain_starts item.Name w rest s = name_head s.first (encode_utf8 s.first) (encode_utf8_all s.more) w s.parts (positive s.first) refl s.begins
plain_starts item.Decimal w rest s = let r = s.run in record { head = r.head; tail = r.tail ++ s.suffix; parts = s.parts ∙ ap (λ (x : Bytes). x ++ s.suffix) r.parts; can = rw (digit_class r.head r.begins) refl }
plain_starts item.Float w rest s = let r = s.run in record { head = r.head; tail = r.tail ++ (s.mark ∷ s.tail); parts = s.parts ∙ ap (λ (x : Bytes). x ++ (s.mark ∷ s.tail)) r.parts; can = rw (digit_class r.head r.begins) refl }
plain_starts item.Hexadecimal w rest s = record { head = 48; tail = 120 ∷ (s.digits ++ s.suffix); parts = s.parts; can = refl }
plain_starts item.Binary w rest s = record { head = 48; tail = 98 ∷ (s.digits ++ s.suffix); parts = s.parts; can = refl }
plain_starts item.PointFloat w rest s = record { head = 46; tail = s.digit ∷ s.tail; parts = s.parts; can = refl }
plain_starts item.HexFloat w rest s = record { head = 48; tail = 120 ∷ (s.digits ++ (s.mark ∷ s.tail)); parts = s.parts; can = refl }
plain_starts item.Character w rest s = record { head = 39; tail = s.inside ++ (39 ∷ []); parts = s.parts; can = refl }
plain_starts item.Delimited w rest s = record { head = 113; tail = 34 ∷ (s.inside ++ s.closer); parts = s.parts; can = refl }
plain_starts item.HexString w rest s = record { head = 120; tail = 34 ∷ (s.inside ++ s.closer); parts = s.parts; can = refl }
plain_starts item.Sign w rest s = head_of w (by_bytes w s)
plain_starts item.TokenString w rest s = absurd s
plain_starts item.Quoted w rest s = record { head = 34; tail = (s.is.inside ++ (34 ∷ [])) ++ s.suffix; parts = s.parts ∙ ap (λ (x : Bytes). x ++ s.suffix) s.is.parts; can = refl }
plain_starts item.Backquoted w rest s = record { head = 96; tail = (s.is.inside ++ (96 ∷ [])) ++ s.suffix; parts = s.parts ∙ ap (λ (x : Bytes). x ++ s.suffix) s.is.parts; can = refl }
plain_starts item.Raw w rest s = record { head = 114; tail = (34 ∷ (s.is.inside ++ (34 ∷ []))) ++ s.suffix; parts = s.parts ∙ ap (λ (x : Bytes). x ++ s.suffix) s.is.parts; can = refl }

pub starts : (kind : Item) (w rest : Bytes) → Spells kind w rest → Begins kind w
starts item.TokenString w rest s = record { head = 113; tail = 123 ∷ (s.inside ++ (125 ∷ [])); parts = s.parts; can = refl }
starts other w rest s = plain_starts other w rest s
