-- Names, as characters in UTF-8.
use Rattle.std.proofs.Common.{◌≡◌, ℕ, ◌+◌, ◌<◌, ◌≤◌, Bool, true, false, Some, List, [], ◌∷◌, ◌++◌, length, take, drop, get_or, refl, sym, ap, subst, ◌∙◌, append_assoc, append-nil, arith, length-append, length-drop}
use Rattle.std.proofs.lemmas.Bool.Decides.{nat_tests}
use Rattle.std.proofs.lemmas.Bool.{and_parts}
use Rattle.std.proofs.lemmas.Str.{encode_same, encode_ascii, char_from_byte, encodes-append, length-encode}
use Rattle.std.specs.List.{list_all}
use Rattle.std.specs.Char.{encode_utf8}
use Rattle.std.specs.Str.{encode_utf8_all, all_scalars}
use lib.Utf8.{scalar}
use Rattle.bstr.specs.Utf8.{decoded}
use Rattle.bstr.proofs.lemmas.EncodeLemmas.{decoded-encode}
use Rattle.bstr.proofs.lemmas.SoundLemmas.{SpellsChar-decoded}
use Rattle.dc_token.specs.Vocabulary.{is_xid_continue, starts_name}
use Rattle.dc_token.proofs.Characters.{is_xid_continue-ascii}
use Rattle.dc_token.specs.Balance.{Bytes}
use Rattle.dc_token.specs.Bytes.{is_word}
use Rattle.dc_token.specs.Names.{IsName}
use Rattle.dc_lexer.specs.Fronts.{PassesFor, Longest}
use Rattle.dc_token.proofs.Lists.{drop_more, take_front}

pub positive : (c : ℕ) → 1 ≤ length (encode_utf8 c)
positive c = rw length-encode (grind (arith, nat_tests))

ascii_scalar : (b : ℕ) → b < 128 → scalar b ≡ true
ascii_scalar b low = grind (arith, nat_tests)

-- ---- one character

pub passes : (test : ℕ → Bool) (t : Bytes) (c n : ℕ) → (decoded t).char ≡ Some c → (decoded t).size ≡ n → test c ≡ true → PassesFor test t n
passes test t c n is size h =
    let s = SpellsChar-decoded t c is in
    record {
      found = λ some. (c, s.scalar, h, subst (λ k. t ≡ encode_utf8 c ++ drop k t) size s.bytes, s.width ∙ size);
      none = λ e d u sc td parts. absurd (let p = positive c in let w = s.width in omega arith);
    }

pub passes_none : (test : ℕ → Bool) (t : Bytes) → ((c : ℕ) → (decoded t).char ≡ Some c → test c ≡ true → ⊥) → PassesFor test t 0
passes_none test t never = record {
  found = λ some. absurd (omega arith);
  none = λ e d u sc td parts. never d (ap (λ (x : Bytes). (decoded x).char) parts ∙ ap (λ p. p.char) (decoded-encode d u sc)) td;
}

pub passes_ascii : (t : Bytes) (b : ℕ) (u : Bytes) → t ≡ b ∷ u → b < 128 → is_word b ≡ true → PassesFor is_xid_continue t 1
passes_ascii t b u parts low h =
    let e = is_xid_continue-ascii b low in
    rw parts (record {
      found = λ some. (b, ascii_scalar b low, e ∙ h, rw (encode_ascii b low) refl, rw (encode_ascii b low) refl);
      none = λ z c v s p q. absurd (omega arith);
    })

pub passes_not : (t : Bytes) (b : ℕ) (u : Bytes) → t ≡ b ∷ u → b < 128 → is_word b ≡ false → PassesFor is_xid_continue t 0
passes_not t b u parts low h = record {
  found = λ some. absurd (omega arith);
  none = λ z c v s p q.
      let f : get_or t 0 0 ≡ b = rw parts refl in
      let n : 0 < length t = rw parts (omega arith) in
      let g : c ≡ b = char_from_byte t v c q (omega arith) n ∙ f in
      let e = is_xid_continue-ascii b low in
      let k : is_xid_continue b ≡ true = subst (λ x. is_xid_continue x ≡ true) g p in absurd (let no : false ≡ true = sym h ∙ sym e ∙ k in cc);
}

-- ---- a name

pub record NameScan (z : Bytes) (at : ℕ) : Type 0 where
  pub first : ℕ
  pub more : List ℕ
  pub scalars : all_scalars (first ∷ more) ≡ true
  pub begins : starts_name first ≡ true
  pub goes : list_all is_xid_continue more ≡ true
  pub parts : z ≡ encode_utf8_all (first ∷ more) ++ drop at z
  pub size : length (encode_utf8_all (first ∷ more)) ≡ at
  pub within : at ≤ length z

pub name_start : (z : Bytes) (at : ℕ) → PassesFor starts_name z at → 0 < at → NameScan z at
name_start z at p some =
    let f = p.found some in
    let e : encode_utf8 f.0 ≡ encode_utf8_all (f.0 ∷ []) = sym (append-nil (encode_utf8 f.0)) in
    let parts : z ≡ encode_utf8_all (f.0 ∷ []) ++ drop at z = subst (λ (x : Bytes). z ≡ x ++ drop at z) e f.3 in
    let size : length (encode_utf8_all (f.0 ∷ [])) ≡ at = ap (λ (x : Bytes). length x) (sym e) ∙ f.4 in
    let whole : length z ≡ length (encode_utf8_all (f.0 ∷ [])) + length (drop at z) = ap (λ (x : Bytes). length x) parts ∙ length-append (encode_utf8_all (f.0 ∷ [])) (drop at z) in
    record { first = f.0; more = []; scalars = rw f.1 refl; begins = f.2; goes = refl; parts = parts; size = size; within = omega arith }

all_more : (p : ℕ → Bool) (xs : List ℕ) (x : ℕ) → list_all p xs ≡ true → p x ≡ true → list_all p (xs ++ (x ∷ [])) ≡ true
all_more p [] x h g = rw g refl
all_more p (y ∷ xs) x h g = let k = and_parts (p y) (list_all p xs) h in rw k.0 (all_more p xs x k.1 g)

scalars_more : (xs : List ℕ) (x : ℕ) → all_scalars xs ≡ true → scalar x ≡ true → all_scalars (xs ++ (x ∷ [])) ≡ true
scalars_more [] x h g = rw g refl
scalars_more (y ∷ xs) x h g = let k = and_parts (scalar y) (all_scalars xs) h in rw k.0 (scalars_more xs x k.1 g)

pub name_more : (z : Bytes) (at n : ℕ) → NameScan z at → PassesFor is_xid_continue (drop at z) n → 0 < n → NameScan z (at + n)
name_more z at n s p some =
    let f = p.found some in
    let all : encode_utf8_all (s.first ∷ (s.more ++ (f.0 ∷ []))) ≡ encode_utf8_all (s.first ∷ s.more) ++ encode_utf8 f.0 =
    encodes-append (s.first ∷ s.more) (f.0 ∷ []) ∙ ap (λ (x : Bytes). encode_utf8_all (s.first ∷ s.more) ++ x) (append-nil (encode_utf8 f.0)) in
    let rest : drop at z ≡ encode_utf8 f.0 ++ drop (at + n) z = f.3 ∙ ap (λ (x : Bytes). encode_utf8 f.0 ++ x) (drop_more n at z) in
    let parts : z ≡ encode_utf8_all (s.first ∷ (s.more ++ (f.0 ∷ []))) ++ drop (at + n) z =
    s.parts ∙ ap (λ (x : Bytes). encode_utf8_all (s.first ∷ s.more) ++ x) rest ∙ sym (append_assoc (encode_utf8_all (s.first ∷ s.more)) (encode_utf8 f.0) (drop (at + n) z)) ∙ ap (λ (x : Bytes). x ++ drop (at + n) z) (sym all) in
    let size : length (encode_utf8_all (s.first ∷ (s.more ++ (f.0 ∷ [])))) ≡ at + n =
    ap (λ (x : Bytes). length x) all ∙ length-append (encode_utf8_all (s.first ∷ s.more)) (encode_utf8 f.0) ∙ ap (λ (x : ℕ). x + length (encode_utf8 f.0)) s.size ∙ ap (λ (x : ℕ). at + x) f.4 in
    let whole : length z ≡ length (encode_utf8_all (s.first ∷ (s.more ++ (f.0 ∷ [])))) + length (drop (at + n) z) = ap (λ (x : Bytes). length x) parts ∙ length-append (encode_utf8_all (s.first ∷ (s.more ++ (f.0 ∷ [])))) (drop (at + n) z) in
    record { first = s.first; more = s.more ++ (f.0 ∷ []); scalars = scalars_more (s.first ∷ s.more) f.0 s.scalars f.1; begins = s.begins; goes = all_more is_xid_continue s.more f.0 s.goes f.2; parts = parts; size = size; within = omega arith }

-- no longer row of characters that continue
no_longer : (cs ds : List ℕ) (u v : Bytes) → encode_utf8_all cs ++ u ≡ encode_utf8_all ds ++ v → all_scalars cs ≡ true → list_all is_xid_continue cs ≡ true
    → ((c : ℕ) (x : Bytes) → scalar c ≡ true → is_xid_continue c ≡ true → v ≡ encode_utf8 c ++ x → ⊥) → length (encode_utf8_all cs) ≤ length (encode_utf8_all ds)
no_longer [] ds u v e sc go stop = omega arith
no_longer (c ∷ cs) [] u v e sc go stop =
    let a = and_parts (scalar c) (all_scalars cs) sc in
    let b = and_parts (is_xid_continue c) (list_all is_xid_continue cs) go in
    absurd (stop c (encode_utf8_all cs ++ u) a.0 b.0 (sym e ∙ append_assoc (encode_utf8 c) (encode_utf8_all cs) u))
no_longer (c ∷ cs) (d ∷ ds) u v e sc go stop =
    let a = and_parts (scalar c) (all_scalars cs) sc in
    let b = and_parts (is_xid_continue c) (list_all is_xid_continue cs) go in
    let same = encode_same c d (encode_utf8_all cs ++ u) (encode_utf8_all ds ++ v) (sym (append_assoc (encode_utf8 c) (encode_utf8_all cs) u) ∙ e ∙ append_assoc (encode_utf8 d) (encode_utf8_all ds) v) in
    let less = no_longer cs ds u v same.1 a.1 b.1 stop in
    let l1 = length-append (encode_utf8 c) (encode_utf8_all cs) in
    let l2 = length-append (encode_utf8 d) (encode_utf8_all ds) in
    let l3 : length (encode_utf8 c) ≡ length (encode_utf8 d) = ap (λ (x : ℕ). length (encode_utf8 x)) same.0 in
    omega arith

pub name_end : (z : Bytes) (at : ℕ) → NameScan z at → ((c : ℕ) (x : Bytes) → scalar c ≡ true → is_xid_continue c ≡ true → drop at z ≡ encode_utf8 c ++ x → ⊥) → Longest (λ w u. IsName w) z at
name_end z at s stop = record {
  within = s.within;
  is = λ some. (let e : take at z ≡ encode_utf8_all (s.first ∷ s.more) = sym (ap (λ (x : ℕ). take x z) s.size) ∙ ap (λ (x : Bytes). take (length (encode_utf8_all (s.first ∷ s.more))) x) s.parts ∙ take_front (encode_utf8_all (s.first ∷ s.more)) (drop at z) in
      record { first = s.first; more = s.more; parts = e; scalars = s.scalars; begins = s.begins; goes = s.goes });
  longest = λ w u parts n. longest w u parts n;
}
  where
    longest : (w u : Bytes) → z ≡ w ++ u → IsName w → length w ≤ at
    longest w u parts n =
        let e : encode_utf8_all (n.first ∷ n.more) ++ u ≡ encode_utf8_all (s.first ∷ s.more) ++ drop at z = ap (λ (x : Bytes). x ++ u) (sym n.parts) ∙ sym parts ∙ s.parts in
        let same = encode_same n.first s.first (encode_utf8_all n.more ++ u) (encode_utf8_all s.more ++ drop at z)
        (sym (append_assoc (encode_utf8 n.first) (encode_utf8_all n.more) u) ∙ e ∙ append_assoc (encode_utf8 s.first) (encode_utf8_all s.more) (drop at z)) in
        let less = no_longer n.more s.more u (drop at z) same.1 (and_parts (scalar n.first) (all_scalars n.more) n.scalars).1 n.goes stop in
        let l1 : length w ≡ length (encode_utf8 n.first) + length (encode_utf8_all n.more) = ap (λ (x : Bytes). length x) n.parts ∙ length-append (encode_utf8 n.first) (encode_utf8_all n.more) in
        let l2 : at ≡ length (encode_utf8 s.first) + length (encode_utf8_all s.more) = sym s.size ∙ length-append (encode_utf8 s.first) (encode_utf8_all s.more) in
        let l3 : length (encode_utf8 n.first) ≡ length (encode_utf8 s.first) = ap (λ (x : ℕ). length (encode_utf8 x)) same.0 in
        omega arith

pub name_stop : (z : Bytes) (at : ℕ) → NameScan z at → PassesFor is_xid_continue (drop at z) 0 → Longest (λ w u. IsName w) z at
name_stop z at s p = name_end z at s (λ c x sc go parts. p.none refl c x sc go parts)

pub name_whole : (z : Bytes) (at : ℕ) → NameScan z at → length z ≤ at → Longest (λ w u. IsName w) z at
name_whole z at s past = name_end z at s (λ c x sc go parts. (
    let l = length-drop at z in
    let m : length (drop at z) ≡ length (encode_utf8 c) + length x = ap (λ (y : Bytes). length y) parts ∙ length-append (encode_utf8 c) x in
    let k = positive c in absurd (omega arith)))

pub name_never : (z : Bytes) → PassesFor starts_name z 0 → Longest (λ w u. IsName w) z 0
name_never z p = record {
  within = omega arith;
  is = λ some. absurd (omega arith);
  longest = λ w u parts n. absurd (p.none refl n.first (encode_utf8_all n.more ++ u) (and_parts (scalar n.first) (all_scalars n.more) n.scalars).0 n.begins
      (parts ∙ ap (λ (x : Bytes). x ++ u) n.parts ∙ append_assoc (encode_utf8 n.first) (encode_utf8_all n.more) u));
}
