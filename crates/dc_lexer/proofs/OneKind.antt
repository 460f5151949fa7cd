-- An item at a place is of one kind, and so a text has one list of tokens.
use Rattle.std.proofs.Common.{◌≡◌, ℕ, suc, ◌+◌, ◌≤◌, Bool, true, false, ◌||◌, ◌⊎◌, inl, inr, List, [], ◌∷◌, ◌++◌, length, drop, get_or, ⊎_elim, refl, sym, ap, subst, ◌∙◌, append_assoc, arith, length-append}
use Rattle.dc_token.specs.Balance.{Bytes}
use Rattle.dc_token.specs.Bytes.{begins}
use Rattle.dc_token.specs.Numbers.{IsFloat, IsDecimal, IsHexadecimal, IsHexFloat}
use Rattle.dc_token.specs.Items.{PlainSpells, Spells, IsItem, Next}
use Rattle.dc_token.specs.Text.{is_token, token, Reads}
use Rattle.dc_token.specs.declared.item.Item.{Item}
use Rattle.dc_token.specs.declared.item.Item.TheVariants as item
use Rattle.dc_token.specs.declared.token.Token.{Token}
use Rattle.dc_lexer.specs.Fronts.{past, IsMark, IsPowerMark}
use Rattle.dc_lexer.specs.Leads.{lead, can_begin}
use Rattle.dc_lexer.specs.SignBytes.{sign_len}
use Rattle.dc_lexer.specs.declared.lead.Lead.{Lead}
use Rattle.dc_lexer.specs.declared.lead.Lead.TheVariants as lead_is
use Rattle.dc_lexer.specs.declared.set.Set.TheVariants as set
use Rattle.dc_lexer.proofs.SignTable.{equal}
use Rattle.dc_lexer.proofs.Signs.{sign_longest}
use Rattle.dc_lexer.proofs.Comments.{begun}
use Rattle.dc_lexer.proofs.Finding.{first_can, not_or, opens, opens_is, only_blank, only_name, only_raw, only_delimited, only_hex_string, only_quote, only_backquote, only_apostrophe, only_sign, at_point, point_sign, second, second_can, at_line, at_block, at_nested, line_sign, sign_not_allowed}
use Rattle.dc_lexer.proofs.Numbers.{only_number, prefixed, digits_run, float_behind, float_not, no_suffix_at, decimal_longest}
use Rattle.dc_lexer.proofs.Hexadecimals.{hex_kinds, binary_kinds, short_integer, hex_float_not, float_parts}
use Rattle.dc_lexer.proofs.TokenStrings.{plain_is, not_string, only_string, string_can}
use Rattle.dc_lexer.proofs.Scanning.{next_size, next_rest, next_word, no_next, end_only}

-- ---- two kinds that no spelling has at once

short_sign : (t w u : Bytes) (a b : ℕ) (v : Bytes) → sign_len t ≡ 1 → t ≡ w ++ u → IsItem PlainSpells item.Sign w u → w ≡ a ∷ b ∷ v → ⊥
short_sign t w u a b v one parts i spelled =
    let s = (sign_longest t).longest w u parts i.spells in
    let l : length w ≡ suc (suc (length v)) = ap (λ (x : Bytes). length x) spelled in absurd (omega arith)

decimal_float : (t w u : Bytes) → t ≡ w ++ u → IsDecimal w → IsFloat w u → ⊥
decimal_float t w u parts d f = float_not t (digits_run t) refl (λ m. apart m) w u parts f
  where
    apart : IsMark t (digits_run t) → ⊥
    apart m =
        let b = float_behind t (digits_run t) w u refl parts f in
        let size = b.size in
        let head : length f.digits ≡ suc (length f.run.tail) = ap (λ (x : Bytes). length x) f.run.parts in
        let a = (decimal_longest t (digits_run t) refl (omega arith)).longest w u parts d in
        let z = no_suffix_at t (digits_run t) m in
        let l : length w ≡ length f.digits + suc (length f.tail) = ap (λ (x : Bytes). length x) f.parts ∙ length-append f.digits (f.mark ∷ f.tail) in
        absurd (omega arith)

hex_integer_float : (z w u : Bytes) → z ≡ w ++ u → IsHexadecimal w → IsHexFloat w → ⊥
hex_integer_float z w u parts s f = hex_float_not z (past set.HexOrPoint z 2) refl (λ m. apart m) w u parts f
  where
    apart : IsPowerMark z (past set.HexOrPoint z 2) → ⊥
    apart m =
        let whole : z ≡ 48 ∷ 120 ∷ (s.digits ++ (s.suffix ++ u)) = parts ∙ ap (λ (x : Bytes). x ++ u) s.parts ∙ ap (λ (x : Bytes). 48 ∷ 120 ∷ x) (append_assoc s.digits s.suffix u) in
        let a : length w ≤ past set.HexOrPoint z 2 = short_integer z (past set.HexOrPoint z 2) w u s.digits s.suffix refl m whole s.parts s.goes s.ends in
        let p = float_parts z (past set.HexOrPoint z 2) w u refl parts f in
        let run : past set.HexOrPoint z 2 ≡ 2 + length f.digits = p.run in
        let l : length w ≡ suc (suc (length f.digits + suc (length f.tail))) = ap (λ (x : Bytes). length x) f.parts ∙ ap (λ k. suc (suc k)) (length-append f.digits (f.mark ∷ f.tail)) in
        absurd (omega arith)

-- ---- by the first byte

module _ (t w u : Bytes) (parts : t ≡ w ++ u) where
  abbrev Here : Item → Type 0
  Here k = IsItem PlainSpells k w u

  same : (s k j : Item) → k ≡ s → j ≡ s → k ≡ j
  same s k j a b = a ∙ sym b

  of_two : (a b k j : Item) → (k ≡ a) ⊎ (k ≡ b) → (j ≡ a) ⊎ (j ≡ b) → Here k → Here j → (Here a → Here b → ⊥) → k ≡ j
  of_two a b k j (inl p) (inl q) x y apart = p ∙ sym q
  of_two a b k j (inr p) (inr q) x y apart = p ∙ sym q
  of_two a b k j (inl p) (inr q) x y apart = absurd (apart (subst (λ i. Here i) p x) (subst (λ i. Here i) q y))
  of_two a b k j (inr p) (inl q) x y apart = absurd (apart (subst (λ i. Here i) q y) (subst (λ i. Here i) p x))

  letters : (k j : Item) → opens k t ≡ true → opens j t ≡ true → k ≡ j
  letters item.Raw j a b = sym (only_raw t (drop 2 t) (begun 114 34 t a) j b)
  letters item.Delimited j a b = sym (only_delimited t (drop 2 t) (begun 113 34 t a) j b)
  letters item.HexString j a b = sym (only_hex_string t (drop 2 t) (begun 120 34 t a) j b)
  letters item.Name j a b =
      let p = not_or (begins 113 123 t || begins 114 34 t || begins 113 34 t) (begins 120 34 t) a in
      let q = or_false (begins 113 123 t || begins 114 34 t) (begins 113 34 t) p.0 in
      let r = or_false (begins 113 123 t) (begins 114 34 t) q.0 in
      sym (only_name t r.1 q.1 p.1 j b)
    where
      or_false : (x y : Bool) → (x || y) ≡ false → (x ≡ false) × (y ≡ false)
      or_false true y h = absurd (cc)
      or_false false y h = (refl, h)
  letters other j a b = absurd (let k : false ≡ true = a in cc)

  points : Here item.Sign → Here item.PointFloat → ⊥
  points s f =
      let p = f.spells in
      let one : sign_len t ≡ 1 = ap sign_len (parts ∙ ap (λ (x : Bytes). x ++ u) p.parts) ∙ point_sign p.digit (p.tail ++ u) p.begins in
      short_sign t w u 46 p.digit p.tail one parts s p.parts

  line_not_sign : Here item.LineComment → Here item.Sign → ⊥
  line_not_sign l s =
      let p = l.spells in
      short_sign t w u 47 47 p.tail (line_sign t (rw (parts, p.parts) refl)) parts s p.parts

  block_not_sign : Here item.BlockComment → Here item.Sign → ⊥
  block_not_sign l s = let p = l.spells in sign_not_allowed t w u 42 (rw (parts, p.parts) refl) (inl refl) parts s

  nested_not_sign : Here item.NestedComment → Here item.Sign → ⊥
  nested_not_sign l s = let p = l.spells in sign_not_allowed t w u 43 (rw (parts, p.parts) refl) (inr refl) parts s

  -- a comment is of the kind that its second byte says, and a sign is none
  after_slash : (k j : Item) → Here k → Here j → second_can (get_or t 1 0) k ≡ true → second_can (get_or t 1 0) j ≡ true → (k ≡ item.Sign) ⊎ (j ≡ k)
  after_slash item.Sign j x y a b = inl refl
  after_slash item.LineComment j x y a b = inr (⊎_elim (λ e. e) (λ e. absurd (line_not_sign x (subst (λ i. Here i) e y))) (at_line j (subst (λ n. second_can n j ≡ true) (equal (get_or t 1 0) 47 a) b)))
  after_slash item.BlockComment j x y a b = inr (⊎_elim (λ e. e) (λ e. absurd (block_not_sign x (subst (λ i. Here i) e y))) (at_block j (subst (λ n. second_can n j ≡ true) (equal (get_or t 1 0) 42 a) b)))
  after_slash item.NestedComment j x y a b = inr (⊎_elim (λ e. e) (λ e. absurd (nested_not_sign x (subst (λ i. Here i) e y))) (at_nested j (subst (λ n. second_can n j ≡ true) (equal (get_or t 1 0) 43 a) b)))
  after_slash other j x y a b = absurd (let k : false ≡ true = a in cc)

  slashes : (k j : Item) → (k ≡ item.Sign) ⊎ (j ≡ k) → (j ≡ item.Sign) ⊎ (k ≡ j) → k ≡ j
  slashes k j (inr e) q = sym e
  slashes k j (inl p) (inr e) = e
  slashes k j (inl p) (inl q) = p ∙ sym q

  digits : (x y : Bool) → begins 48 120 t ≡ x → begins 48 98 t ≡ y → (k j : Item) → Here k → Here j → can_begin lead_is.Digit k ≡ true → can_begin lead_is.Digit j ≡ true → k ≡ j
  digits true y h g k j a b c d = of_two item.Hexadecimal item.HexFloat k j (hex_kinds t h k w u parts a) (hex_kinds t h j w u parts b) a b (λ m n. hex_integer_float t w u parts m.spells n.spells)
  digits false true h g k j a b c d = same item.Binary k j (binary_kinds t g k w u parts a) (binary_kinds t g j w u parts b)
  digits false false h g k j a b c d =
      of_two item.Decimal item.Float k j (only_number t h g k (prefixed k t w u parts a) c) (only_number t h g j (prefixed j t w u parts b) d) a b (λ m n. decimal_float t w u parts m.spells n.spells)

  one_plain : (l : Lead) → lead (get_or t 0 0) ≡ l → (k j : Item) → Here k → Here j → k ≡ j
  one_plain lead_is.Blank e k j a b = same item.Blank k j (only_blank k w u a (first_can t lead_is.Blank e k w u parts a)) (only_blank j w u b (first_can t lead_is.Blank e j w u parts b))
  one_plain lead_is.Letter e k j a b = letters k j (opens_is k t w u parts a (first_can t lead_is.Letter e k w u parts a)) (opens_is j t w u parts b (first_can t lead_is.Letter e j w u parts b))
  one_plain lead_is.Digit e k j a b = digits (begins 48 120 t) (begins 48 98 t) refl refl k j a b (first_can t lead_is.Digit e k w u parts a) (first_can t lead_is.Digit e j w u parts b)
  one_plain lead_is.Slash e k j a b =
      let p = second k t w u parts a (first_can t lead_is.Slash e k w u parts a) in
      let q = second j t w u parts b (first_can t lead_is.Slash e j w u parts b) in
      slashes k j (after_slash k j a b p q) (after_slash j k b a q p)
  one_plain lead_is.Quote e k j a b = same item.Quoted k j (only_quote k w u a (first_can t lead_is.Quote e k w u parts a)) (only_quote j w u b (first_can t lead_is.Quote e j w u parts b))
  one_plain lead_is.Backquote e k j a b = same item.Backquoted k j (only_backquote k w u a (first_can t lead_is.Backquote e k w u parts a)) (only_backquote j w u b (first_can t lead_is.Backquote e j w u parts b))
  one_plain lead_is.Apostrophe e k j a b = same item.Character k j (only_apostrophe k w u a (first_can t lead_is.Apostrophe e k w u parts a)) (only_apostrophe j w u b (first_can t lead_is.Apostrophe e j w u parts b))
  one_plain lead_is.Point e k j a b = of_two item.Sign item.PointFloat k j (at_point k (first_can t lead_is.Point e k w u parts a)) (at_point j (first_can t lead_is.Point e j w u parts b)) a b points
  one_plain lead_is.Other e k j a b = same item.Sign k j (only_sign k w u a (first_can t lead_is.Other e k w u parts a)) (only_sign j w u b (first_can t lead_is.Other e j w u parts b))

  pub one_kind : (x : Bool) → begins 113 123 t ≡ x → (k j : Item) → IsItem Spells k w u → IsItem Spells j w u → k ≡ j
  one_kind true h k j a b = same item.TokenString k j (only_string t h k w u parts a (string_can t h k w u parts a)) (only_string t h j w u parts b (string_can t h j w u parts b))
  one_kind false h k j a b = one_plain (lead (get_or t 0 0)) refl k j (plain_is k w u (not_string t h k w u parts a) a) (plain_is j w u (not_string t h j w u parts b) b)

next_kind : (t : Bytes) (k j : Item) (w v u x : Bytes) → Next Spells t k w u → Next Spells t j v x → k ≡ j
next_kind t k j w v u x a b =
    let p : w ≡ v = next_word Spells t k j w v u x a b in
    let q : u ≡ x = next_rest Spells t k j w v u x a b in
    one_kind t w u a.parts (begins 113 123 t) refl k j a.is (subst (λ (y : Bytes). IsItem Spells j w y) (sym q) (subst (λ (y : Bytes). IsItem Spells j y x) (sym p) b.is))

-- ---- one reading

pub record Behind (at : ℕ) (t w rest : Bytes) (kind : Item) (us : List Token) : Type 0 where
  pub more : List Token
  pub parts : us ≡ (token kind w at ∷ more)
  pub reads : Reads (at + length w) rest more

pub then_space : (at : ℕ) (t : Bytes) (k : Item) (w rest : Bytes) (us : List Token) → Next Spells t k w rest → is_token k ≡ false → Reads at t us → Reads (at + length w) rest us
then_space at t k w rest us n nay Reads.end = absurd (no_next [] k w rest refl n)
then_space at t k w rest us n nay (Reads.space {kind = j} {w = v} {rest = x} m no_token r) =
    subst (λ (y : Bytes). Reads (at + length w) y us) (next_rest Spells t j k v w x rest m n) (subst (λ y. Reads (at + y) x us) (next_size Spells t j k v w x rest m n) r)
then_space at t k w rest us n nay (Reads.token_then {kind = j} {w = v} {rest = x} m yea r) =
    absurd (let e = next_kind t j k v w x rest m n in let g : is_token k ≡ true = subst (λ i. is_token i ≡ true) e yea in let h : false ≡ true = sym nay ∙ g in cc)

pub then_token : (at : ℕ) (t : Bytes) (k : Item) (w rest : Bytes) (us : List Token) → Next Spells t k w rest → is_token k ≡ true → Reads at t us → Behind at t w rest k us
then_token at t k w rest us n yea Reads.end = absurd (no_next [] k w rest refl n)
then_token at t k w rest us n yea (Reads.space {kind = j} {w = v} {rest = x} m nay r) =
    absurd (let e = next_kind t j k v w x rest m n in let g : is_token k ≡ false = subst (λ i. is_token i ≡ false) e nay in let h : false ≡ true = sym g ∙ yea in cc)
then_token at t k w rest us n yea (Reads.token_then {kind = j} {w = v} {rest = x} {ts = more} m is r) =
    record {
      more = more;
      parts = ap (λ i. token i v at ∷ more) (next_kind t j k v w x rest m n) ∙ ap (λ (y : Bytes). token k y at ∷ more) (next_word Spells t j k v w x rest m n);
      reads = subst (λ (y : Bytes). Reads (at + length w) y more) (next_rest Spells t j k v w x rest m n) (subst (λ y. Reads (at + y) x more) (next_size Spells t j k v w x rest m n) r);
    }

pub one_reading : (at : ℕ) (t : Bytes) (ts us : List Token) → Reads at t ts → Reads at t us → us ≡ ts
one_reading at t ts us Reads.end s = end_only at [] us refl s
one_reading at t ts us (Reads.space {kind = k} {w = w} {rest = rest} n nay r) s = one_reading (at + length w) rest ts us r (then_space at t k w rest us n nay s)
one_reading at t ts us (Reads.token_then {kind = k} {w = w} {rest = rest} {ts = more} n yea r) s =
    let b = then_token at t k w rest us n yea s in
    b.parts ∙ ap (λ (x : List Token). token k w at ∷ x) (one_reading (at + length w) rest more b.more r b.reads)
