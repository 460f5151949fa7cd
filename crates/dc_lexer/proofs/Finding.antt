-- From the longest item of each kind to the next item.
use Rattle.std.proofs.Common.{◌≡◌, ◌≢◌, ℕ, zero, suc, ◌+◌, ◌<◌, ◌≤◌, Bool, true, false, not, ◌&&◌, ◌||◌, ◌==◌, ◌⊎◌, inl, inr, [], ◌∷◌, ◌++◌, length, take, drop, get_or, refl, sym, ap, subst, ◌∙◌, arith}
use Rattle.std.proofs.lemmas.Bool.Decides.{nat_tests}
use Rattle.std.proofs.lemmas.List.{take-append-drop, length-take-le}
use Rattle.std.specs.List.{prefix_len, list_all}
use Rattle.std.proofs.lemmas.List.Sums.{prefix_len-le-length}
use Rattle.std.specs.Char.{is_ascii_digit}
use Rattle.dc_token.specs.Balance.{Bytes}
use Rattle.dc_token.specs.Bytes.{is_blank, is_letter, is_word, is_not_line_feed, begins, Run, Opened}
use Rattle.dc_token.specs.Comments.{IsBlock, IsNested}
use Rattle.dc_token.specs.Names.{IsName}
use Rattle.dc_token.specs.Numbers.{IsPointFloat}
use Rattle.dc_token.specs.Strings.{Suffixed, IsBody, IsToQuote, IsCharacter}
use Rattle.dc_token.specs.Items.{PlainSpells, refused, allows, IsItem, Next}
use Rattle.dc_token.specs.declared.item.Item.{Item}
use Rattle.dc_token.specs.declared.item.Item.TheVariants as item
use Rattle.dc_token.proofs.Lists.{take_front}
use Rattle.dc_lexer.specs.Fronts.{run, past, Longest, Found, Best, Bounded}
use Rattle.dc_lexer.specs.Leads.{lead, can_begin}
use Rattle.dc_lexer.specs.SignBytes.{double, doubles, takes_equals, sign_len}
use Rattle.dc_lexer.specs.declared.lead.Lead.{Lead}
use Rattle.dc_lexer.specs.declared.lead.Lead.TheVariants as lead_is
use Rattle.dc_lexer.specs.declared.set.Set.TheVariants as set
use Rattle.dc_lexer.proofs.Starts.{Begins, plain_starts, blank_class, letter_class}
use Rattle.dc_lexer.proofs.Runs.{run_longest, taken, reach}
use Rattle.dc_lexer.proofs.Signs.{sign_longest}
use Rattle.dc_lexer.proofs.SignTable.{or_split, equal}
use Rattle.std.proofs.lemmas.Bool.{and_parts}
use Rattle.dc_lexer.proofs.Comments.{begun, begins_of}

-- each kind has a first byte
abbrev pub Starts : (Item → Bytes → Bytes → Type 0) → Type 0
Starts P = (kind : Item) (w u : Bytes) → P kind w u → Begins kind w

not_empty : (kind : Item) (w : Bytes) → Begins kind w → 1 ≤ length w
not_empty kind w b = rw b.parts (omega arith)

pub best : (P : Item → Bytes → Bytes → Type 0) → (t : Bytes) (kind : Item) (n : ℕ) → Longest (P kind) t n → allows t kind ≡ true → Bounded P t kind n → Best P t (kind, n)
best P t kind n l a b = record { longest = l; allowed = a; bounded = b }

-- the longest item is readable, or there is none
pub readable_found : (P : Item → Bytes → Bytes → Type 0) → Starts P → (t : Bytes) (kind : Item) (n : ℕ) → Best P t (kind, n) → (0 < n → refused kind (take n t) ≡ false) → Found P t (kind, n)
readable_found P starts t kind n b readable = record {
  within = b.longest.within;
  next = λ h. record {
    parts = sym (take-append-drop n t);
    is = record { spells = b.longest.is h; allowed = rw take-append-drop b.allowed };
    longest = λ other v u parts is. rw (length-take-le n t b.longest.within) (shorter other v u parts is (b.bounded other v u parts is));
    readable = readable h;
  };
  sole = λ h other w rest next. same h other w rest next (b.bounded other w rest next.parts next.is);
  none = λ e other w rest next. empty e other w rest next.parts next.is (b.bounded other w rest next.parts next.is);
}
  where
    shorter : (other : Item) (v u : Bytes) → t ≡ v ++ u → IsItem P other v u → (other ≡ kind) ⊎ (length v < n) → length v ≤ n
    shorter other v u parts is (inl e) = b.longest.longest v u parts (subst (λ k. P k v u) e is.spells)
    shorter other v u parts is (inr h) = omega arith

    same : 0 < n → (other : Item) (w rest : Bytes) → Next P t other w rest → (other ≡ kind) ⊎ (length w < n) → other ≡ kind
    same h other w rest next (inl e) = e
    same h other w rest next (inr less) =
        let m = next.longest kind (take n t) (drop n t) (sym (take-append-drop n t)) (record { spells = b.longest.is h; allowed = rw take-append-drop b.allowed }) in
        let k = length-take-le n t b.longest.within in absurd (omega arith)

    empty : n ≡ 0 → (other : Item) (v u : Bytes) → t ≡ v ++ u → IsItem P other v u → (other ≡ kind) ⊎ (length v < n) → ⊥
    empty z other v u parts is (inl e) = let a = b.longest.longest v u parts (subst (λ k. P k v u) e is.spells) in let c = not_empty other v (starts other v u is.spells) in absurd (omega arith)
    empty z other v u parts is (inr h) = absurd (omega arith)

-- the longest item is one that makes the text unreadable
some_refused : (P : Item → Bytes → Bytes → Type 0) → (t : Bytes) (kind : Item) (n : ℕ) → Best P t (kind, n) → 0 < n → refused kind (take n t) ≡ true → Found P t (kind, 0)
some_refused P t kind n b some bad = record {
  within = omega arith;
  next = λ h. absurd (omega arith);
  sole = λ h. absurd (omega arith);
  none = λ _ other w rest next. go other w rest next (b.bounded other w rest next.parts next.is);
}
  where
    go : (other : Item) (w rest : Bytes) → Next P t other w rest → (other ≡ kind) ⊎ (length w < n) → ⊥
    go other w rest next c =
        let m = next.longest kind (take n t) (drop n t) (sym (take-append-drop n t)) (record { spells = b.longest.is some; allowed = rw take-append-drop b.allowed }) in
        let k = length-take-le n t b.longest.within in
        kinds other w rest next c (omega arith)
      where
        kinds : (other : Item) (w rest : Bytes) → Next P t other w rest → (other ≡ kind) ⊎ (length w < n) → n ≤ length w → ⊥
        kinds other w rest next (inr less) h = absurd (omega arith)
        kinds other w rest next (inl e) h =
            let i : IsItem P kind w rest = subst (λ x. IsItem P x w rest) e next.is in
            let a = b.longest.longest w rest next.parts i.spells in
            let size : length w ≡ n = omega arith in
            let same : take n t ≡ w = ap (λ (x : ℕ). take x t) (sym size) ∙ ap (λ (x : Bytes). take (length w) x) next.parts ∙ take_front w rest in
            let r : refused other w ≡ false = next.readable in
            let f : refused kind w ≡ false = subst (λ x. refused x w ≡ false) e r in
            let g : refused kind w ≡ true = subst (λ (x : Bytes). refused kind x ≡ true) same bad in
            absurd (let k : false ≡ true = sym f ∙ g in cc)

pub refused_found : (P : Item → Bytes → Bytes → Type 0) → Starts P → (t : Bytes) (kind : Item) (n : ℕ) → Best P t (kind, n) → refused kind (take n t) ≡ true → Found P t (kind, 0)
refused_found P starts t kind zero b bad = readable_found P starts t kind 0 b (λ h. absurd (omega arith))
refused_found P starts t kind (suc n) b bad = some_refused P t kind (suc n) b (omega arith) bad

head_is : (t w u : Bytes) (h : ℕ) (tail : Bytes) → t ≡ w ++ u → w ≡ h ∷ tail → get_or t 0 0 ≡ h
head_is t w u h tail p q = rw (p, q) refl

second_is : (t w u : Bytes) (h k : ℕ) (tail : Bytes) → t ≡ w ++ u → w ≡ h ∷ k ∷ tail → get_or t 1 0 ≡ k
second_is t w u h k tail p q = rw (p, q) refl

-- what can stand at the front of t, by its first byte
pub first_can : (t : Bytes) (c : Lead) → lead (get_or t 0 0) ≡ c → (kind : Item) (w u : Bytes) → t ≡ w ++ u → IsItem PlainSpells kind w u → can_begin c kind ≡ true
first_can t c is kind w u parts i =
    let b = plain_starts kind w u i.spells in
    let e : get_or t 0 0 ≡ b.head = head_is t w u b.head b.tail parts b.parts in
    subst (λ x. can_begin x kind ≡ true) (ap lead (sym e) ∙ is) b.can

pub only_blank : (kind : Item) (w u : Bytes) → IsItem PlainSpells kind w u → can_begin lead_is.Blank kind ≡ true → kind ≡ item.Blank
only_blank item.Blank w u i h = refl
only_blank other w u i h = absurd (cc)

-- the tests that stand behind what is allowed
pub not_or : (x y : Bool) → not (x || y) ≡ true → (x ≡ false) × (y ≡ false)
not_or true y h = absurd (cc)
not_or false true h = absurd (cc)
not_or false false h = (refl, refl)

-- where a letter begins an item, the two first bytes say of which kind it is
abbrev pub opens : Item → Bytes → Bool
opens item.Raw t = begins 114 34 t
opens item.Delimited t = begins 113 34 t
opens item.HexString t = begins 120 34 t
opens item.Name t = not (begins 113 123 t || begins 114 34 t || begins 113 34 t || begins 120 34 t)
opens other t = false

pub opens_is : (kind : Item) (t w u : Bytes) → t ≡ w ++ u → IsItem PlainSpells kind w u → can_begin lead_is.Letter kind ≡ true → opens kind t ≡ true
opens_is item.Raw t w u parts i c = let s = i.spells in rw (parts, s.parts, s.is.parts) refl
opens_is item.Delimited t w u parts i c = let s = i.spells in rw (parts, s.parts) refl
opens_is item.HexString t w u parts i c = let s = i.spells in rw (parts, s.parts) refl
opens_is item.Name t w u parts i c = rw parts i.allowed
opens_is item.TokenString t w u parts i c = absurd i.spells
opens_is other t w u parts i c = absurd (let k : false ≡ true = c in cc)

no_letter : (kind : Item) (t x : Bytes) → t ≡ x → opens kind t ≡ true → opens kind x ≡ false → ⊥
no_letter kind t x e o n = let k : opens kind x ≡ true = subst (λ (y : Bytes). opens kind y ≡ true) e o in let l : false ≡ true = sym n ∙ k in absurd (cc)

pub not_at_string : (kind : Item) (t x : Bytes) → t ≡ 113 ∷ 123 ∷ x → opens kind t ≡ true → ⊥
not_at_string kind t x e o = no_letter kind t (113 ∷ 123 ∷ x) e o (none kind)
  where
    none : (kind : Item) → opens kind (113 ∷ 123 ∷ x) ≡ false
    none item.Raw = refl
    none item.Delimited = refl
    none item.HexString = refl
    none item.Name = refl
    none other = refl

pub only_name : (t : Bytes) → begins 114 34 t ≡ false → begins 113 34 t ≡ false → begins 120 34 t ≡ false → (kind : Item) → opens kind t ≡ true → kind ≡ item.Name
only_name t a b c item.Name o = refl
only_name t a b c item.Raw o = absurd (let k : false ≡ true = sym a ∙ o in cc)
only_name t a b c item.Delimited o = absurd (let k : false ≡ true = sym b ∙ o in cc)
only_name t a b c item.HexString o = absurd (let k : false ≡ true = sym c ∙ o in cc)
only_name t a b c other o = absurd (let k : false ≡ true = o in cc)

pub only_raw : (t x : Bytes) → t ≡ 114 ∷ 34 ∷ x → (kind : Item) → opens kind t ≡ true → kind ≡ item.Raw
only_raw t x e item.Raw o = refl
only_raw t x e item.Delimited o = absurd (no_letter item.Delimited t (114 ∷ 34 ∷ x) e o refl)
only_raw t x e item.HexString o = absurd (no_letter item.HexString t (114 ∷ 34 ∷ x) e o refl)
only_raw t x e item.Name o = absurd (no_letter item.Name t (114 ∷ 34 ∷ x) e o refl)
only_raw t x e other o = absurd (let k : false ≡ true = o in cc)

pub only_delimited : (t x : Bytes) → t ≡ 113 ∷ 34 ∷ x → (kind : Item) → opens kind t ≡ true → kind ≡ item.Delimited
only_delimited t x e item.Delimited o = refl
only_delimited t x e item.Raw o = absurd (no_letter item.Raw t (113 ∷ 34 ∷ x) e o refl)
only_delimited t x e item.HexString o = absurd (no_letter item.HexString t (113 ∷ 34 ∷ x) e o refl)
only_delimited t x e item.Name o = absurd (no_letter item.Name t (113 ∷ 34 ∷ x) e o refl)
only_delimited t x e other o = absurd (let k : false ≡ true = o in cc)

pub only_hex_string : (t x : Bytes) → t ≡ 120 ∷ 34 ∷ x → (kind : Item) → opens kind t ≡ true → kind ≡ item.HexString
only_hex_string t x e item.HexString o = refl
only_hex_string t x e item.Raw o = absurd (no_letter item.Raw t (120 ∷ 34 ∷ x) e o refl)
only_hex_string t x e item.Delimited o = absurd (no_letter item.Delimited t (120 ∷ 34 ∷ x) e o refl)
only_hex_string t x e item.Name o = absurd (no_letter item.Name t (120 ∷ 34 ∷ x) e o refl)
only_hex_string t x e other o = absurd (let k : false ≡ true = o in cc)

pub only_apostrophe : (kind : Item) (w u : Bytes) → IsItem PlainSpells kind w u → can_begin lead_is.Apostrophe kind ≡ true → kind ≡ item.Character
only_apostrophe item.Character w u i h = refl
only_apostrophe other w u i h = absurd (let k : false ≡ true = h in cc)

pub only_quote : (kind : Item) (w u : Bytes) → IsItem PlainSpells kind w u → can_begin lead_is.Quote kind ≡ true → kind ≡ item.Quoted
only_quote item.Quoted w u i h = refl
only_quote other w u i h = absurd (let k : false ≡ true = h in cc)

pub only_backquote : (kind : Item) (w u : Bytes) → IsItem PlainSpells kind w u → can_begin lead_is.Backquote kind ≡ true → kind ≡ item.Backquoted
only_backquote item.Backquoted w u i h = refl
only_backquote other w u i h = absurd (let k : false ≡ true = h in cc)

pub only_sign : (kind : Item) (w u : Bytes) → IsItem PlainSpells kind w u → can_begin lead_is.Other kind ≡ true → kind ≡ item.Sign
only_sign item.Sign w u i h = refl
only_sign other w u i h = absurd (cc)

pub run_past : (first more : ℕ → Bool) (t : Bytes) → first (get_or t 0 0) ≡ true → 0 < length t → run first more t ≡ 1 + prefix_len more (drop 1 t)
run_past first more [] h some = absurd (omega arith)
run_past first more (b ∷ t) h some = rw h

run_found : (kind : Item) (c : Lead) (first more : ℕ → Bool) → ((w u : Bytes) → PlainSpells kind w u ≡ Run first more w) → ((other : Item) (w u : Bytes) → IsItem PlainSpells other w u → can_begin c other ≡ true → other ≡ kind)
    → (t : Bytes) → allows t kind ≡ true → lead (get_or t 0 0) ≡ c → 0 < length t → first (get_or t 0 0) ≡ true → Best PlainSpells t (kind, 1 + prefix_len more (drop 1 t))
run_found kind c first more same only t allowed is some h =
    let l = run_longest first more t in
    let l2 : Longest (PlainSpells kind) t (run first more t) = record {
      within = l.within;
      is = λ p. subst (λ x. x) (sym (same (take (run first more t) t) (drop (run first more t) t))) (l.is p);
      longest = λ w u parts s. l.longest w u parts (subst (λ x. x) (same w u) s);
    } in
    subst (λ x. Best PlainSpells t (kind, x)) (run_past first more t h some) (best PlainSpells t kind (run first more t) l2 allowed (λ other w u parts i. inl (only other w u i (first_can t c is other w u parts i))))

-- ---- runs

pub blank_found : (t : Bytes) (n : ℕ) → is_blank (get_or t 0 0) ≡ true → 0 < length t → n ≡ past set.Blank t 1 → Best PlainSpells t (item.Blank, n)
blank_found t n is some eq =
    subst (λ x. Best PlainSpells t (item.Blank, x)) (sym eq) (run_found item.Blank lead_is.Blank is_blank is_blank (λ w u. refl) only_blank t refl (blank_class (get_or t 0 0) is) some is)

-- ---- names and strings

at_letter : (t : Bytes) → is_letter (get_or t 0 0) ≡ true → (kind : Item) (w u : Bytes) → t ≡ w ++ u → IsItem PlainSpells kind w u → opens kind t ≡ true
at_letter t is kind w u parts i = opens_is kind t w u parts i (first_can t lead_is.Letter (letter_class (get_or t 0 0) is) kind w u parts i)

pub name_found : (t : Bytes) (n : ℕ) → begins 113 123 t ≡ false → begins 114 34 t ≡ false → begins 113 34 t ≡ false → begins 120 34 t ≡ false → is_letter (get_or t 0 0) ≡ true → Longest (λ w u. IsName w) t n → Best PlainSpells t (item.Name, n)
name_found t n none a b c is l = best PlainSpells t item.Name n l (rw (none, a, b, c) refl) (λ other w u parts i. inl (only_name t a b c other (at_letter t is other w u parts i)))

pub raw_found : (t : Bytes) (n : ℕ) → begins 114 34 t ≡ true → is_letter (get_or t 0 0) ≡ true → Longest (Suffixed (IsBody (114 ∷ 34 ∷ []) 34 false)) t n → Best PlainSpells t (item.Raw, n)
raw_found t n h is l = best PlainSpells t item.Raw n l refl (λ other w u parts i. inl (only_raw t (drop 2 t) (begun 114 34 t h) other (at_letter t is other w u parts i)))

pub delimited_found : (t : Bytes) (n : ℕ) → begins 113 34 t ≡ true → is_letter (get_or t 0 0) ≡ true → Longest (IsToQuote 113) t n → Best PlainSpells t (item.Delimited, n)
delimited_found t n h is l = best PlainSpells t item.Delimited n l refl (λ other w u parts i. inl (only_delimited t (drop 2 t) (begun 113 34 t h) other (at_letter t is other w u parts i)))

pub hex_string_found : (t : Bytes) (n : ℕ) → begins 120 34 t ≡ true → is_letter (get_or t 0 0) ≡ true → Longest (IsToQuote 120) t n → Best PlainSpells t (item.HexString, n)
hex_string_found t n h is l = best PlainSpells t item.HexString n l refl (λ other w u parts i. inl (only_hex_string t (drop 2 t) (begun 120 34 t h) other (at_letter t is other w u parts i)))

pub quoted_found : (t : Bytes) (n : ℕ) → get_or t 0 0 ≡ 34 → Longest (Suffixed (IsBody (34 ∷ []) 34 true)) t n → Best PlainSpells t (item.Quoted, n)
quoted_found t n is l = best PlainSpells t item.Quoted n l refl (λ other w u parts i. inl (only_quote other w u i (first_can t lead_is.Quote (rw is refl) other w u parts i)))

pub backquoted_found : (t : Bytes) (n : ℕ) → get_or t 0 0 ≡ 96 → Longest (Suffixed (IsBody (96 ∷ []) 96 false)) t n → Best PlainSpells t (item.Backquoted, n)
backquoted_found t n is l = best PlainSpells t item.Backquoted n l refl (λ other w u parts i. inl (only_backquote other w u i (first_can t lead_is.Backquote (rw is refl) other w u parts i)))

pub character_found : (t : Bytes) (n : ℕ) → get_or t 0 0 ≡ 39 → Longest IsCharacter t n → Best PlainSpells t (item.Character, n)
character_found t n is l = best PlainSpells t item.Character n l refl (λ other w u parts i. inl (only_apostrophe other w u i (first_can t lead_is.Apostrophe (rw is refl) other w u parts i)))

-- ---- signs

no_opener : (a : ℕ) (t : Bytes) → (get_or t 0 0 == 47) ≡ false → begins 47 a t ≡ false
no_opener a [] h = refl
no_opener a (c ∷ []) h = refl
no_opener a (c ∷ d ∷ t) h = rw h

no_second : (a : ℕ) (t : Bytes) → (get_or t 1 0 == a) ≡ false → begins 47 a t ≡ false
no_second a [] h = refl
no_second a (c ∷ []) h = refl
no_second a (c ∷ d ∷ t) h = rw h (and_false (c == 47))
  where
    and_false : (x : Bool) → (x && false) ≡ false
    and_false true = refl
    and_false false = refl

pub sign_found : (t : Bytes) (n : ℕ) → lead (get_or t 0 0) ≡ lead_is.Other → get_or t 0 0 ≢ 47 → n ≡ sign_len t → Best PlainSpells t (item.Sign, n)
sign_found t n is other eq =
    let far : (get_or t 0 0 == 47) ≡ false = grind (arith, nat_tests) in
    rw eq (best PlainSpells t item.Sign (sign_len t) (sign_longest t) (rw (no_opener 42 t far, no_opener 43 t far) refl) (λ other w u parts i. inl (only_sign other w u i (first_can t lead_is.Other is other w u parts i))))

-- ---- items that begin with a point

pub at_point : (kind : Item) → can_begin lead_is.Point kind ≡ true → (kind ≡ item.Sign) ⊎ (kind ≡ item.PointFloat)
at_point item.Sign h = inl refl
at_point item.PointFloat h = inr refl
at_point other h = absurd (let k : false ≡ true = h in cc)

pub point_sign_found : (t : Bytes) (n : ℕ) → get_or t 0 0 ≡ 46 → is_ascii_digit (get_or t 1 0) ≡ false → n ≡ sign_len t → Best PlainSpells t (item.Sign, n)
point_sign_found t n first none eq =
    let far : (get_or t 0 0 == 47) ≡ false = rw first refl in
    rw eq (best PlainSpells t item.Sign (sign_len t) (sign_longest t) (rw (no_opener 42 t far, no_opener 43 t far) refl) (λ other w u parts i. go other w u parts i (at_point other (first_can t lead_is.Point (rw first refl) other w u parts i))))
  where
    go : (other : Item) (w u : Bytes) → t ≡ w ++ u → IsItem PlainSpells other w u → (other ≡ item.Sign) ⊎ (other ≡ item.PointFloat) → (other ≡ item.Sign) ⊎ (length w < sign_len t)
    go other w u parts i (inl e) = inl e
    go other w u parts i (inr e) =
        let s : IsPointFloat w = subst (λ k. PlainSpells k w u) e i.spells in
        let d : get_or t 1 0 ≡ s.digit = second_is t w u 46 s.digit s.tail parts s.parts in
        absurd (let k : false ≡ true = sym none ∙ ap is_ascii_digit d ∙ s.begins in cc)

not_double : (d : ℕ) → is_ascii_digit d ≡ true → double 46 d ≡ true → ⊥
not_double d h g = first (or_split ((d == 61 && takes_equals 46) || (d == 62 && 46 == 61)) (doubles d && d == 46) g)
  where
    no : (k : ℕ) → (d == k) ≡ true → is_ascii_digit k ≡ false → ⊥
    no k e n = absurd (let i : is_ascii_digit k ≡ true = subst (λ x. is_ascii_digit x ≡ true) (equal d k e) h in let l : false ≡ true = sym n ∙ i in cc)

    second : ((d == 61 && takes_equals 46) ≡ true) ⊎ ((d == 62 && 46 == 61) ≡ true) → ⊥
    second (inl e) = no 61 (and_parts (d == 61) (takes_equals 46) e).0 refl
    second (inr e) = no 62 (and_parts (d == 62) (46 == 61) e).0 refl

    first : (((d == 61 && takes_equals 46) || (d == 62 && 46 == 61)) ≡ true) ⊎ ((doubles d && d == 46) ≡ true) → ⊥
    first (inl e) = second (or_split (d == 61 && takes_equals 46) (d == 62 && 46 == 61) e)
    first (inr e) = no 46 (and_parts (doubles d) (d == 46) e).1 refl

is_false : (x : Bool) → (x ≡ true → ⊥) → x ≡ false
is_false true h = absurd (h refl)
is_false false h = refl

pub point_sign : (d : ℕ) (t : Bytes) → is_ascii_digit d ≡ true → sign_len (46 ∷ d ∷ t) ≡ 1
unfolding sign_len
point_sign d t h = let e : double 46 d ≡ false = is_false (double 46 d) (not_double d h) in rw e refl

two_bytes : (t : Bytes) (a b : ℕ) → get_or t 0 0 ≡ suc a → get_or t 1 0 ≡ suc b → t ≡ suc a ∷ suc b ∷ drop 2 t
two_bytes t a b p q = begun (suc a) (suc b) t (begins_of a b t p q)

point_tail : (t w u v : Bytes) (d e : ℕ) → 46 ∷ d ∷ t ≡ w ++ u → w ≡ 46 ∷ e ∷ v → t ≡ v ++ u
point_tail t w u v d e p q = let g : 46 ∷ d ∷ t ≡ 46 ∷ e ∷ (v ++ u) = p ∙ ap (λ (x : Bytes). x ++ u) q in cc

point_float_longest : (d : ℕ) (t : Bytes) → is_ascii_digit d ≡ true → Longest (λ w u. IsPointFloat w) (46 ∷ d ∷ t) (2 + prefix_len is_word t)
point_float_longest d t h =
    let n : ℕ = prefix_len is_word t in
    let s : 2 + n ≡ suc (suc n) = omega arith in
    let k : n ≤ length t = prefix_len-le-length is_word t in
    record {
      within = omega arith;
      is = λ p. rw s (record { digit = d; tail = take n t; parts = refl; begins = h; goes = taken is_word t });
      longest = λ w u parts o. (let q : t ≡ o.tail ++ u = point_tail t w u o.tail d o.digit parts o.parts in let r = reach is_word o.tail u o.goes in let g : length o.tail ≤ n = rw q r in rw o.parts (omega arith));
    }

digit_positive : (d : ℕ) → is_ascii_digit d ≡ true → (e : ℕ) × (d ≡ suc e)
digit_positive zero h = absurd (let k : false ≡ true = h in cc)
digit_positive (suc e) h = (e, refl)

pub point_float_found : (t : Bytes) (n : ℕ) → get_or t 0 0 ≡ 46 → is_ascii_digit (get_or t 1 0) ≡ true → n ≡ past set.Word t 2 → Best PlainSpells t (item.PointFloat, n)
point_float_found t n first digit eq =
    let p = digit_positive (get_or t 1 0) digit in
    let d : ℕ = suc p.0 in
    let whole : t ≡ 46 ∷ d ∷ drop 2 t = two_bytes t 45 p.0 first p.1 in
    let is : is_ascii_digit d ≡ true = subst (λ x. is_ascii_digit x ≡ true) p.1 digit in
    let l : Longest (λ w u. IsPointFloat w) t (2 + prefix_len is_word (drop 2 t)) = subst (λ (x : Bytes). Longest (λ w u. IsPointFloat w) x (2 + prefix_len is_word (drop 2 t))) (sym whole) (point_float_longest d (drop 2 t) is) in
    let one : sign_len t ≡ 1 = ap sign_len whole ∙ point_sign d (drop 2 t) is in
    rw eq (best PlainSpells t item.PointFloat (2 + prefix_len is_word (drop 2 t)) l refl (λ other w u parts i. go one other w u parts i (at_point other (first_can t lead_is.Point (rw first refl) other w u parts i))))
  where
    go : sign_len t ≡ 1 → (other : Item) (w u : Bytes) → t ≡ w ++ u → IsItem PlainSpells other w u → (other ≡ item.Sign) ⊎ (other ≡ item.PointFloat) → (other ≡ item.PointFloat) ⊎ (length w < 2 + prefix_len is_word (drop 2 t))
    go one other w u parts i (inr e) = inl e
    go one other w u parts i (inl e) = let a = (sign_longest t).longest w u parts (subst (λ k. PlainSpells k w u) e i.spells) in inr (omega arith)

-- ---- items that begin with a slash

-- what can stand at a slash, by the byte after it
abbrev pub second_can : ℕ → Item → Bool
second_can x item.LineComment = x == 47
second_can x item.BlockComment = x == 42
second_can x item.NestedComment = x == 43
second_can x item.Sign = true
second_can x other = false

eqb_of : (x k : ℕ) → x ≡ k → (x == k) ≡ true
eqb_of x k h = grind (arith, nat_tests)

pub second : (other : Item) (t w u : Bytes) → t ≡ w ++ u → IsItem PlainSpells other w u → can_begin lead_is.Slash other ≡ true → second_can (get_or t 1 0) other ≡ true
second item.LineComment t w u parts i h = let s = i.spells in eqb_of _ 47 (second_is t w u 47 47 s.tail parts s.parts)
second item.BlockComment t w u parts i h = let s = i.spells in eqb_of _ 42 (second_is t w u 47 42 (s.inside ++ (42 ∷ 47 ∷ [])) parts s.parts)
second item.NestedComment t w u parts i h = let s = i.spells in eqb_of _ 43 (second_is t w u 47 43 (s.inside ++ (43 ∷ 47 ∷ [])) parts s.parts)
second item.Sign t w u parts i h = refl
second other t w u parts i h = absurd (cc)

slash_can : (x : ℕ) (t : Bytes) → get_or t 0 0 ≡ 47 → get_or t 1 0 ≡ x → (other : Item) (w u : Bytes) → t ≡ w ++ u → IsItem PlainSpells other w u → second_can x other ≡ true
slash_can x t first h other w u parts i = subst (λ y. second_can y other ≡ true) h (second other t w u parts i (first_can t lead_is.Slash (rw first refl) other w u parts i))

pub at_line : (other : Item) → second_can 47 other ≡ true → (other ≡ item.LineComment) ⊎ (other ≡ item.Sign)
at_line item.LineComment h = inl refl
at_line item.Sign h = inr refl
at_line other h = absurd (cc)

pub at_block : (other : Item) → second_can 42 other ≡ true → (other ≡ item.BlockComment) ⊎ (other ≡ item.Sign)
at_block item.BlockComment h = inl refl
at_block item.Sign h = inr refl
at_block other h = absurd (cc)

pub at_nested : (other : Item) → second_can 43 other ≡ true → (other ≡ item.NestedComment) ⊎ (other ≡ item.Sign)
at_nested item.NestedComment h = inl refl
at_nested item.Sign h = inr refl
at_nested other h = absurd (cc)

at_sign : (x : ℕ) → (x == 47) ≡ false → (x == 42) ≡ false → (x == 43) ≡ false → (other : Item) → second_can x other ≡ true → other ≡ item.Sign
at_sign x a b c item.LineComment h = absurd (cc)
at_sign x a b c item.BlockComment h = absurd (cc)
at_sign x a b c item.NestedComment h = absurd (cc)
at_sign x a b c item.Sign h = refl
at_sign x a b c other h = absurd (cc)

-- where `/*` or `/+` stands, no sign is allowed
pub sign_not_allowed : (t w u : Bytes) (a : ℕ) → begins 47 a t ≡ true → (a ≡ 42) ⊎ (a ≡ 43) → t ≡ w ++ u → IsItem PlainSpells item.Sign w u → ⊥
sign_not_allowed t w u a h (inl e) parts i = let m = i.allowed in let g : begins 47 42 (w ++ u) ≡ true = subst (λ x. begins 47 42 x ≡ true) parts (subst (λ x. begins 47 x t ≡ true) e h) in absurd (let k : false ≡ true = subst (λ x. not (x || begins 47 43 (w ++ u)) ≡ true) g m in cc)
sign_not_allowed t w u a h (inr e) parts i = let m = i.allowed in let g : begins 47 43 (w ++ u) ≡ true = subst (λ x. begins 47 43 x ≡ true) parts (subst (λ x. begins 47 x t ≡ true) e h) in absurd (let k : not (begins 47 42 (w ++ u) || true) ≡ true = subst (λ x. not (begins 47 42 (w ++ u) || x) ≡ true) g m in both (begins 47 42 (w ++ u)) k)
  where
    both : (x : Bool) → not (x || true) ≡ true → ⊥
    both true h = absurd (cc)
    both false h = absurd (cc)

pub begun_first : (a b : ℕ) (t : Bytes) → begins a b t ≡ true → (get_or t 0 0 ≡ a) × (get_or t 1 0 ≡ b)
begun_first a b [] h = absurd (cc)
begun_first a b (c ∷ []) h = absurd (cc)
begun_first a b (c ∷ d ∷ t) h = (grind (arith, nat_tests), grind (arith, nat_tests))

line_tail : (t w u v : Bytes) → 47 ∷ 47 ∷ t ≡ w ++ u → w ≡ 47 ∷ 47 ∷ v → t ≡ v ++ u
line_tail t w u v p q = let e : 47 ∷ 47 ∷ t ≡ 47 ∷ 47 ∷ (v ++ u) = p ∙ ap (λ (x : Bytes). x ++ u) q in cc

line_of : (t : Bytes) → begins 47 47 t ≡ true → Longest (λ w u. Opened 47 47 (λ v. list_all is_not_line_feed v ≡ true) w) t (2 + prefix_len is_not_line_feed (drop 2 t))
line_of t h =
    let e = begun 47 47 t h in
    rw e (of (drop 2 t))
  where
    of : (t : Bytes) → Longest (λ w u. Opened 47 47 (λ v. list_all is_not_line_feed v ≡ true) w) (47 ∷ 47 ∷ t) (2 + prefix_len is_not_line_feed t)
    of t =
        let n : ℕ = prefix_len is_not_line_feed t in
        let s : 2 + n ≡ suc (suc n) = omega arith in
        let k : n ≤ length t = prefix_len-le-length is_not_line_feed t in
        record {
          within = omega arith;
          is = λ p. rw s (record { tail = take n t; parts = refl; is = taken is_not_line_feed t });
          longest = λ w u parts o. (let r = reach is_not_line_feed o.tail u o.is in let q : t ≡ o.tail ++ u = let pa = parts in let pb = o.parts in line_tail t w u o.tail pa pb in let g : length o.tail ≤ n = rw q r in rw o.parts (omega arith));
        }

pub line_sign : (t : Bytes) → begins 47 47 t ≡ true → sign_len t ≡ 1
unfolding sign_len
line_sign t h = rw (begun 47 47 t h) refl

pub line_found : (t : Bytes) (n : ℕ) → begins 47 47 t ≡ true → n ≡ past set.NotLineFeed t 2 → Best PlainSpells t (item.LineComment, n)
line_found t n h eq =
    rw eq (best PlainSpells t item.LineComment (past set.NotLineFeed t 2) (line_of t h) refl (λ other w u parts i. go other w u parts i (at_line other (slash_can 47 t (begun_first 47 47 t h).0 (begun_first 47 47 t h).1 other w u parts i))))
  where
    go : (other : Item) (w u : Bytes) → t ≡ w ++ u → IsItem PlainSpells other w u → (other ≡ item.LineComment) ⊎ (other ≡ item.Sign) → (other ≡ item.LineComment) ⊎ (length w < past set.NotLineFeed t 2)
    go other w u parts i (inl e) = inl e
    go other w u parts i (inr e) = let a = (sign_longest t).longest w u parts (subst (λ k. PlainSpells k w u) e i.spells) in let b = line_sign t h in inr (omega arith)

pub block_found : (t : Bytes) (n : ℕ) → begins 47 42 t ≡ true → Longest IsBlock t n → Best PlainSpells t (item.BlockComment, n)
block_found t n h l = best PlainSpells t item.BlockComment n l refl (λ other w u parts i. go other w u parts i (at_block other (slash_can 42 t (begun_first 47 42 t h).0 (begun_first 47 42 t h).1 other w u parts i)))
  where
    go : (other : Item) (w u : Bytes) → t ≡ w ++ u → IsItem PlainSpells other w u → (other ≡ item.BlockComment) ⊎ (other ≡ item.Sign) → (other ≡ item.BlockComment) ⊎ (length w < n)
    go other w u parts i (inl e) = inl e
    go other w u parts i (inr e) = absurd (sign_not_allowed t w u 42 h (inl refl) parts (subst (λ k. IsItem PlainSpells k w u) e i))

pub nested_found : (t : Bytes) (n : ℕ) → begins 47 43 t ≡ true → Longest IsNested t n → Best PlainSpells t (item.NestedComment, n)
nested_found t n h l = best PlainSpells t item.NestedComment n l refl (λ other w u parts i. go other w u parts i (at_nested other (slash_can 43 t (begun_first 47 43 t h).0 (begun_first 47 43 t h).1 other w u parts i)))
  where
    go : (other : Item) (w u : Bytes) → t ≡ w ++ u → IsItem PlainSpells other w u → (other ≡ item.NestedComment) ⊎ (other ≡ item.Sign) → (other ≡ item.NestedComment) ⊎ (length w < n)
    go other w u parts i (inl e) = inl e
    go other w u parts i (inr e) = absurd (sign_not_allowed t w u 43 h (inr refl) parts (subst (λ k. IsItem PlainSpells k w u) e i))

pub slash_sign_found : (t : Bytes) (n : ℕ) → get_or t 0 0 ≡ 47 → get_or t 1 0 ≢ 47 → get_or t 1 0 ≢ 42 → get_or t 1 0 ≢ 43 → n ≡ sign_len t → Best PlainSpells t (item.Sign, n)
slash_sign_found t n first not_line not_block not_nested eq =
    let a : (get_or t 1 0 == 47) ≡ false = grind (arith, nat_tests) in
    let b : (get_or t 1 0 == 42) ≡ false = grind (arith, nat_tests) in
    let c : (get_or t 1 0 == 43) ≡ false = grind (arith, nat_tests) in
    rw eq (best PlainSpells t item.Sign (sign_len t) (sign_longest t) (rw (no_second 42 t b, no_second 43 t c) refl) (λ other w u parts i. inl (at_sign (get_or t 1 0) a b c other (slash_can (get_or t 1 0) t first refl other w u parts i))))
