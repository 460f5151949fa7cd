-- Two items at the front of one text, of which one ends by a mark of its own, are of one kind.
use Rattle.std.proofs.Common.{◌≡◌, Bool, true, false, ◌⊎◌, inl, inr, ⊎_elim, ◌++◌, drop, get_or, refl, sym, subst, ◌∙◌}
use Rattle.dc_token.specs.Balance.{Bytes}
use Rattle.dc_token.specs.Bytes.{begins}
use Rattle.dc_token.specs.Items.{PlainSpells, Spells, IsItem}
use Rattle.dc_token.specs.declared.item.Item.{Item}
use Rattle.dc_token.specs.declared.item.Item.TheVariants as item
use Rattle.dc_lexer.specs.Leads.{lead, can_begin}
use Rattle.dc_lexer.specs.declared.lead.Lead.{Lead}
use Rattle.dc_lexer.specs.declared.lead.Lead.TheVariants as lead_is
use Rattle.dc_lexer.proofs.SignTable.{equal}
use Rattle.dc_lexer.proofs.Comments.{begun}
use Rattle.dc_lexer.proofs.Finding.{first_can, opens_is, only_blank, only_raw, only_delimited, only_hex_string, only_quote, only_backquote, only_apostrophe, second, second_can, at_line, at_block, at_nested, sign_not_allowed}
use Rattle.dc_lexer.proofs.TokenStrings.{plain_is, not_string, only_string, string_can}

-- the kinds that end by a mark of their own
abbrev pub is_closed : Item → Bool
is_closed item.Blank = true
is_closed item.LineComment = true
is_closed item.BlockComment = true
is_closed item.NestedComment = true
is_closed item.Character = true
is_closed item.Quoted = true
is_closed item.Backquoted = true
is_closed item.Raw = true
is_closed item.TokenString = true
is_closed item.Delimited = true
is_closed item.HexString = true
is_closed other = false

-- one kind, or a sign where a comment up to the end of the line begins
abbrev pub Agrees : Item → Item → Type 0
Agrees k j = (k ≡ j) ⊎ ((k ≡ item.Sign) × (j ≡ item.LineComment))

of_blank : (c : Lead) → can_begin c item.Blank ≡ true → c ≡ lead_is.Blank
of_blank lead_is.Blank h = refl
of_blank _ h = absurd (let k : false ≡ true = h in cc)

of_slash : (c : Lead) (j : Item) → (j ≡ item.LineComment) ⊎ ((j ≡ item.BlockComment) ⊎ (j ≡ item.NestedComment)) → can_begin c j ≡ true → c ≡ lead_is.Slash
of_slash lead_is.Slash j e h = refl
of_slash c j (inl e) h = absurd (let g : can_begin c item.LineComment ≡ true = subst (λ j. can_begin c j ≡ true) e h in let k : false ≡ true = g in cc)
of_slash c j (inr (inl e)) h = absurd (let g : can_begin c item.BlockComment ≡ true = subst (λ j. can_begin c j ≡ true) e h in let k : false ≡ true = g in cc)
of_slash c j (inr (inr e)) h = absurd (let g : can_begin c item.NestedComment ≡ true = subst (λ j. can_begin c j ≡ true) e h in let k : false ≡ true = g in cc)

of_apostrophe : (c : Lead) → can_begin c item.Character ≡ true → c ≡ lead_is.Apostrophe
of_apostrophe lead_is.Apostrophe h = refl
of_apostrophe _ h = absurd (let k : false ≡ true = h in cc)

of_quote : (c : Lead) → can_begin c item.Quoted ≡ true → c ≡ lead_is.Quote
of_quote lead_is.Quote h = refl
of_quote _ h = absurd (let k : false ≡ true = h in cc)

of_backquote : (c : Lead) → can_begin c item.Backquoted ≡ true → c ≡ lead_is.Backquote
of_backquote lead_is.Backquote h = refl
of_backquote _ h = absurd (let k : false ≡ true = h in cc)

of_letter : (c : Lead) (j : Item) → (j ≡ item.Raw) ⊎ ((j ≡ item.Delimited) ⊎ (j ≡ item.HexString)) → can_begin c j ≡ true → c ≡ lead_is.Letter
of_letter lead_is.Letter j e h = refl
of_letter c j (inl e) h = absurd (let g : can_begin c item.Raw ≡ true = subst (λ j. can_begin c j ≡ true) e h in let k : false ≡ true = g in cc)
of_letter c j (inr (inl e)) h = absurd (let g : can_begin c item.Delimited ≡ true = subst (λ j. can_begin c j ≡ true) e h in let k : false ≡ true = g in cc)
of_letter c j (inr (inr e)) h = absurd (let g : can_begin c item.HexString ≡ true = subst (λ j. can_begin c j ≡ true) e h in let k : false ≡ true = g in cc)

module _ (t : Bytes) (k : Item) (w r : Bytes) (parts : t ≡ w ++ r) where
  module _ (a : IsItem PlainSpells k w r) where
    abbrev l : Lead
    l = lead (get_or t 0 0)

    can : (c : Lead) → l ≡ c → can_begin c k ≡ true
    can c e = first_can t c e k w r parts a

    slash : (j : Item) (v y : Bytes) → t ≡ v ++ y → IsItem PlainSpells j v y → l ≡ lead_is.Slash → (second_can (get_or t 1 0) k ≡ true) × (second_can (get_or t 1 0) j ≡ true)
    slash j v y q b e = (second k t w r parts a (can lead_is.Slash e), second j t v y q b (first_can t lead_is.Slash e j v y q b))

    pub plain : (j : Item) (v y : Bytes) → t ≡ v ++ y → IsItem PlainSpells j v y → is_closed j ≡ true → Agrees k j
    plain item.Blank v y q b h = inl (only_blank k w r a (can lead_is.Blank (of_blank l (first_can t l refl item.Blank v y q b))))
    plain item.Character v y q b h = inl (only_apostrophe k w r a (can lead_is.Apostrophe (of_apostrophe l (first_can t l refl item.Character v y q b))))
    plain item.Quoted v y q b h = inl (only_quote k w r a (can lead_is.Quote (of_quote l (first_can t l refl item.Quoted v y q b))))
    plain item.Backquoted v y q b h = inl (only_backquote k w r a (can lead_is.Backquote (of_backquote l (first_can t l refl item.Backquoted v y q b))))
    plain item.Raw v y q b h =
        let e = of_letter l item.Raw (inl refl) (first_can t l refl item.Raw v y q b) in
        inl (only_raw t (drop 2 t) (begun 114 34 t (opens_is item.Raw t v y q b refl)) k (opens_is k t w r parts a (can lead_is.Letter e)))
    plain item.Delimited v y q b h =
        let e = of_letter l item.Delimited (inr (inl refl)) (first_can t l refl item.Delimited v y q b) in
        inl (only_delimited t (drop 2 t) (begun 113 34 t (opens_is item.Delimited t v y q b refl)) k (opens_is k t w r parts a (can lead_is.Letter e)))
    plain item.HexString v y q b h =
        let e = of_letter l item.HexString (inr (inr refl)) (first_can t l refl item.HexString v y q b) in
        inl (only_hex_string t (drop 2 t) (begun 120 34 t (opens_is item.HexString t v y q b refl)) k (opens_is k t w r parts a (can lead_is.Letter e)))
    plain item.LineComment v y q b h =
        let p = slash item.LineComment v y q b (of_slash l item.LineComment (inl refl) (first_can t l refl item.LineComment v y q b)) in
        ⊎_elim (λ e. inl e) (λ e. inr (e, refl)) (at_line k (subst (λ n. second_can n k ≡ true) (equal (get_or t 1 0) 47 p.1) p.0))
    plain item.BlockComment v y q b h =
        let p = slash item.BlockComment v y q b (of_slash l item.BlockComment (inr (inl refl)) (first_can t l refl item.BlockComment v y q b)) in
        let s = b.spells in
        ⊎_elim (λ e. inl e) (λ e. absurd (sign_not_allowed t w r 42 (rw (q, s.parts) refl) (inl refl) parts (subst (λ k. IsItem PlainSpells k w r) e a))) (at_block k (subst (λ n. second_can n k ≡ true) (equal (get_or t 1 0) 42 p.1) p.0))
    plain item.NestedComment v y q b h =
        let p = slash item.NestedComment v y q b (of_slash l item.NestedComment (inr (inr refl)) (first_can t l refl item.NestedComment v y q b)) in
        let s = b.spells in
        ⊎_elim (λ e. inl e) (λ e. absurd (sign_not_allowed t w r 43 (rw (q, s.parts) refl) (inr refl) parts (subst (λ k. IsItem PlainSpells k w r) e a))) (at_nested k (subst (λ n. second_can n k ≡ true) (equal (get_or t 1 0) 43 p.1) p.0))
    plain item.TokenString v y q b h = absurd b.spells
    plain other v y q b h = absurd (let g : false ≡ true = h in cc)

  by_string : (x : Bool) → begins 113 123 t ≡ x → IsItem Spells k w r → (j : Item) (v y : Bytes) → t ≡ v ++ y → IsItem Spells j v y → is_closed j ≡ true → Agrees k j
  by_string true h a j v y q b c = inl (only_string t h k w r parts a (string_can t h k w r parts a) ∙ sym (only_string t h j v y q b (string_can t h j v y q b)))
  by_string false h a j v y q b c = plain (plain_is k w r (not_string t h k w r parts a) a) j v y q (plain_is j v y (not_string t h j v y q b) b) c

  pub agrees : IsItem Spells k w r → (j : Item) (v y : Bytes) → t ≡ v ++ y → IsItem Spells j v y → is_closed j ≡ true → Agrees k j
  agrees = by_string (begins 113 123 t) refl
