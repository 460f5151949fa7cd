-- An item stays the next one where white space is added behind it.
use Rattle.std.proofs.Common.{◌≡◌, ℕ, ◌<◌, Bool, true, false, [], ◌∷◌, ◌++◌, ◌⊎◌, inl, inr, length, ⊎_elim, refl, sym, ap, subst, ◌∙◌, append_assoc, arith, length-append}
use Rattle.std.proofs.lemmas.Bool.{cases_lt}
use Rattle.dc_token.specs.Balance.{Bytes}
use Rattle.dc_token.specs.Bytes.{begins, is_blank}
use Rattle.dc_token.specs.Escapes.{escape}
use Rattle.dc_token.specs.Strings.{Suffixed, IsBody, is_suffix_byte}
use Rattle.dc_token.specs.Items.{IsTokenString, Spells, IsItem, Next, allows}
use Rattle.dc_token.specs.declared.item.Item.{Item}
use Rattle.dc_token.specs.declared.item.Item.TheVariants as item
use Rattle.dc_lexer.proofs.Signs.{sign_longest}
use Rattle.dc_lexer.proofs.Finding.{line_sign}
use Rattle.dc_lexer.proofs.Agreeing.{is_closed, agrees}
use Rattle.dc_lexer.proofs.Solid.{heads_are, tails_are, is_lean}
use Rattle.dc_lexer.proofs.Gaps.{some_byte, Tail, no_longer}
use Rattle.dc_lexer.proofs.Inner.{string_one}
use Rattle.dc_lexer.proofs.Swapped.{same_rest_length, block_swapped, nested_swapped, one_block, one_nested}
use Rattle.dc_lexer.proofs.Quoting.{escape_stays, body_swapped}
use Rattle.dc_lexer.proofs.Kept.{goes_on, grown, run_more, line_more, quote_stays, quote_only, character_stays, character_only, string_stays, Suffixable, string_grows}

no_escapes : (quote : ℕ) (q a b : Bytes) → false ≡ true → escape (q ++ (quote ∷ a)) ≡ escape (q ++ (quote ∷ b))
no_escapes quote q a b e = absurd (cc)

quoted_escapes : (q a b : Bytes) → true ≡ true → escape (q ++ (34 ∷ a)) ≡ escape (q ++ (34 ∷ b))
quoted_escapes q a b e = escape_stays q a b 34 refl refl refl

-- nothing begins there that has one byte more
pub no_more : (k : Item) (w x u : Bytes) (h : ℕ) → Next Spells (w ++ ((h ∷ x) ++ u)) k w ((h ∷ x) ++ u) → (j : Item) → IsItem Spells j (w ++ (h ∷ [])) (x ++ u) → ⊥
no_more k w x u h n j i =
    let long = n.longest j (w ++ (h ∷ [])) (x ++ u) (sym (append_assoc w (h ∷ []) (x ++ u))) i in
    let l = length-append w (h ∷ []) in absurd (omega arith)

module _ (b : Bytes) where
  -- ---- it is spelled so

  some_old : (x u : Bytes) → 0 < length x → 0 < length (x ++ u)
  some_old x u h = let l = length-append x u in omega arith

  stays : (k : Item) (w x u : Bytes) → Tail k w x u b → (k ≡ item.TokenString → IsTokenString w (x ++ u) → IsTokenString w (x ++ b)) → (goes_on k w ≡ true → 0 < length x) → Spells k w (x ++ u) → Spells k w (x ++ b)
  stays item.Blank w x u f strings room s = s
  stays item.LineComment w x u f strings room s = s
  stays item.BlockComment w x u f strings room s = block_swapped w (x ++ u) (x ++ b) s
  stays item.NestedComment w x u f strings room s = nested_swapped w (x ++ u) (x ++ b) s
  stays item.Name w x u f strings room s = s
  stays item.Decimal w x u f strings room s = s
  stays item.Hexadecimal w x u f strings room s = s
  stays item.Binary w x u f strings room s = s
  stays item.Float w x u f strings room s = f.float_new s
  stays item.PointFloat w x u f strings room s = s
  stays item.HexFloat w x u f strings room s = s
  stays item.Sign w x u f strings room s = s
  stays item.Character w x u f strings room s = character_stays w (x ++ u) (x ++ b) s
  stays item.Quoted w x u f strings room s = string_stays (34 ∷ []) 34 true quoted_escapes w (x ++ u) (x ++ b) s
  stays item.Backquoted w x u f strings room s = string_stays (96 ∷ []) 96 false (no_escapes 96) w (x ++ u) (x ++ b) s
  stays item.Raw w x u f strings room s = string_stays (114 ∷ 34 ∷ []) 34 false (no_escapes 34) w (x ++ u) (x ++ b) s
  stays item.Delimited w x u f strings room s = quote_stays 113 w (x ++ u) (x ++ b) (λ o. some_old x u (room o)) s
  stays item.HexString w x u f strings room s = quote_stays 120 w (x ++ u) (x ++ b) (λ o. some_old x u (room o)) s
  stays item.TokenString w x u f strings room s = strings refl s

  -- ---- and no longer item of its kind begins there

  blank_only : (w x u v y : Bytes) → Next Spells (w ++ (x ++ u)) item.Blank w (x ++ u) → 0 < length x → w ++ (x ++ b) ≡ v ++ y → Spells item.Blank v y → length w < length v → ⊥
  blank_only w [] u v y n some e s longer = absurd (omega arith)
  blank_only w (h ∷ x) u v y n some e s longer =
      let g = grown v w ((h ∷ x) ++ b) y e longer in
      let is : g.byte ≡ h = sym (heads_are h g.byte (x ++ b) (g.left ++ y) g.rest) in
      let m = run_more is_blank w v g.left g.byte n.is.spells s g.front in
      no_more item.Blank w x u h n item.Blank (record { spells = subst (λ b. Spells item.Blank (w ++ (b ∷ [])) (x ++ u)) is m; allowed = refl })

  line_only : (w x u v y : Bytes) → Next Spells (w ++ (x ++ u)) item.LineComment w (x ++ u) → 0 < length x → w ++ (x ++ b) ≡ v ++ y → Spells item.LineComment v y → length w < length v → ⊥
  line_only w [] u v y n some e s longer = absurd (omega arith)
  line_only w (h ∷ x) u v y n some e s longer =
      let g = grown v w ((h ∷ x) ++ b) y e longer in
      let is : g.byte ≡ h = sym (heads_are h g.byte (x ++ b) (g.left ++ y) g.rest) in
      let m = line_more w v g.left g.byte n.is.spells s g.front in
      no_more item.LineComment w x u h n item.LineComment (record { spells = subst (λ b. Spells item.LineComment (w ++ (b ∷ [])) (x ++ u)) is m; allowed = refl })

  module _ (opener : Bytes) (quote : ℕ) (escapes : Bool) (same : (q a b : Bytes) → escapes ≡ true → escape (q ++ (quote ∷ a)) ≡ escape (q ++ (quote ∷ b))) where
    abbrev Body : Bytes → Bytes → Type 0
    Body = IsBody opener quote escapes

    -- a longer string would have had its suffix before
    string_only : (w x u v y : Bytes) → Suffixed Body w (x ++ u) → ((h : ℕ) (x2 : Bytes) → x ≡ h ∷ x2 → Suffixed Body (w ++ (h ∷ [])) (x2 ++ u) → ⊥) → (x ≡ [] → (h : ℕ) (y : Bytes) → b ≡ h ∷ y → is_suffix_byte h ≡ false) → w ++ (x ++ b) ≡ v ++ y → Suffixed Body v y → length w < length v → ⊥
    string_only w x u v y s none stops e t longer = go x refl (string_grows opener quote escapes same w (x ++ b) v y (string_stays opener quote escapes same w (x ++ u) (x ++ b) s) t e longer)
      where
        go : (xs : Bytes) → x ≡ xs → Suffixable Body w (x ++ b) → ⊥
        go [] i g =
            let r : b ≡ g.byte ∷ g.more = ap (λ (k : Bytes). k ++ b) (sym i) ∙ g.rest in
            absurd (let h : false ≡ true = sym (stops i g.byte g.more r) ∙ g.ends in cc)
        go (h ∷ x2) i g =
            let r : h ∷ (x2 ++ b) ≡ g.byte ∷ g.more = ap (λ (k : Bytes). k ++ b) (sym i) ∙ g.rest in
            let is : h ≡ g.byte = heads_are h g.byte (x2 ++ b) g.more r in
            let ends : is_suffix_byte h ≡ true = subst (λ b. is_suffix_byte b ≡ true) (sym is) g.ends in
            none h x2 i (record { body = w; suffix = h ∷ []; parts = refl; is = body_swapped quote escapes same (x ++ b) (h ∷ (x2 ++ u)) opener w g.whole; ends = ends })

  none_more : (k : Item) (w x u : Bytes) → Next Spells (w ++ (x ++ u)) k w (x ++ u) → allows (w ++ (x ++ u)) k ≡ true → (h : ℕ) (x2 : Bytes) → x ≡ h ∷ x2 → (Spells k (w ++ (h ∷ [])) (x2 ++ u)) → (allows ((w ++ (h ∷ [])) ++ (x2 ++ u)) k ≡ true) → ⊥
  none_more k w x u n a h x2 e s b = no_more k w x2 u h (subst (λ (y : Bytes). Next Spells (w ++ (y ++ u)) k w (y ++ u)) e n) k (record { spells = s; allowed = b })

  same_kind : (k : Item) (w x u v y : Bytes) → Next Spells (w ++ (x ++ u)) k w (x ++ u) → Tail k w x u b → (k ≡ item.TokenString → IsTokenString w (x ++ u) → IsTokenString w (x ++ b)) → is_closed k ≡ true → (goes_on k w ≡ true → 0 < length x) → w ++ (x ++ b) ≡ v ++ y → Spells k v y → length w < length v → ⊥
  same_kind item.Blank w x u v y n f strings closed room e s longer = blank_only w x u v y n (room refl) e s longer
  same_kind item.LineComment w x u v y n f strings closed room e s longer = line_only w x u v y n (room refl) e s longer
  same_kind item.BlockComment w x u v y n f strings closed room e s longer =
      let r = one_block (w ++ (x ++ b)) w (x ++ b) v y refl e (block_swapped w (x ++ u) (x ++ b) n.is.spells) s in
      let short = same_rest_length w v (x ++ b) y e r in absurd (omega arith)
  same_kind item.NestedComment w x u v y n f strings closed room e s longer =
      let r = one_nested (w ++ (x ++ b)) w (x ++ b) v y refl e (nested_swapped w (x ++ u) (x ++ b) n.is.spells) s in
      let short = same_rest_length w v (x ++ b) y e r in absurd (omega arith)
  same_kind item.Character w x u v y n f strings closed room e s longer =
      let short = character_only w (x ++ b) v y (character_stays w (x ++ u) (x ++ b) n.is.spells) s e in absurd (omega arith)
  same_kind item.Quoted w x u v y n f strings closed room e s longer = string_only (34 ∷ []) 34 true quoted_escapes w x u v y n.is.spells (λ h x2 i t. none_more item.Quoted w x u n n.is.allowed h x2 i t refl) (λ i h y r. (f.stops i h y r).0) e s longer
  same_kind item.Backquoted w x u v y n f strings closed room e s longer = string_only (96 ∷ []) 96 false (no_escapes 96) w x u v y n.is.spells (λ h x2 i t. none_more item.Backquoted w x u n n.is.allowed h x2 i t refl) (λ i h y r. (f.stops i h y r).0) e s longer
  same_kind item.Raw w x u v y n f strings closed room e s longer = string_only (114 ∷ 34 ∷ []) 34 false (no_escapes 34) w x u v y n.is.spells (λ h x2 i t. none_more item.Raw w x u n n.is.allowed h x2 i t refl) (λ i h y r. (f.stops i h y r).0) e s longer
  same_kind item.Delimited w x u v y n f strings closed room e s longer =
      let short = quote_only 113 w (x ++ b) v y (λ o. f.some) (quote_stays 113 w (x ++ u) (x ++ b) (λ o. some_old x u (room o)) n.is.spells) s e in absurd (omega arith)
  same_kind item.HexString w x u v y n f strings closed room e s longer =
      let short = quote_only 120 w (x ++ b) v y (λ o. f.some) (quote_stays 120 w (x ++ u) (x ++ b) (λ o. some_old x u (room o)) n.is.spells) s e in absurd (omega arith)
  same_kind item.TokenString w x u v y n f strings closed room e s longer =
      let r = string_one (w ++ (x ++ b)) w (x ++ b) v y refl e (strings refl n.is.spells) s in
      let short = same_rest_length w v (x ++ b) y e r in absurd (omega arith)
  same_kind other w x u v y n f strings closed room e s longer = absurd (let g : false ≡ true = closed in cc)

  -- a sign in front of another `/` would have been a comment before
  sign_line : (w x u v y : Bytes) → Next Spells (w ++ (x ++ u)) item.Sign w (x ++ u) → Tail item.Sign w x u b → w ++ (x ++ b) ≡ v ++ y → Spells item.LineComment v y → ⊥
  sign_line [] x u v y n f e s = absurd (let l = some_byte item.Sign [] x u n in omega arith)
  sign_line (a ∷ d ∷ w) x u v y n f e s =
      let two : begins 47 47 (v ++ y) ≡ true = rw s.parts refl in
      let one = line_sign ((a ∷ d ∷ w) ++ (x ++ b)) (subst (λ (t : Bytes). begins 47 47 t ≡ true) (sym e) two) in
      let l = (sign_longest ((a ∷ d ∷ w) ++ (x ++ b))).longest (a ∷ d ∷ w) (x ++ b) refl n.is.spells in absurd (omega arith)
  sign_line (a ∷ []) [] u v y n f e s =
      let g : a ∷ b ≡ 47 ∷ 47 ∷ (s.tail ++ y) = e ∙ ap (λ (k : Bytes). k ++ y) s.parts in
      (f.stops refl 47 (s.tail ++ y) (tails_are a 47 b (47 ∷ (s.tail ++ y)) g)).1 refl
  sign_line (a ∷ []) (h ∷ x) u v y n f e s =
      let g : a ∷ h ∷ (x ++ b) ≡ 47 ∷ 47 ∷ (s.tail ++ y) = e ∙ ap (λ (k : Bytes). k ++ y) s.parts in
      let first : a ≡ 47 = heads_are a 47 _ _ g in
      let second : h ≡ 47 = heads_are h 47 _ _ (tails_are a 47 (h ∷ (x ++ b)) (47 ∷ (s.tail ++ y)) g) in
      no_more item.Sign (a ∷ []) x u h n item.LineComment (record { spells = record { tail = []; parts = (let i = first in let j = second in cc); is = refl }; allowed = refl })

  lean_or_closed : (j : Item) → (is_lean j ≡ true) ⊎ (is_closed j ≡ true)
  lean_or_closed item.Name = inl refl
  lean_or_closed item.Decimal = inl refl
  lean_or_closed item.Hexadecimal = inl refl
  lean_or_closed item.Binary = inl refl
  lean_or_closed item.Float = inl refl
  lean_or_closed item.PointFloat = inl refl
  lean_or_closed item.HexFloat = inl refl
  lean_or_closed item.Sign = inl refl
  lean_or_closed other = inr refl

  module _ (k : Item) (w x u : Bytes) (n : Next Spells (w ++ (x ++ u)) k w (x ++ u)) (f : Tail k w x u b) (strings : k ≡ item.TokenString → IsTokenString w (x ++ u) → IsTokenString w (x ++ b)) (room : goes_on k w ≡ true → 0 < length x) where
    here : IsItem Spells k w (x ++ b)
    here = record { spells = stays k w x u f strings room n.is.spells; allowed = f.allowed n.is.allowed }

    longer : (j : Item) (v y : Bytes) → w ++ (x ++ b) ≡ v ++ y → IsItem Spells j v y → length w < length v → ⊥
    longer j v y e i more = ⊎_elim
        (λ lean. no_longer k w x u n b f j v y lean e i more)
        (λ closed. ⊎_elim
        (λ same. same_kind k w x u v y n f strings (subst (λ j. is_closed j ≡ true) (sym same) closed) room e (subst (λ j. Spells j v y) (sym same) i.spells) more)
        (λ p. sign_line w x u v y (subst (λ k. Next Spells (w ++ (x ++ u)) k w (x ++ u)) p.0 n) (subst (λ k. Tail k w x u b) p.0 f) e (subst (λ j. Spells j v y) p.1 i.spells))
        (agrees (w ++ (x ++ b)) k w (x ++ b) refl here j v y e i closed))
        (lean_or_closed j)

    pub next_stays : Next Spells (w ++ (x ++ b)) k w (x ++ b)
    next_stays = record {
      parts = refl;
      is = here;
      longest = λ j v y e i. ⊎_elim (λ more. absurd (longer j v y e i more)) (λ le. le) (cases_lt (length w) (length v));
      readable = n.readable;
    }
