-- A token string stays one whatever follows it.
use Rattle.std.proofs.Common.{not, ◌≡◌, ℕ, suc, ◌<◌, true, false, [], ◌∷◌, ◌++◌, inl, inr, length, refl, sym, ap, subst, ◌∙◌, append_assoc, arith, length-append}
use Rattle.std.proofs.lemmas.Str.{char_from_byte}
use Rattle.dc_token.specs.Balance.{Bytes}
use Rattle.dc_token.specs.Bytes.{begins, is_blank}
use Rattle.dc_token.specs.Vocabulary.{starts_name}
use Rattle.dc_token.specs.Numbers.{EndsPoint}
use Rattle.dc_token.specs.Items.{q_brace, OpensBrace, ShutsBrace, OtherItem, IsTokenString, PlainSpells, Spells, Next}
use Rattle.dc_token.specs.declared.item.Item.{Item}
use Rattle.dc_token.specs.declared.item.Item.TheVariants as item
use Rattle.dc_lexer.proofs.Starts.{plain_starts}
use Rattle.dc_lexer.proofs.TokenStrings.{plain_is, full_is, not_string}
use Rattle.dc_lexer.proofs.Inner.{begins_of}
use Rattle.dc_lexer.proofs.Solid.{heads_are, tails_are, is_inner, is_solid, solid, is_no_brace, no_brace, start_no_brace}
use Rattle.dc_lexer.proofs.Gaps.{IsApart, blank_ends, blank_apart}
use Rattle.dc_lexer.proofs.Stopped.{stop_tail}
use Rattle.dc_lexer.proofs.Swapped.{Moved, swapped}
use Rattle.dc_lexer.proofs.Stays.{next_stays}

brace_apart : (b : Bytes) → IsApart (125 ∷ b)
brace_apart b h v e = subst (λ n. is_inner n ≡ false) (heads_are 125 h b v e) refl

brace_ends : (b : Bytes) → EndsPoint (125 ∷ b)
brace_ends b = record {
  no_point = λ v e. (let i = heads_are 125 46 b v e in absurd (omega arith));
  no_name = λ d v sc st e.
      let is : d ≡ 125 = char_from_byte (125 ∷ b) v d e (omega arith) (omega arith) in
      let k : is_no_brace 125 ≡ true = start_no_brace 125 (subst (λ x. starts_name x ≡ true) is st) (omega arith) in absurd (let l : false ≡ true = k in cc);
}

-- an item in a token string stays the next one
inner_stays : (k : Item) (w y u b : Bytes) → Next PlainSpells (w ++ ((y ++ (125 ∷ [])) ++ u)) k w ((y ++ (125 ∷ [])) ++ u) → begins 113 123 (w ++ ((y ++ (125 ∷ [])) ++ u)) ≡ false → Next PlainSpells (w ++ ((y ++ (125 ∷ [])) ++ b)) k w ((y ++ (125 ∷ [])) ++ b)
inner_stays k w y u b n h = record {
  parts = refl;
  is = plain_is k w ((y ++ (125 ∷ [])) ++ b) no_string new.is;
  longest = λ j v r e i. new.longest j v r e (full_is j v r i);
  readable = new.readable;
}
  where
    no_string : k ≡ item.TokenString → ⊥
    no_string e = let s : PlainSpells item.TokenString w ((y ++ (125 ∷ [])) ++ u) = subst (λ k. PlainSpells k w ((y ++ (125 ∷ [])) ++ u)) e n.is.spells in s

    old : Next Spells (w ++ ((y ++ (125 ∷ [])) ++ u)) k w ((y ++ (125 ∷ [])) ++ u)
    old = record {
      parts = refl;
      is = full_is k w ((y ++ (125 ∷ [])) ++ u) n.is;
      longest = λ j v r e i. n.longest j v r e (plain_is j v r (not_string (w ++ ((y ++ (125 ∷ [])) ++ u)) h j v r e i) i);
      readable = n.readable;
    }

    new : Next Spells (w ++ ((y ++ (125 ∷ [])) ++ b)) k w ((y ++ (125 ∷ [])) ++ b)
    new = next_stays b k w (y ++ (125 ∷ [])) u old (stop_tail 125 brace_ends brace_apart is_no_brace refl no_brace k w y u b old) (λ e. absurd (no_string e)) (λ e. (let l = length-append y (125 ∷ []) in omega arith))

-- ---- the marks of a token string

opens_moved : (a b t s y : Bytes) → OpensBrace t s → s ≡ y ++ ((125 ∷ []) ++ a) → Moved (125 ∷ []) OpensBrace OtherItem a b OpensBrace t y
opens_moved a b t s y (inl o) e = record { left = 123 ∷ y; parts = o ∙ ap (λ (c : Bytes). 123 ∷ c) e; is = inl refl }
opens_moved a b t s y (inr o) e = record { left = 113 ∷ 123 ∷ y; parts = o ∙ ap (λ (c : Bytes). 113 ∷ 123 ∷ c) e; is = inr refl }

-- a mark that stands there stood there before
same_mark : (p a b : Bytes) → 0 < length p → ((v : Bytes) → OpensBrace (p ++ (125 ∷ a)) v → ⊥) → (v : Bytes) → OpensBrace (p ++ (125 ∷ b)) v → ⊥
same_mark [] a b some none v o = absurd (omega arith)
same_mark (h ∷ p) a b some none v (inl o) = none (p ++ (125 ∷ a)) (inl (ap (λ (n : ℕ). n ∷ (p ++ (125 ∷ a))) (heads_are h 123 (p ++ (125 ∷ b)) v o)))
same_mark (h ∷ []) a b some none v (inr o) = let i = heads_are 125 123 b v (tails_are h 113 (125 ∷ b) (123 ∷ v) o) in absurd (omega arith)
same_mark (h ∷ g ∷ p) a b some none v (inr o) =
    let i : h ≡ 113 = heads_are h 113 (g ∷ (p ++ (125 ∷ b))) (123 ∷ v) o in
    let j : g ≡ 123 = heads_are g 123 (p ++ (125 ∷ b)) v (tails_are h 113 (g ∷ (p ++ (125 ∷ b))) (123 ∷ v) o) in
    none (p ++ (125 ∷ a)) (inr (cc))

same_shut : (p a b : Bytes) → 0 < length p → ((v : Bytes) → ShutsBrace (p ++ (125 ∷ a)) v → ⊥) → (v : Bytes) → ShutsBrace (p ++ (125 ∷ b)) v → ⊥
same_shut [] a b some none v o = absurd (omega arith)
same_shut (h ∷ p) a b some none v o = none (p ++ (125 ∷ a)) (ap (λ (n : ℕ). n ∷ (p ++ (125 ∷ a))) (heads_are h 125 (p ++ (125 ∷ b)) v o))

other_moved : (a b t s y : Bytes) → OtherItem t s → s ≡ y ++ ((125 ∷ []) ++ a) → Moved (125 ∷ []) OpensBrace OtherItem a b OtherItem t y
other_moved a b t s y m e = record { left = w ++ y; parts = whole; is = record { kind = m.kind; spelling = w; next = next; opens_none = same_mark (w ++ y) a b some opens; shuts_none = same_shut (w ++ y) a b some shuts } }
  where
    w : Bytes
    w = m.spelling

    whole : t ≡ (w ++ y) ++ (125 ∷ a)
    whole = m.next.parts ∙ ap (λ (c : Bytes). w ++ c) e ∙ sym (append_assoc w y (125 ∷ a))

    some : 0 < length (w ++ y)
    some =
        let g = plain_starts m.kind w s m.next.is.spells in
        let k : length w ≡ suc (length g.tail) = ap (λ (c : Bytes). length c) g.parts in
        let l = length-append w y in omega arith

    opens : (v : Bytes) → OpensBrace ((w ++ y) ++ (125 ∷ a)) v → ⊥
    opens v o = m.opens_none v (subst (λ (c : Bytes). OpensBrace c v) (sym whole) o)

    shuts : (v : Bytes) → ShutsBrace ((w ++ y) ++ (125 ∷ a)) v → ⊥
    shuts v o = m.shuts_none v (whole ∙ o)

    apart : begins 113 123 t ≡ false
    apart = begins_of (begins 113 123 t) t refl (λ v e. m.opens_none v (inr e))

    old_rest : s ≡ (y ++ (125 ∷ [])) ++ a
    old_rest = e ∙ sym (append_assoc y (125 ∷ []) a)

    old_text : t ≡ w ++ ((y ++ (125 ∷ [])) ++ a)
    old_text = m.next.parts ∙ ap (λ (c : Bytes). w ++ c) old_rest

    old : Next PlainSpells (w ++ ((y ++ (125 ∷ [])) ++ a)) m.kind w ((y ++ (125 ∷ [])) ++ a)
    old = subst (λ (c : Bytes). Next PlainSpells c m.kind w ((y ++ (125 ∷ [])) ++ a)) old_text (subst (λ (c : Bytes). Next PlainSpells t m.kind w c) old_rest m.next)

    new : Next PlainSpells (w ++ ((y ++ (125 ∷ [])) ++ b)) m.kind w ((y ++ (125 ∷ [])) ++ b)
    new = inner_stays m.kind w y a b old (subst (λ (c : Bytes). begins 113 123 c ≡ false) old_text apart)

    next : Next PlainSpells ((w ++ y) ++ (125 ∷ b)) m.kind w (y ++ (125 ∷ b))
    next =
        subst (λ (c : Bytes). Next PlainSpells c m.kind w (y ++ (125 ∷ b))) (ap (λ (c : Bytes). w ++ c) (append_assoc y (125 ∷ []) b) ∙ sym (append_assoc w y (125 ∷ b)))
        (subst (λ (c : Bytes). Next PlainSpells (w ++ ((y ++ (125 ∷ [])) ++ b)) m.kind w c) (append_assoc y (125 ∷ []) b) new)

pub token_string_stays : (w a b : Bytes) → IsTokenString w a → IsTokenString w b
token_string_stays w a b p = swapped (125 ∷ []) OpensBrace OtherItem a b (opens_moved a b) (other_moved a b) q_brace w p

-- ---- white space that grows

-- an item stays the next one whatever follows white space behind it
pub grows : (k : Item) (w y u b : Bytes) (c : ℕ) → is_blank c ≡ true → Next Spells (w ++ ((y ++ (c ∷ [])) ++ u)) k w ((y ++ (c ∷ [])) ++ u) → Next Spells (w ++ ((y ++ (c ∷ [])) ++ b)) k w ((y ++ (c ∷ [])) ++ b)
grows k w y u b c blank n =
    next_stays b k w (y ++ (c ∷ [])) u n
    (stop_tail c (λ b. blank_ends c b blank) (λ b. blank_apart c b blank) is_solid (ap not blank) (λ j v r lean long s. solid j v r lean s) k w y u b n)
    (λ e. token_string_stays w ((y ++ (c ∷ [])) ++ u) ((y ++ (c ∷ [])) ++ b)) (λ e. (let l = length-append y (c ∷ []) in omega arith))
