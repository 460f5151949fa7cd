-- The scan of a token string.
use Rattle.std.proofs.Common.{◌≡◌, ◌≢◌, ℕ, zero, suc, ◌+◌, ◌-◌, ◌<◌, ◌≤◌, true, false, inl, inr, [], ◌∷◌, ◌++◌, length, take, drop, get_or, refl, sym, ap, subst, ◌∙◌, arith, length-drop}
use Rattle.dc_token.specs.Balance.{Bytes}
use Rattle.dc_lexer.specs.Leads.{lead, can_begin}
use Rattle.dc_token.specs.Bytes.{begins}
use Rattle.dc_token.specs.Items.{q_brace, OpensBrace, ShutsBrace, OtherItem, IsTokenString, PlainSpells, Spells, IsItem, Next}
use Rattle.dc_lexer.specs.Fronts.{Longest, Found}
use Rattle.dc_lexer.proofs.Closing.{Same, Ahead, opens_on, shuts_on, other_on, none_on}
use Rattle.dc_lexer.proofs.Enclosing.{enclosed_longest, enclosed_nothing}
use Rattle.dc_lexer.proofs.Comments.{begun}
use Rattle.dc_token.proofs.Lists.{one_more, drop_more}
use Rattle.dc_lexer.proofs.Scanning.{next_rest}
use Rattle.dc_lexer.proofs.Finding.{best, readable_found, not_at_string, opens_is}
use Rattle.dc_lexer.proofs.Starts.{plain_starts, starts}
use Rattle.dc_token.specs.declared.item.Item.{Item}
use Rattle.dc_token.specs.declared.item.Item.TheVariants as item
use Rattle.dc_lexer.specs.declared.lead.Lead.TheVariants as lead_is

pub record BraceScan (z : Bytes) (at depth : ℕ) : Type 0 where
  pub from : 2 ≤ at
  pub within : at ≤ length z
  pub deep : depth ≤ at
  pub is_open : 1 ≤ depth
  pub same : Same OpensBrace ShutsBrace OtherItem depth (drop at z) 1 (drop 2 z)

pub heads : (a b : ℕ) (v w : Bytes) → a ∷ v ≡ b ∷ w → a ≡ b
heads a b v w h = cc

at_byte : (z : Bytes) (at b : ℕ) → at < length z → get_or z at 0 ≡ b → drop at z ≡ b ∷ drop (at + 1) z
at_byte z at b lt p = one_more z at lt ∙ ap (λ (x : ℕ). x ∷ drop (at + 1) z) p

pub brace_open : (z : Bytes) (at d : ℕ) → BraceScan z at d → at < length z → get_or z at 0 ≡ 123 → BraceScan z (at + 1) (d + 1)
brace_open z at d s lt p =
    let e = at_byte z at 123 lt p in
    let from = s.from in let deep = s.deep in
    record {
      from = omega arith;
      within = omega arith;
      deep = omega arith;
      is_open = omega arith;
      same = opens_on OpensBrace ShutsBrace OtherItem (drop at z) (drop (at + 1) z) (inl e) (only e) (λ u o. absurd (let n = heads 123 125 (drop (at + 1) z) u (sym e ∙ o) in omega arith)) (λ u m. m.opens_none (drop (at + 1) z) (inl e)) d (d + 1) 1 (drop 2 z) s.is_open refl s.same;
    }
  where
    only : drop at z ≡ 123 ∷ drop (at + 1) z → (u : Bytes) → OpensBrace (drop at z) u → u ≡ drop (at + 1) z
    only e u (inl o) = cc
    only e u (inr o) = absurd (let n = heads 123 113 (drop (at + 1) z) (123 ∷ u) (sym e ∙ o) in omega arith)

pub brace_string : (z : Bytes) (at d : ℕ) → BraceScan z at d → begins 113 123 (drop at z) ≡ true → BraceScan z (at + 2) (d + 1)
brace_string z at d s h =
    let e : drop at z ≡ 113 ∷ 123 ∷ drop (at + 2) z = begun 113 123 (drop at z) h ∙ ap (λ (x : Bytes). 113 ∷ 123 ∷ x) (drop_more 2 at z) in
    let from = s.from in let deep = s.deep in let within = s.within in
    let n : length z - at ≡ suc (suc (length (drop (at + 2) z))) = sym (length-drop at z) ∙ ap length e in
    record {
      from = omega arith;
      within = omega arith;
      deep = omega arith;
      is_open = omega arith;
      same = opens_on OpensBrace ShutsBrace OtherItem (drop at z) (drop (at + 2) z) (inr e) (only e) (λ u o. absurd (let n = heads 113 125 (123 ∷ drop (at + 2) z) u (sym e ∙ o) in omega arith)) (λ u m. m.opens_none (drop (at + 2) z) (inr e)) d (d + 1) 1 (drop 2 z) s.is_open refl s.same;
    }
  where
    only : drop at z ≡ 113 ∷ 123 ∷ drop (at + 2) z → (u : Bytes) → OpensBrace (drop at z) u → u ≡ drop (at + 2) z
    only e u (inl o) = absurd (let n = heads 113 123 (123 ∷ drop (at + 2) z) u (sym e ∙ o) in omega arith)
    only e u (inr o) = cc

shut : (z : Bytes) (at d d2 : ℕ) → BraceScan z at d → at < length z → get_or z at 0 ≡ 125 → d ≡ d2 + 1 → Same OpensBrace ShutsBrace OtherItem d2 (drop (at + 1) z) 1 (drop 2 z)
shut z at d d2 s lt p eq =
    let e = at_byte z at 125 lt p in
    shuts_on OpensBrace ShutsBrace OtherItem (drop at z) (drop (at + 1) z) e (λ u o. cc) (none e) (λ u m. m.shuts_none (drop (at + 1) z) e) d d2 1 (drop 2 z) eq s.same
  where
    none : drop at z ≡ 125 ∷ drop (at + 1) z → (u : Bytes) → OpensBrace (drop at z) u → ⊥
    none e u (inl o) = absurd (let n = heads 125 123 (drop (at + 1) z) u (sym e ∙ o) in omega arith)
    none e u (inr o) = absurd (let n = heads 125 113 (drop (at + 1) z) (123 ∷ u) (sym e ∙ o) in omega arith)

pub brace_shut : (z : Bytes) (at d d2 : ℕ) → BraceScan z at d → at < length z → get_or z at 0 ≡ 125 → d ≡ d2 + 1 → d2 ≢ 0 → BraceScan z (at + 1) d2
brace_shut z at d d2 s lt p eq more =
    let from = s.from in let deep = s.deep in
    record { from = omega arith; within = omega arith; deep = omega arith; is_open = omega arith; same = shut z at d d2 s lt p eq }

pub opens_ahead : (t u : Bytes) → OpensBrace t u → Ahead t u
opens_ahead t u (inl e) = record { front = 123 ∷ []; parts = e }
opens_ahead t u (inr e) = record { front = 113 ∷ 123 ∷ []; parts = e }

pub other_ahead : (t u : Bytes) → OtherItem t u → Ahead t u
other_ahead t u m = record { front = m.spelling; parts = m.next.parts }

pub brace_end : (z : Bytes) (at d d2 : ℕ) → begins 113 123 z ≡ true → BraceScan z at d → at < length z → get_or z at 0 ≡ 125 → d ≡ d2 + 1 → d2 ≡ 0 → Longest IsTokenString z (at + 1)
brace_end z at d d2 h s lt p eq none =
    enclosed_longest q_brace (125 ∷ []) OpensBrace OtherItem opens_ahead other_ahead z (drop 2 z) (at + 1) (begun 113 123 z h) (omega arith) (subst (λ x. Same OpensBrace ShutsBrace OtherItem x (drop (at + 1) z) 1 (drop 2 z)) none (shut z at d d2 s lt p eq))

begins_none : (t u : Bytes) → begins 113 123 t ≡ false → t ≡ 113 ∷ 123 ∷ u → ⊥
begins_none t u h e = let g : begins 113 123 (113 ∷ 123 ∷ u) ≡ false = subst (λ (x : Bytes). begins 113 123 x ≡ false) e h in absurd (cc)

pub head_none : (z : Bytes) (at b : ℕ) (u : Bytes) → get_or z at 0 ≢ b → drop at z ≡ b ∷ u → ⊥
head_none [] zero b u h e = absurd (cc)
head_none [] (suc at) b u h e = absurd (cc)
head_none (c ∷ z) zero b u h e = h (cc)
head_none (c ∷ z) (suc at) b u h e = head_none z at b u h e

no_opens : (z : Bytes) (at : ℕ) → get_or z at 0 ≢ 123 → begins 113 123 (drop at z) ≡ false → (v : Bytes) → OpensBrace (drop at z) v → ⊥
no_opens z at a b v (inl o) = head_none z at 123 v a o
no_opens z at a b v (inr o) = begins_none (drop at z) v b o

pub brace_item : (z : Bytes) (at d n : ℕ) (kind : Item) → BraceScan z at d → Found PlainSpells (drop at z) (kind, n) → 0 < n → get_or z at 0 ≢ 123 → get_or z at 0 ≢ 125 → begins 113 123 (drop at z) ≡ false → BraceScan z (at + n) d
brace_item z at d n kind s f some not_open not_shut not_string =
    let from = s.from in let deep = s.deep in let within = s.within in let far = f.within in let l = length-drop at z in
    let o = no_opens z at not_open not_string in
    let c : (v : Bytes) → ShutsBrace (drop at z) v → ⊥ = λ v o. head_none z at 125 v not_shut o in
    let next : Next PlainSpells (drop at z) kind (take n (drop at z)) (drop (at + n) z) = subst (λ (x : Bytes). Next PlainSpells (drop at z) kind (take n (drop at z)) x) (drop_more n at z) (f.next some) in
    record {
      from = omega arith;
      within = omega arith;
      deep = omega arith;
      is_open = s.is_open;
      same = other_on OpensBrace ShutsBrace OtherItem (drop at z) (drop (at + n) z)
          (record { kind = kind; spelling = take n (drop at z); next = next; opens_none = o; shuts_none = c })
          (λ u m. next_rest PlainSpells (drop at z) m.kind kind m.spelling (take n (drop at z)) u (drop (at + n) z) m.next next)
          o c d 1 (drop 2 z) s.is_open s.same;
    }

pub brace_stuck : (z : Bytes) (at d : ℕ) (kind : Item) → begins 113 123 z ≡ true → BraceScan z at d → Found PlainSpells (drop at z) (kind, 0) → get_or z at 0 ≢ 123 → get_or z at 0 ≢ 125 → begins 113 123 (drop at z) ≡ false → Longest IsTokenString z 0
brace_stuck z at d kind h s f not_open not_shut not_string =
    enclosed_nothing q_brace (125 ∷ []) OpensBrace OtherItem opens_ahead other_ahead z (drop 2 z) (begun 113 123 z h)
    (none_on OpensBrace ShutsBrace OtherItem (drop at z) (no_opens z at not_open not_string) (λ v o. head_none z at 125 v not_shut o) (λ u m. f.none refl m.kind m.spelling u m.next) d 1 (drop 2 z) s.is_open s.same)

pub brace_never : (z : Bytes) (at d : ℕ) → begins 113 123 z ≡ true → BraceScan z at d → length z ≤ at → Longest IsTokenString z 0
brace_never z at d h s past =
    let within = s.within in
    let size : length (drop at z) ≡ 0 = length-drop at z ∙ (omega arith) in
    enclosed_nothing q_brace (125 ∷ []) OpensBrace OtherItem opens_ahead other_ahead z (drop 2 z) (begun 113 123 z h)
    (none_on OpensBrace ShutsBrace OtherItem (drop at z) (no_o size) (λ u o. absurd (let n = ap length o in omega arith)) (no_m size) d 1 (drop 2 z) s.is_open s.same)
  where
    no_o : length (drop at z) ≡ 0 → (u : Bytes) → OpensBrace (drop at z) u → ⊥
    no_o e u (inl o) = absurd (let n = ap length o in omega arith)
    no_o e u (inr o) = absurd (let n = ap length o in omega arith)

    no_m : length (drop at z) ≡ 0 → (u : Bytes) → OtherItem (drop at z) u → ⊥
    no_m e u m =
        let b = plain_starts m.kind m.spelling u m.next.is.spells in
        let n : length (drop at z) ≡ length (m.spelling ++ u) = ap length m.next.parts in
        let k : length (m.spelling ++ u) ≡ suc (length (b.tail ++ u)) = ap (λ (x : Bytes). length (x ++ u)) b.parts in
        absurd (omega arith)

-- ---- from plain items to all items

pub is_string : (t w u : Bytes) → t ≡ w ++ u → IsTokenString w u → begins 113 123 t ≡ true
is_string t w u parts s = rw (parts, s.parts) refl

pub plain_is : (kind : Item) (w u : Bytes) → (kind ≡ item.TokenString → ⊥) → IsItem Spells kind w u → IsItem PlainSpells kind w u
plain_is item.TokenString w u no_t i = absurd (no_t refl)
plain_is other w u no_t i = record { spells = i.spells; allowed = i.allowed }

pub full_is : (kind : Item) (w u : Bytes) → IsItem PlainSpells kind w u → IsItem Spells kind w u
full_is item.TokenString w u i = absurd i.spells
full_is other w u i = record { spells = i.spells; allowed = i.allowed }

pub not_string : (t : Bytes) → begins 113 123 t ≡ false → (kind : Item) (w u : Bytes) → t ≡ w ++ u → IsItem Spells kind w u → kind ≡ item.TokenString → ⊥
not_string t h item.TokenString w u parts i e = let g = is_string t w u parts i.spells in absurd (cc)
not_string t h other w u parts i e = absurd (cc)

pub lift : (t : Bytes) (found : Item × ℕ) → begins 113 123 t ≡ false → Found PlainSpells t found → Found Spells t found
lift t found h f = record {
  within = f.within;
  next = λ some. (let n = f.next some in record {
    parts = n.parts;
    is = full_is found.0 (take found.1 t) (drop found.1 t) n.is;
    longest = λ other v u parts i. n.longest other v u parts (plain_is other v u (not_string t h other v u parts i) i);
    readable = n.readable;
  });
  sole = λ some kind w u n. f.sole some kind w u (record {
    parts = n.parts;
    is = plain_is kind w u (not_string t h kind w u n.parts n.is) n.is;
    longest = λ other v x parts i. n.longest other v x parts (full_is other v x i);
    readable = n.readable;
  });
  none = λ e kind w u n. f.none e kind w u (record {
    parts = n.parts;
    is = plain_is kind w u (not_string t h kind w u n.parts n.is) n.is;
    longest = λ other v x parts i. n.longest other v x parts (full_is other v x i);
    readable = n.readable;
  });
}

-- where `q{` stands, only a token string is allowed
pub only_string : (t : Bytes) → begins 113 123 t ≡ true → (kind : Item) (w u : Bytes) → t ≡ w ++ u → IsItem Spells kind w u → can_begin lead_is.Letter kind ≡ true → kind ≡ item.TokenString
only_string t h item.TokenString w u parts i c = refl
only_string t h other w u parts i c = absurd (not_at_string other t (drop 2 t) (begun 113 123 t h) (opens_is other t w u parts (record { spells = i.spells; allowed = i.allowed }) c))

pub string_can : (t : Bytes) → begins 113 123 t ≡ true → (kind : Item) (w u : Bytes) → t ≡ w ++ u → IsItem Spells kind w u → can_begin lead_is.Letter kind ≡ true
string_can t h kind w u parts i =
    let b = starts kind w u i.spells in
    let e : t ≡ b.head ∷ (b.tail ++ u) = parts ∙ ap (λ (x : Bytes). x ++ u) b.parts in
    let f : 113 ≡ b.head = heads 113 b.head (123 ∷ drop 2 t) (b.tail ++ u) (sym (begun 113 123 t h) ∙ e) in
    subst (λ (x : ℕ). can_begin (lead x) kind ≡ true) (sym f) b.can

pub string_found : (t : Bytes) (n : ℕ) → begins 113 123 t ≡ true → Longest IsTokenString t n → Found Spells t (item.TokenString, n)
string_found t n h l =
    readable_found Spells starts t item.TokenString n (best Spells t item.TokenString n l refl (λ other w u parts i. inl (only_string t h other w u parts i (string_can t h other w u parts i)))) (λ h. refl)
