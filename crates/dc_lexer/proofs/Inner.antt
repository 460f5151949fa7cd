-- What a token string holds, by the items of all kinds.
use Rattle.std.proofs.Common.{◌≡◌, ◌≤◌, Bool, true, false, ◌⊎◌, inl, inr, [], ◌∷◌, ◌++◌, length, drop, refl, sym, ap, subst, ◌∙◌, append_assoc, arith, length-append}
use Rattle.dc_token.specs.Balance.{Bytes, Balanced, Stands}
use Rattle.dc_token.specs.Bytes.{begins}
use Rattle.dc_token.specs.Items.{q_brace, OpensBrace, ShutsBrace, OtherItem, AnyItem, IsTokenString, IsStringOfItems, PlainSpells, Spells, IsItem, Next}
use Rattle.dc_lexer.proofs.Closing.{Ahead, ahead, one_end}
use Rattle.dc_lexer.proofs.Enclosing.{to_scan}
use Rattle.dc_lexer.proofs.Comments.{begun}
use Rattle.dc_lexer.proofs.Scanning.{next_rest}
use Rattle.dc_lexer.proofs.TokenStrings.{heads, opens_ahead, other_ahead, only_string, string_can, plain_is, full_is, not_string, is_string}
use Rattle.dc_token.specs.declared.item.Item.{Item}
use Rattle.dc_token.specs.declared.item.Item.TheVariants as item

one_open : (t u v : Bytes) → OpensBrace t u → OpensBrace t v → u ≡ v
one_open t u v (inl a) (inl b) = let e : 123 ∷ u ≡ 123 ∷ v = sym a ∙ b in cc
one_open t u v (inl a) (inr b) = absurd (let n = heads 123 113 u (123 ∷ v) (sym a ∙ b) in omega arith)
one_open t u v (inr a) (inl b) = absurd (let n = heads 113 123 (123 ∷ u) v (sym a ∙ b) in omega arith)
one_open t u v (inr a) (inr b) = let e : 113 ∷ 123 ∷ u ≡ 113 ∷ 123 ∷ v = sym a ∙ b in cc

one_shut : (t u v : Bytes) → ShutsBrace t u → ShutsBrace t v → u ≡ v
one_shut t u v a b = let e : 125 ∷ u ≡ 125 ∷ v = sym a ∙ b in cc

one_other : (t u v : Bytes) → OtherItem t u → OtherItem t v → u ≡ v
one_other t u v a b = next_rest PlainSpells t a.kind b.kind a.spelling b.spelling u v a.next b.next

open_shut : (t u v : Bytes) → OpensBrace t u → ShutsBrace t v → ⊥
open_shut t u v (inl a) b = absurd (let n = heads 123 125 u v (sym a ∙ b) in omega arith)
open_shut t u v (inr a) b = absurd (let n = heads 113 125 (123 ∷ u) v (sym a ∙ b) in omega arith)

-- a token string at a text has one end
pub string_one : (t w u v x : Bytes) → t ≡ w ++ u → t ≡ v ++ x → IsTokenString w u → IsTokenString v x → u ≡ x
string_one t w u v x p q a b =
    let e = begun 113 123 t (is_string t w u p a) in
    let r = to_scan q_brace (125 ∷ []) OpensBrace OtherItem opens_ahead other_ahead (drop 2 t) w u (sym e ∙ p) a in
    let s = to_scan q_brace (125 ∷ []) OpensBrace OtherItem opens_ahead other_ahead (drop 2 t) v x (sym e ∙ q) b in
    one_end OpensBrace ShutsBrace OtherItem one_open one_shut one_other open_shut (λ t u v m o. m.opens_none v o) (λ t u v m o. m.shuts_none v o) 1 (drop 2 t) u x r s

same_length : (w u v x : Bytes) → w ++ u ≡ v ++ x → u ≡ x → length v ≤ length w
same_length w u v x e f =
    let l : length (w ++ u) ≡ length (v ++ x) = ap (λ (y : Bytes). length y) e in
    let a = length-append w u in let b = length-append v x in
    let c : length u ≡ length x = ap (λ (y : Bytes). length y) f in omega arith

string_next : (t w u : Bytes) → t ≡ w ++ u → IsTokenString w u → Next Spells t item.TokenString w u
string_next t w u p s =
    let h = is_string t w u p s in
    record {
      parts = p;
      is = record { spells = s; allowed = refl };
      longest = λ other v x q i. go other v x q i (only_string t h other v x q i (string_can t h other v x q i));
      readable = refl;
    }
  where
    go : (other : Item) (v x : Bytes) → t ≡ v ++ x → IsItem Spells other v x → other ≡ item.TokenString → length v ≤ length w
    go other v x q i e = same_length w u v x (sym p ∙ q) (string_one t w u v x p q s (subst (λ k. Spells k v x) e i.spells))

pub begins_of : (x : Bool) (t : Bytes) → begins 113 123 t ≡ x → ((v : Bytes) → t ≡ 113 ∷ 123 ∷ v → ⊥) → begins 113 123 t ≡ false
begins_of true t h none = absurd (none (drop 2 t) (begun 113 123 t h))
begins_of false t h none = h

any_item : (t u : Bytes) → OtherItem t u → AnyItem t u
any_item t u m =
    let h = begins_of (begins 113 123 t) t refl (λ v e. m.opens_none v (inr e)) in
    let n = m.next in
    record {
      kind = m.kind;
      spelling = m.spelling;
      next = record { parts = n.parts; is = full_is m.kind m.spelling u n.is; longest = λ other v x q i. n.longest other v x q (plain_is other v x (not_string t h other v x q i) i); readable = n.readable };
      opens_none = λ v e. m.opens_none v (inl e);
      shuts_none = m.shuts_none;
    }

shut_ahead : (t u : Bytes) → ShutsBrace t u → Ahead t u
shut_ahead t u s = record { front = 125 ∷ []; parts = s }

a_string : (t x y z : Bytes) → t ≡ 113 ∷ 123 ∷ x → Balanced OpensBrace ShutsBrace OtherItem x y → ShutsBrace y z → AnyItem t z
a_string t x y z o inner c =
    let a = ahead OpensBrace ShutsBrace OtherItem opens_ahead shut_ahead other_ahead x y inner in
    let xs : x ≡ a.front ++ (125 ∷ z) = a.parts ∙ ap (λ (k : Bytes). a.front ++ k) c in
    let w : Bytes = 113 ∷ 123 ∷ (a.front ++ (125 ∷ [])) in
    let bal : Balanced OpensBrace ShutsBrace OtherItem (a.front ++ (125 ∷ z)) (125 ∷ z) = subst (λ (k : Bytes). Balanced OpensBrace ShutsBrace OtherItem k (125 ∷ z)) xs (subst (λ (k : Bytes). Balanced OpensBrace ShutsBrace OtherItem x k) c inner) in
    let p : t ≡ w ++ z = o ∙ ap (λ (k : Bytes). 113 ∷ 123 ∷ k) (xs ∙ sym (append_assoc a.front (125 ∷ []) z)) in
    record {
      kind = item.TokenString;
      spelling = w;
      next = string_next t w z p (record { inside = a.front; parts = refl; balances = bal });
      opens_none = λ v e. (let n = heads 113 123 (123 ∷ x) v (sym o ∙ e) in absurd (omega arith));
      shuts_none = λ v e. (let n = heads 113 125 (123 ∷ x) v (sym o ∙ e) in absurd (omega arith));
    }

into : (t u : Bytes) → Balanced OpensBrace ShutsBrace OtherItem t u → Balanced (Stands (123 ∷ [])) ShutsBrace AnyItem t u
into t u Balanced.nothing = Balanced.nothing
into t u (Balanced.other {u = x} m r) = Balanced.other (any_item t x m) (into x u r)
into t u (Balanced.nested {u = x} {v = y} {w = z} (inl o) inner c r) = Balanced.nested o (into x y inner) c (into z u r)
into t u (Balanced.nested {u = x} {v = y} {w = z} (inr o) inner c r) = Balanced.other (a_string t x y z o inner c) (into z u r)

pub into_items : (w rest : Bytes) → IsTokenString w rest → IsStringOfItems w rest
into_items w rest s = record { inside = s.inside; parts = s.parts; balances = into (s.inside ++ (125 ∷ rest)) (125 ∷ rest) s.balances }

-- ---- and back

plain_item : (t u : Bytes) (m : AnyItem t u) → (m.kind ≡ item.TokenString → ⊥) → OtherItem t u
plain_item t u m other_kind =
    let n = m.next in
    record {
      kind = m.kind;
      spelling = m.spelling;
      next = record { parts = n.parts; is = plain_is m.kind m.spelling u other_kind n.is; longest = λ other v x q i. n.longest other v x q (full_is other v x i); readable = n.readable };
      opens_none = opens_none;
      shuts_none = m.shuts_none;
    }
  where
    opens_none : (v : Bytes) → OpensBrace t v → ⊥
    opens_none v (inl e) = m.opens_none v e
    opens_none v (inr e) =
        let h : begins 113 123 t ≡ true = rw e refl in
        let n = m.next in other_kind (only_string t h m.kind m.spelling u n.parts n.is (string_can t h m.kind m.spelling u n.parts n.is))

is_it : (kind : Item) → (kind ≡ item.TokenString) ⊎ (kind ≡ item.TokenString → ⊥)
is_it item.TokenString = inl refl
is_it other = inr (λ e. absurd (cc))

back : (t u : Bytes) → Balanced (Stands (123 ∷ [])) ShutsBrace AnyItem t u → Balanced OpensBrace ShutsBrace OtherItem t u
back t u Balanced.nothing = Balanced.nothing
back t u (Balanced.nested {u = x} {v = y} {w = z} o inner c r) = Balanced.nested (inl o) (back x y inner) c (back z u r)
back t u (Balanced.other {u = x} m r) = go m (is_it m.kind) (back x u r)
  where
    go : (m : AnyItem t x) → (m.kind ≡ item.TokenString) ⊎ (m.kind ≡ item.TokenString → ⊥) → Balanced OpensBrace ShutsBrace OtherItem x u → Balanced OpensBrace ShutsBrace OtherItem t u
    go m (inr no_string) r = Balanced.other (plain_item t x m no_string) r
    go m (inl e) r =
        let s : IsTokenString m.spelling x = subst (λ k. Spells k m.spelling x) e m.next.is.spells in
        let o : t ≡ 113 ∷ 123 ∷ (s.inside ++ (125 ∷ x)) = m.next.parts ∙ ap (λ (k : Bytes). k ++ x) s.parts ∙ ap (λ (k : Bytes). 113 ∷ 123 ∷ k) (append_assoc s.inside (125 ∷ []) x) in
        Balanced.nested (inr o) s.balances refl r

pub from_items : (w rest : Bytes) → IsStringOfItems w rest → IsTokenString w rest
from_items w rest s = record { inside = s.inside; parts = s.parts; balances = back (s.inside ++ (125 ∷ rest)) (125 ∷ rest) s.balances }
