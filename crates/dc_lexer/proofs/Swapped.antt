-- An enclosed item stays one whatever follows it, and is the only one at its place.
use Rattle.std.proofs.Common.{◌≡◌, ℕ, ◌≤◌, [], ◌∷◌, ◌++◌, length, refl, sym, ap, subst, ◌∙◌, append_assoc, arith, length-append}
use Rattle.dc_token.specs.Balance.{Bytes, Balanced, Stands, Never, ByteApart, Enclosed}
use Rattle.dc_token.specs.Comments.{slash_star, star_slash, slash_plus, plus_slash, IsBlock, IsNested}
use Rattle.dc_lexer.proofs.Closing.{Ahead, one_end}
use Rattle.dc_lexer.proofs.Enclosing.{to_scan}
use Rattle.dc_lexer.proofs.Solid.{heads_are, tails_are}
use Rattle.dc_lexer.proofs.Gaps.{same_fronts}

pub same_rest_length : (w v a b : Bytes) → w ++ a ≡ v ++ b → a ≡ b → length v ≤ length w
same_rest_length w v a b e f =
    let l : length (w ++ a) ≡ length (v ++ b) = ap (λ (y : Bytes). length y) e in
    let m = length-append w a in let n = length-append v b in
    let o : length a ≡ length b = ap (λ (y : Bytes). length y) f in omega arith

module _ (closer : Bytes) (Opens Other : Bytes → Bytes → Type 0) (a b : Bytes) where
  -- the same step where b stands in the place of a
  pub record Moved (R : Bytes → Bytes → Type 0) (t y : Bytes) : Type 0 where
    pub left : Bytes
    pub parts : t ≡ left ++ (closer ++ a)
    pub is : R (left ++ (closer ++ b)) (y ++ (closer ++ b))

  module _ (opens_moved : (t s y : Bytes) → Opens t s → s ≡ y ++ (closer ++ a) → Moved Opens t y) (other_moved : (t s y : Bytes) → Other t s → s ≡ y ++ (closer ++ a) → Moved Other t y) where
    swap : (t v y : Bytes) → Balanced Opens (Stands closer) Other t v → v ≡ y ++ (closer ++ a) → Moved (Balanced Opens (Stands closer) Other) t y
    swap t v y Balanced.nothing e = record { left = y; parts = e; is = Balanced.nothing }
    swap t v y (Balanced.other {u = s} o rest) e =
        let r = swap s v y rest e in
        let m = other_moved t s r.left o r.parts in
        record { left = m.left; parts = m.parts; is = Balanced.other m.is r.is }
    swap t v y (Balanced.nested {u = s} {v = p} {w = q} o inner c rest) e =
        let r = swap q v y rest e in
        let i = swap s p (closer ++ r.left) inner (c ∙ ap (λ (k : Bytes). closer ++ k) r.parts ∙ sym (append_assoc closer r.left (closer ++ a))) in
        let m = opens_moved t s i.left o i.parts in
        record { left = m.left; parts = m.parts; is = Balanced.nested m.is i.is (append_assoc closer r.left (closer ++ b)) r.is }

    pub swapped : (opener w : Bytes) → Enclosed opener closer Opens Other w a → Enclosed opener closer Opens Other w b
    swapped opener w p =
        let m = swap (p.inside ++ (closer ++ a)) (closer ++ a) [] p.balances refl in
        let size = same_rest_length p.inside m.left (closer ++ a) (closer ++ a) m.parts refl in
        let back = same_rest_length m.left p.inside (closer ++ a) (closer ++ a) (sym m.parts) refl in
        let is = same_fronts p.inside m.left (closer ++ a) (closer ++ a) m.parts (omega arith) in
        record { inside = p.inside; parts = p.parts; balances = subst (λ (k : Bytes). Balanced Opens (Stands closer) Other (k ++ (closer ++ b)) (closer ++ b)) (sym is.0) m.is }

-- ---- comments

-- two bytes that stand in front of a closing pair stand there whatever follows it
pair_back : (byte : ℕ) (y : Bytes) (c d p q : ℕ) (a b v : Bytes) → byte ∷ (y ++ (c ∷ d ∷ b)) ≡ p ∷ q ∷ v → (x : Bytes) × (byte ∷ (y ++ (c ∷ d ∷ a)) ≡ p ∷ q ∷ x)
pair_back byte [] c d p q a b v e = (d ∷ a, let i = heads_are byte p (c ∷ d ∷ b) (q ∷ v) e in let j = heads_are c q (d ∷ b) v (tails_are byte p (c ∷ d ∷ b) (q ∷ v) e) in cc)
pair_back byte (h ∷ y) c d p q a b v e = (y ++ (c ∷ d ∷ a), let i = heads_are byte p (h ∷ (y ++ (c ∷ d ∷ b))) (q ∷ v) e in let j = heads_are h q (y ++ (c ∷ d ∷ b)) v (tails_are byte p (h ∷ (y ++ (c ∷ d ∷ b))) (q ∷ v) e) in cc)

never_moved : (closer a b t s y : Bytes) → Never t s → s ≡ y ++ (closer ++ a) → Moved closer Never Never a b Never t y
never_moved closer a b t s y n e = absurd n

block_moved : (a b t s y : Bytes) → ByteApart Never (Stands star_slash) t s → s ≡ y ++ (star_slash ++ a) → Moved star_slash Never (ByteApart Never (Stands star_slash)) a b (ByteApart Never (Stands star_slash)) t y
block_moved a b t s y m e = record {
  left = m.byte ∷ y;
  parts = m.parts ∙ ap (λ (k : Bytes). m.byte ∷ k) e;
  is = record {
    byte = m.byte;
    parts = refl;
    opens_none = λ v n. n;
    closes_none = λ v n. (let x = pair_back m.byte y 42 47 42 47 a b v n in m.closes_none x.0 (m.parts ∙ ap (λ (k : Bytes). m.byte ∷ k) e ∙ x.1));
  };
}

nested_moved : (a b t s y : Bytes) → ByteApart (Stands slash_plus) (Stands plus_slash) t s → s ≡ y ++ (plus_slash ++ a)
    → Moved plus_slash (Stands slash_plus) (ByteApart (Stands slash_plus) (Stands plus_slash)) a b (ByteApart (Stands slash_plus) (Stands plus_slash)) t y
nested_moved a b t s y m e = record {
  left = m.byte ∷ y;
  parts = m.parts ∙ ap (λ (k : Bytes). m.byte ∷ k) e;
  is = record {
    byte = m.byte;
    parts = refl;
    opens_none = λ v n. (let x = pair_back m.byte y 43 47 47 43 a b v n in m.opens_none x.0 (m.parts ∙ ap (λ (k : Bytes). m.byte ∷ k) e ∙ x.1));
    closes_none = λ v n. (let x = pair_back m.byte y 43 47 43 47 a b v n in m.closes_none x.0 (m.parts ∙ ap (λ (k : Bytes). m.byte ∷ k) e ∙ x.1));
  };
}

pair_moved : (a b t s y : Bytes) → Stands slash_plus t s → s ≡ y ++ (plus_slash ++ a) → Moved plus_slash (Stands slash_plus) (ByteApart (Stands slash_plus) (Stands plus_slash)) a b (Stands slash_plus) t y
pair_moved a b t s y o e = record { left = 47 ∷ 43 ∷ y; parts = o ∙ ap (λ (k : Bytes). 47 ∷ 43 ∷ k) e; is = refl }

pub block_swapped : (w a b : Bytes) → IsBlock w a → IsBlock w b
block_swapped w a b p = swapped star_slash Never (ByteApart Never (Stands star_slash)) a b (λ t s y n e. absurd n) (block_moved a b) slash_star w p

pub nested_swapped : (w a b : Bytes) → IsNested w a → IsNested w b
nested_swapped w a b p = swapped plus_slash (Stands slash_plus) (ByteApart (Stands slash_plus) (Stands plus_slash)) a b (pair_moved a b) (nested_moved a b) slash_plus w p

byte_ahead : (Opens Closes : Bytes → Bytes → Type 0) (t u : Bytes) → ByteApart Opens Closes t u → Ahead t u
byte_ahead Opens Closes t u m = record { front = m.byte ∷ []; parts = m.parts }

one_byte : (Opens Closes : Bytes → Bytes → Type 0) (t u v : Bytes) → ByteApart Opens Closes t u → ByteApart Opens Closes t v → u ≡ v
one_byte Opens Closes t u v m n = tails_are m.byte n.byte u v (sym m.parts ∙ n.parts)

one_pair : (p q : ℕ) (t u v : Bytes) → Stands (p ∷ q ∷ []) t u → Stands (p ∷ q ∷ []) t v → u ≡ v
one_pair p q t u v m n = tails_are q q u v (tails_are p p (q ∷ u) (q ∷ v) (sym m ∙ n))

pub one_block : (t w u v x : Bytes) → t ≡ w ++ u → t ≡ v ++ x → IsBlock w u → IsBlock v x → u ≡ x
one_block t w u v x p q a b =
    let i : t ≡ slash_star ++ (a.inside ++ (star_slash ++ u)) = p ∙ ap (λ (y : Bytes). y ++ u) a.parts ∙ append_assoc slash_star (a.inside ++ star_slash) u ∙ ap (λ (y : Bytes). slash_star ++ y) (append_assoc a.inside star_slash u) in
    let other = ByteApart Never (Stands star_slash) in
    let r = to_scan slash_star star_slash Never other (λ t u n. absurd n) (byte_ahead Never (Stands star_slash)) (a.inside ++ (star_slash ++ u)) w u (sym i ∙ p) a in
    let s = to_scan slash_star star_slash Never other (λ t u n. absurd n) (byte_ahead Never (Stands star_slash)) (a.inside ++ (star_slash ++ u)) v x (sym i ∙ q) b in
    one_end Never (Stands star_slash) other (λ t u v n. absurd n) (one_pair 42 47) (one_byte Never (Stands star_slash)) (λ t u v n. absurd n) (λ t u v m n. n) (λ t u v m n. m.closes_none v n) 1 (a.inside ++ (star_slash ++ u)) u x r s

apart_pairs : (t u v : Bytes) → Stands slash_plus t u → Stands plus_slash t v → ⊥
apart_pairs t u v m n = let i = heads_are 47 43 (43 ∷ u) (47 ∷ v) (sym m ∙ n) in absurd (omega arith)

pub one_nested : (t w u v x : Bytes) → t ≡ w ++ u → t ≡ v ++ x → IsNested w u → IsNested v x → u ≡ x
one_nested t w u v x p q a b =
    let i : t ≡ slash_plus ++ (a.inside ++ (plus_slash ++ u)) = p ∙ ap (λ (y : Bytes). y ++ u) a.parts ∙ append_assoc slash_plus (a.inside ++ plus_slash) u ∙ ap (λ (y : Bytes). slash_plus ++ y) (append_assoc a.inside plus_slash u) in
    let open_ = Stands slash_plus in
    let other = ByteApart open_ (Stands plus_slash) in
    let ahead : (t u : Bytes) → Stands slash_plus t u → Ahead t u = λ t u m. record { front = slash_plus; parts = m } in
    let r = to_scan slash_plus plus_slash open_ other ahead (byte_ahead open_ (Stands plus_slash)) (a.inside ++ (plus_slash ++ u)) w u (sym i ∙ p) a in
    let s = to_scan slash_plus plus_slash open_ other ahead (byte_ahead open_ (Stands plus_slash)) (a.inside ++ (plus_slash ++ u)) v x (sym i ∙ q) b in
    one_end open_ (Stands plus_slash) other (one_pair 47 43) (one_pair 43 47) (one_byte open_ (Stands plus_slash)) apart_pairs (λ t u v m n. m.opens_none v n) (λ t u v m n. m.closes_none v n) 1 (a.inside ++ (plus_slash ++ u)) u x r s
