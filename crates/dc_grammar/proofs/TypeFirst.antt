-- Where types and expressions begin alike, and what begins with a type.
use Rattle.std.proofs.Common.{◌≡◌, ℕ, ◌≤◌, Bool, true, false, ◌||◌, ◌⊎◌, List, [], ◌∷◌, ◌++◌, length, Option, Some, None, refl, sym, ap, ◌∙◌, append_assoc, arith, inl, inr, length-append}
use Rattle.dc_token.specs.declared.token.Token.{Token}
use Rattle.dc_ast.specs.declared.word.Storage.{Storage}
use Rattle.dc_ast.specs.declared.name.Name.{Name}
use Rattle.dc_ast.specs.declared.expression.Expr.{Expr}
use Rattle.dc_ast.specs.declared.expression.Symbol.{Symbol}
use Rattle.dc_ast.specs.declared.expression.Argument.{Argument}
use Rattle.dc_ast.specs.declared.expression.Argument.TheVariants as a
use Rattle.dc_ast.specs.declared.types.TypeTree.{TypeTree}
use Rattle.dc_ast.specs.declared.types.Base.{Base}
use Rattle.dc_ast.specs.declared.types.Bracket.{Bracket}
use Rattle.dc_grammar.specs.declared.terminal.Terminal.{Terminal}
use Rattle.dc_grammar.specs.declared.terminal.Terminal.TheVariants as k
use Rattle.dc_grammar.specs.Terminals.{Tokens, ahead, start_of, terminal_of, same_terminal, basic_type}
use Rattle.dc_grammar.specs.Words.{storage}
use Rattle.dc_grammar.specs.Trees.{type_tree}
use Rattle.dc_grammar.specs.Grammar as g
use Rattle.dc_grammar.specs.Grammar.{Mark, Named, Means, Id, IsExpr, IsType, IsArgument, IsBase, IsPlainBase, IsSymbol, AreBrackets}
use Rattle.dc_grammar.specs.Shapes as s
use Rattle.dc_grammar.specs.Shapes.{Optional, Several, After, Listed}
use Rattle.dc_grammar.specs.Reading.{Outcome, Reader, or_else, and_then, pure}
use Rattle.dc_grammar.specs.Readers.{expr_to, whole_expr, whole_type}
use Rattle.dc_grammar.specs.PartReaders as spec
use Rattle.dc_grammar.proofs.Good.{Good, Holds, Reaches, Begins, none, or, is, same_is, given_by}
use Rattle.dc_grammar.proofs.Choices.{Disjoint, apart, outside}
use Rattle.dc_grammar.proofs.Edges.{after_expr, after_type, begins_expr, begins_argument}
use Rattle.dc_grammar.proofs.Dotted.{dotted_expr}
use Rattle.dc_grammar.proofs.Arguments.{argument_good}
use Rattle.dc_grammar.proofs.Rules.{expr_good}
use Rattle.dc_grammar.proofs.Laws.{every_expr, every_type}
use Rattle.dc_grammar.proofs.Meanings.{named_expr, back_type}
use Rattle.dc_grammar.proofs.Shapes.{same_end}

-- ---- the first tokens of equal texts

pub first_token : (t u : Token) (ts us : Tokens) → t ∷ ts ≡ u ∷ us → t ≡ u
first_token t u ts us e = cc

pub first_rest : (t u : Token) (ts us : Tokens) → t ∷ ts ≡ u ∷ us → ts ≡ us
first_rest t u ts us e = cc

pub behind : (kind other : Terminal) (v w ts us : Tokens) → Mark kind v → Mark other w → v ++ ts ≡ w ++ us → ts ≡ us
behind kind other v w ts us m n e =
    let whole : m.token ∷ ts ≡ n.token ∷ us = ap (λ (x : Tokens). x ++ ts) (sym m.alone) ∙ e ∙ ap (λ (x : Tokens). x ++ us) n.alone in
    first_rest m.token n.token ts us whole

pub mark_head : (kind : Terminal) (v ts : Tokens) → Mark kind v → ahead (v ++ ts) ≡ kind
mark_head kind v ts m = rw (m.alone, m.is) refl

pub name_head : (n : Name) (v ts : Tokens) → Id v n → ahead (v ++ ts) ≡ k.Name
name_head n v ts m = rw (m.alone, m.is) refl

pub means_head : {A : Type 0} (f : Terminal → Option A) (x : A) (v ts : Tokens) → Means f v x → given_by f (ahead (v ++ ts)) ≡ true
means_head f x v ts m = rw (m.alone, m.means) refl

pub begins_head : (f : Terminal → Bool) (v ts : Tokens) → Begins f v → f (ahead (v ++ ts)) ≡ true
begins_head f v ts b = rw b.parts b.kind

-- no terminal is in both of two sets that are apart
pub clash : (p q : Terminal → Bool) → Disjoint p q → (x y : Terminal) → x ≡ y → p x ≡ true → q y ≡ true → ⊥
clash p q d x y e hp hq = let off : q x ≡ false = apart p q d x hp in (let on : q x ≡ true = rw e hq in absurd cc)

pub is_kind : (kind other : Terminal) → other ≡ kind → is kind other ≡ true
is_kind kind other e = same_is kind other e

pub mark_is : (kind : Terminal) (v ts : Tokens) → Mark kind v → is kind (ahead (v ++ ts)) ≡ true
mark_is kind v ts m = is_kind kind (ahead (v ++ ts)) (mark_head kind v ts m)

pub mark_is2 : (kind : Terminal) (v w ts : Tokens) → Mark kind v → is kind (ahead ((v ++ w) ++ ts)) ≡ true
mark_is2 kind v w ts m = is_kind kind (ahead ((v ++ w) ++ ts)) (rw (m.alone, m.is) refl)

pub mark_is3 : (kind : Terminal) (u v w ts : Tokens) → Mark kind u → is kind (ahead (((u ++ v) ++ w) ++ ts)) ≡ true
mark_is3 kind u v w ts m = is_kind kind (ahead (((u ++ v) ++ w) ++ ts)) (rw (m.alone, m.is) refl)

pub begins_head2 : (f : Terminal → Bool) (v w ts : Tokens) → Begins f v → f (ahead ((v ++ w) ++ ts)) ≡ true
begins_head2 f v w ts b = rw b.parts b.kind

left_true : (x y : Bool) → x ≡ true → (x || y) ≡ true
left_true x y e = rw e refl

right_true : (x y : Bool) → y ≡ true → (x || y) ≡ true
right_true true y e = refl
right_true false y e = e

-- what may be absent, and a mark behind it
pub optional_head : {A : Type 0} {n : ℕ} {e f : Terminal → Bool} {P : Tokens → A → Type 0} {p : Reader A} (good : Good n e f P p) (kind : Terminal) (w v ts : Tokens) (x : Option A) → Optional P w x → Mark kind v
    → or f (is kind) (ahead (w ++ (v ++ ts))) ≡ true
optional_head {A} {n} {e} {f} {P} {p} good kind w v ts x s.absent m = right_true _ _ (is_kind kind (ahead (v ++ ts)) (mark_head kind v ts m))
optional_head {A} {n} {e} {f} {P} {p} good kind w v ts x (s.present {x = y} h) m = left_true _ _ (begins_head f w (v ++ ts) (good.begins w y h))

pub nexts_head : {A : Type 0} {P : Tokens → A → Type 0} (kind : Terminal) (w v ts : Tokens) (xs : List A) → Several (After k.Comma P) w xs → Mark kind v → or (is k.Comma) (is kind) (ahead (w ++ (v ++ ts))) ≡ true
nexts_head {A} {P} kind w v ts xs s.finished m = right_true _ _ (is_kind kind (ahead (v ++ ts)) (mark_head kind v ts m))
nexts_head {A} {P} kind w v ts xs (s.several {w1 = w1} {w2 = w2} {x = x} h others) m = go w1 x h
  where
    go : (w1 : Tokens) (x : A) → After k.Comma P w1 x → or (is k.Comma) (is kind) (ahead ((w1 ++ w2) ++ (v ++ ts))) ≡ true
    go w1 x (s.after {w1 = u1} {w2 = u2} c h) = left_true _ _ (is_kind k.Comma (ahead (((u1 ++ u2) ++ w2) ++ (v ++ ts))) (rw (c.alone, c.is) refl))

-- ---- types without a name, and expressions

dot_first : (w r us : Tokens) (ts : List Bracket) (dot : Token) → AreBrackets w ts → w ++ r ≡ dot ∷ us → terminal_of dot ≡ k.Dot → r ≡ dot ∷ us
dot_first w r us ts dot g.no_brackets e is = e
dot_first w r us ts dot (g.open_bracket {w1 = w1} {w2 = w2} {w3 = w3} m h c) e is = let off : k.LeftBracket ≡ k.Dot = sym (rw (m.alone, m.is) refl) ∙ ap ahead e ∙ is in absurd cc
dot_first w r us ts dot (g.fixed_bracket {w1 = w1} {w2 = w2} {w3 = w3} {w4 = w4} m h c q) e is = let off : k.LeftBracket ≡ k.Dot = sym (rw (m.alone, m.is) refl) ∙ ap ahead e ∙ is in absurd cc

-- where such an expression ends: behind a dot
abbrev pub GoesOn : Tokens → Tokens → Type 0
GoesOn r t = (ahead r ≡ k.Dot) × (length t ≤ length r)

goes_on : (dot : Token) (more t r : Tokens) → terminal_of dot ≡ k.Dot → r ≡ dot ∷ (more ++ t) → GoesOn r t
goes_on dot more t r is e = (rw (e, is) refl, rw e (omega (arith, length-append more t)))

regroup4 : (v1 v2 v3 v4 w r : Tokens) → ((v1 ++ (v2 ++ (v3 ++ v4))) ++ w) ++ r ≡ v1 ++ (v2 ++ (v3 ++ (v4 ++ (w ++ r))))
regroup4 v1 v2 v3 v4 w r = simp append_assoc

regroup5 : (v1 v2 v3 v4 w r : Tokens) → (v1 ++ (v2 ++ (v3 ++ (v4 ++ w)))) ++ r ≡ v1 ++ (v2 ++ (v3 ++ (v4 ++ (w ++ r))))
regroup5 v1 v2 v3 v4 w r = simp append_assoc

pub plain_apart : (w1 w2 r u t : Tokens) (y : Base) (ts : List Bracket) (x : Expr) → IsPlainBase w1 y → AreBrackets w2 ts → IsExpr u x → (w1 ++ w2) ++ r ≡ u ++ t → GoesOn r t
unfolding same_terminal
plain_apart w1 w2 r u t y ts x (g.basic {y = z} m) c h e =
    let d = dotted_expr u x h in
    let text : m.token ∷ (w2 ++ r) ≡ d.head ∷ (d.tail ++ t) = (rw m.alone at e) ∙ ap (λ (us : Tokens). us ++ t) d.parts in
    let same = first_token m.token d.head (w2 ++ r) (d.tail ++ t) text in
    let more = first_rest m.token d.head (w2 ++ r) (d.tail ++ t) text in
    let given : given_by basic_type (terminal_of m.token) ≡ true = rw m.means refl in
    let q = d.basic (rw (← same) given) in
    goes_on q.dot q.after t r q.is (dot_first w2 r (q.after ++ t) ts q.dot c (more ∙ ap (λ (us : Tokens). us ++ t) q.parts) q.is)
plain_apart w1 w2 r u t y ts x (g.immutable_char {w1 = v1} {w2 = v2} {w3 = v3} {w4 = v4} m1 m2 m3 m4) c h e =
    let d = dotted_expr u x h in
    let text : m1.token ∷ (((v2 ++ (v3 ++ v4)) ++ w2) ++ r) ≡ d.head ∷ (d.tail ++ t) = (rw m1.alone at e) ∙ ap (λ (us : Tokens). us ++ t) d.parts in
    let same = first_token m1.token d.head (((v2 ++ (v3 ++ v4)) ++ w2) ++ r) (d.tail ++ t) text in
    absurd (clash (is k.Immutable) begins_expr refl (terminal_of m1.token) (terminal_of d.head) (ap terminal_of same) (is_kind k.Immutable (terminal_of m1.token) m1.is) d.kind)
plain_apart w1 w2 r u t y ts x (g.type_of {w1 = v1} {w2 = v2} {w3 = v3} {w4 = v4} {x = z} m1 m2 hx m4) c h e =
    let d = dotted_expr u x h in
    let group = regroup4 v1 v2 v3 v4 w2 r in
    let text : m1.token ∷ (v2 ++ (v3 ++ (v4 ++ (w2 ++ r)))) ≡ d.head ∷ (d.tail ++ t) = ap (λ (us : Tokens). us ++ (v2 ++ (v3 ++ (v4 ++ (w2 ++ r))))) (sym m1.alone) ∙ sym group ∙ e ∙ ap (λ (us : Tokens). us ++ t) d.parts in
    let same = first_token m1.token d.head (v2 ++ (v3 ++ (v4 ++ (w2 ++ r)))) (d.tail ++ t) text in
    let more = first_rest m1.token d.head (v2 ++ (v3 ++ (v4 ++ (w2 ++ r)))) (d.tail ++ t) text in
    let q = d.of (ap terminal_of (sym same) ∙ m1.is) in
    let group2 = regroup5 q.open_mark q.inside q.close_mark q.dot_mark q.after t in
    let text2 : v2 ++ (v3 ++ (v4 ++ (w2 ++ r))) ≡ q.open_mark ++ (q.inside ++ (q.close_mark ++ (q.dot_mark ++ (q.after ++ t)))) = more ∙ ap (λ (us : Tokens). us ++ t) q.parts ∙ group2 in
    let text3 = behind k.LeftParen k.LeftParen v2 q.open_mark (v3 ++ (v4 ++ (w2 ++ r))) (q.inside ++ (q.close_mark ++ (q.dot_mark ++ (q.after ++ t)))) m2 q.opens text2 in
    let ends = same_end every_expr v3 q.inside (v4 ++ (w2 ++ r)) (q.close_mark ++ (q.dot_mark ++ (q.after ++ t))) z q.tree hx q.holds text3 (rw (m4.alone, m4.is) refl) (rw (q.closes.alone, q.closes.is) refl) in
    let text4 = behind k.RightParen k.RightParen v4 q.close_mark (w2 ++ r) (q.dot_mark ++ (q.after ++ t)) m4 q.closes ends.1 in
    goes_on q.dots.token q.after t r q.dots.is (dot_first w2 r (q.after ++ t) ts q.dots.token c (text4 ∙ ap (λ (us : Tokens). us ++ (q.after ++ t)) q.dots.alone) q.dots.is)

-- a type and then a name don't begin an expression and then a semicolon
pub no_both : (w n r u v t : Tokens) (y : TypeTree) (m : Name) (x : Expr) → IsType w y → Id n m → IsExpr u x → Mark k.Semicolon v → w ++ (n ++ r) ≡ u ++ (v ++ t) → ⊥
unfolding same_terminal
no_both w n r u v t y m x (g.type {w1 = w1} {w2 = w2} {x = z} {ts = ts} h c) i hx semi e = go w1 z h e
  where
    go : (w1 : Tokens) (z : Base) → IsBase w1 z → (w1 ++ w2) ++ (n ++ r) ≡ u ++ (v ++ t) → ⊥
    go w1 z (g.plain p) e =
        let d = plain_apart w1 w2 (n ++ r) u (v ++ t) z ts x p c hx e in
        let off : k.Name ≡ k.Dot = sym (name_head m n r i) ∙ d.0 in absurd cc
    go w1 z (g.named {w1 = v1} {w2 = v2} {y = y1} {ys = ys} p q) e =
        let other = named_expr v1 v2 w2 y1 ys ts p q c in
        let ends = same_end every_expr ((v1 ++ v2) ++ w2) u (n ++ r) (v ++ t) other.0 x other.1 hx e (rw (i.alone, i.is) refl) (rw (semi.alone, semi.is) refl) in
        let off : k.Name ≡ k.Semicolon = sym (name_head m n r i) ∙ ap ahead ends.1 ∙ mark_head k.Semicolon v t semi in absurd cc

-- ---- arguments

argument_sound : (ts : Tokens) → Holds IsArgument ts (spec.whole_argument ts)
unfolding spec.whole_argument
argument_sound ts = go (whole_expr ts) refl (whole_type ts) ((every_expr 0).sound ts) ((every_type 0).sound ts)
  where
    typed : (r : Outcome Expr) → whole_expr ts ≡ r → r ≡ None → (o : Outcome TypeTree) → Holds IsType ts o → Holds IsArgument ts (and_then o (λ x. pure (a.OfType x)))
    typed r e none (Some o) h = record { front = h.front; parts = h.parts; is = back_type h.front o.0 h.is never }
      where
        never : (x : Expr) → IsExpr h.front x → ⊥
        never x is = let c : Reaches after_expr (whole_expr (h.front ++ o.1)) x o.1 = (every_expr (length h.front)).reach h.front x o.1 (omega arith) is in let off : Reaches after_expr None x o.1 = rw (← h.parts, e, none) at c in off
    typed r e none None h = tt

    go : (r : Outcome Expr) → whole_expr ts ≡ r → (o : Outcome TypeTree) → Holds IsExpr ts r → Holds IsType ts o → Holds IsArgument ts (or_else (and_then r (λ x. pure (a.Value x))) (and_then o (λ x. pure (a.OfType x))))
    go (Some r) e o h c = record { front = h.front; parts = h.parts; is = g.value h.is }
    go None e o h c = typed None e refl o c

argument_reach : (front : Tokens) (x : Argument) (rest : Tokens) → IsArgument front x → Reaches after_expr (spec.whole_argument (front ++ rest)) x rest
unfolding spec.whole_argument same_terminal
argument_reach front x rest (g.value {x = y} h) = go (whole_expr (front ++ rest)) ((every_expr (length front)).reach front y rest (omega arith) h)
  where
    go : (r : Outcome Expr) → Reaches after_expr r y rest → Reaches {A = Argument} after_expr (or_else (and_then r (λ z. pure (a.Value z))) (and_then (whole_type (front ++ rest)) (λ z. pure (a.OfType z)))) (a.Value y) rest
    go (Some r) c = (c.0, λ stop. let e = c.1 stop in (ap a.Value e.0, e.1))
    go None c = absurd c
argument_reach front x rest (g.of_type {w1 = w1} {w2 = w2} {x = y} {ts = ts} h c) =
    go (whole_expr ((w1 ++ w2) ++ rest)) ((every_expr 0).sound ((w1 ++ w2) ++ rest)) (whole_type ((w1 ++ w2) ++ rest)) ((every_type (length (w1 ++ w2))).reach (w1 ++ w2) (type_tree (start_of (w1 ++ w2)) y ts) rest (omega arith) (g.type (g.plain h) c))
  where
    typed : (o : Outcome TypeTree) → Reaches after_type o (type_tree (start_of (w1 ++ w2)) y ts) rest → Reaches {A = Argument} after_expr (and_then o (λ z. pure (a.OfType z))) (a.OfType (type_tree (start_of (w1 ++ w2)) y ts)) rest
    typed (Some o) d = (d.0, λ stop. let e = d.1 (outside after_type after_expr refl (ahead rest) stop) in (ap a.OfType e.0, e.1))
    typed None d = absurd d

    go : (r : Outcome Expr) → Holds IsExpr ((w1 ++ w2) ++ rest) r → (o : Outcome TypeTree) → Reaches after_type o (type_tree (start_of (w1 ++ w2)) y ts) rest
        → Reaches {A = Argument} after_expr (or_else (and_then r (λ z. pure (a.Value z))) (and_then o (λ z. pure (a.OfType z)))) (a.OfType (type_tree (start_of (w1 ++ w2)) y ts)) rest
    go (Some r) f o d =
        let q = plain_apart w1 w2 rest f.front r.1 y ts r.0 h c f.is f.parts in
        (q.1, λ stop. let on : after_expr (ahead rest) ≡ true = rw (q.0) refl in absurd cc)
    go None f o d = typed o d

pub whole_argument_good : (n : ℕ) → Good n after_expr begins_argument IsArgument spec.whole_argument
whole_argument_good n = record {
  sound = argument_sound;
  reach = λ front x rest len is. argument_reach front x rest is;
  begins = (argument_good n (expr_to n) (expr_good n)).begins;
}

-- ---- a type that begins with a word of a storage class

-- such a type goes on with a bracket
pub record TypeHead (w : Tokens) : Type 0 where
  pub head : Token
  pub tail : Tokens
  pub parts : w ≡ head ∷ tail
  pub off : (given_by storage (terminal_of head) ≡ false) ⊎ ((m : Token) × (more : Tokens) × (tail ≡ m ∷ more) × (terminal_of m ≡ k.LeftParen))

head_on : (v w : Tokens) → TypeHead v → TypeHead (v ++ w)
head_on v w d = record { head = d.head; tail = d.tail ++ w; parts = ap (λ (ts : Tokens). ts ++ w) d.parts; off = go d.off }
  where
    go : (given_by storage (terminal_of d.head) ≡ false) ⊎ ((m : Token) × (more : Tokens) × (d.tail ≡ m ∷ more) × (terminal_of m ≡ k.LeftParen))
        → (given_by storage (terminal_of d.head) ≡ false) ⊎ ((m : Token) × (more : Tokens) × (d.tail ++ w ≡ m ∷ more) × (terminal_of m ≡ k.LeftParen))
    go (inl e) = inl e
    go (inr (m, more, e, is)) = inr (m, more ++ w, ap (λ (ts : Tokens). ts ++ w) e, is)

symbol_head : (w : Tokens) (y : Symbol) → IsSymbol w y → TypeHead w
unfolding same_terminal
symbol_head w y (g.plain_name i) = record { head = i.token; tail = []; parts = i.alone; off = inl (rw i.is refl) }
symbol_head w y (g.instance {w1 = w1} {w2 = w2} {w3 = w3} i m h) = record { head = i.token; tail = w2 ++ w3; parts = ap (λ (ts : Tokens). ts ++ (w2 ++ w3)) i.alone; off = inl (rw i.is refl) }

plain_head : (w : Tokens) (y : Base) → IsPlainBase w y → TypeHead w
plain_head w y (g.basic {y = z} m) = record { head = m.token; tail = []; parts = m.alone; off = inl (apart (given_by basic_type) (given_by storage) refl (terminal_of m.token) (rw m.means refl)) }
plain_head w y (g.type_of {w1 = w1} {w2 = w2} {w3 = w3} {w4 = w4} m1 m2 h m4) = record { head = m1.token; tail = w2 ++ (w3 ++ w4); parts = ap (λ (ts : Tokens). ts ++ (w2 ++ (w3 ++ w4))) m1.alone; off = inl (rw m1.is refl) }
plain_head w y (g.immutable_char {w1 = w1} {w2 = w2} {w3 = w3} {w4 = w4} m1 m2 m3 m4) =
    record { head = m1.token; tail = w2 ++ (w3 ++ w4); parts = ap (λ (ts : Tokens). ts ++ (w2 ++ (w3 ++ w4))) m1.alone; off = inr (m2.token, w3 ++ w4, ap (λ (ts : Tokens). ts ++ (w3 ++ w4)) m2.alone, m2.is) }

pub type_head : (w : Tokens) (y : TypeTree) → IsType w y → TypeHead w
type_head w y (g.type {w1 = w1} {w2 = w2} {x = z} h c) = head_on w1 w2 (go w1 z h)
  where
    go : (w1 : Tokens) (z : Base) → IsBase w1 z → TypeHead w1
    go w1 z (g.named {w1 = v1} {w2 = v2} {y = y1} p q) = head_on v1 v2 (symbol_head v1 y1 p)
    go w1 z (g.plain p) = plain_head w1 z p

-- so no such word stands there with a text that doesn't begin with a bracket
pub head_not_stored : (w r v t : Tokens) (x : Storage) → TypeHead w → Means storage v x → is k.LeftParen (ahead t) ≡ false → w ++ r ≡ v ++ t → ⊥
head_not_stored w r v t x d m other e = go d.off
  where
    text : d.head ∷ (d.tail ++ r) ≡ m.token ∷ t
    text = ap (λ (ts : Tokens). ts ++ r) (sym d.parts) ∙ e ∙ ap (λ (ts : Tokens). ts ++ t) m.alone

    go : (given_by storage (terminal_of d.head) ≡ false) ⊎ ((u : Token) × (more : Tokens) × (d.tail ≡ u ∷ more) × (terminal_of u ≡ k.LeftParen)) → ⊥
    go (inl off) =
        let same = first_token d.head m.token (d.tail ++ r) t text in
        let on : given_by storage (terminal_of d.head) ≡ true = rw (same, m.means) refl in absurd cc
    go (inr (u, more, parts, paren)) =
        let rest = first_rest d.head m.token (d.tail ++ r) t text in
        let at : ahead t ≡ k.LeftParen = ap ahead (sym rest) ∙ rw (parts, paren) refl in
        let on : is k.LeftParen (ahead t) ≡ true = is_kind k.LeftParen (ahead t) at in absurd cc
