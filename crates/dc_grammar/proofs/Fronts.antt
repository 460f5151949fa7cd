-- The first two tokens of texts.
use Rattle.std.proofs.Common.{◌≡◌, Bool, true, false, ◌&&◌, ◌||◌, ◌∷◌, ◌++◌, refl, sym, ap, ◌∙◌}
use Rattle.dc_token.specs.declared.token.Token.{Token}
use Rattle.dc_ast.specs.declared.expression.Expr.{Expr}
use Rattle.dc_ast.specs.declared.statement.StaticTest.{StaticTest}
use Rattle.dc_ast.specs.declared.statement.StaticRange.{StaticRange}
use Rattle.dc_ast.specs.declared.statement.StaticAssert.{StaticAssert}
use Rattle.dc_ast.specs.declared.statement.ImportTree.{ImportTree}
use Rattle.dc_grammar.specs.declared.terminal.Terminal.{Terminal}
use Rattle.dc_grammar.specs.declared.terminal.Terminal.TheVariants as k
use Rattle.dc_grammar.specs.Terminals.{Tokens, ahead, start_of, terminal_of, same_terminal}
use Rattle.dc_grammar.specs.Grammar.{Mark}
use Rattle.dc_grammar.specs.Parts as p
use Rattle.dc_grammar.specs.Parts.{Head, IsImported, IsImport, IsStaticTest, IsStaticRange, IsStaticAssert}
use Rattle.dc_grammar.specs.Statements.{second, begins_conditional}
use Rattle.dc_grammar.proofs.Good.{Begins, is, is_same, same_is}
use Rattle.dc_grammar.proofs.Choices.{Disjoint, Within, within}
use Rattle.dc_grammar.proofs.Tools.{start_on}
use Rattle.dc_grammar.proofs.PartRules.{static_test_good}
use Rattle.dc_grammar.proofs.TypeFirst.{clash}

-- the first token, of a set, and behind a `static` another one
pub record Front (f : Terminal → Bool) (w : Tokens) : Type 0 where
  pub head : Token
  pub tail : Tokens
  pub parts : w ≡ head ∷ tail
  pub kind : f (terminal_of head) ≡ true
  pub two : terminal_of head ≡ k.Static → (u : Token) × (us : Tokens) × (tail ≡ u ∷ us)

pub front_on : (f : Terminal → Bool) (v w : Tokens) → Front f v → Front f (v ++ w)
front_on f v w b = record { head = b.head; tail = b.tail ++ w; parts = ap (λ (ts : Tokens). ts ++ w) b.parts; kind = b.kind; two = λ eq. let d = b.two eq in (d.0, d.1 ++ w, ap (λ (ts : Tokens). ts ++ w) d.2) }

pub front_of : (f g : Terminal → Bool) (w : Tokens) → Begins g w → Within g f → Disjoint g (is k.Static) → Front f w
front_of f g w b inside off = record {
  head = b.head;
  tail = b.tail;
  parts = b.parts;
  kind = within g f inside (terminal_of b.head) b.kind;
  two = λ eq. absurd (clash g (is k.Static) off (terminal_of b.head) (terminal_of b.head) refl b.kind (same_is k.Static (terminal_of b.head) eq));
}

pub front_mark : (f : Terminal → Bool) (kind : Terminal) (v w : Tokens) → Mark kind v → f kind ≡ true → is k.Static kind ≡ false → Front f (v ++ w)
front_mark f kind v w m inside off = record {
  head = m.token;
  tail = w;
  parts = ap (λ (ts : Tokens). ts ++ w) m.alone;
  kind = rw m.is inside;
  two = λ eq. let on : is k.Static kind ≡ true = same_is k.Static kind (sym m.is ∙ eq) in absurd cc;
}

-- two marks, the first `static`
pub front_static : (f : Terminal → Bool) (kind : Terminal) (v w u : Tokens) → f k.Static ≡ true → Mark k.Static v → Mark kind w → Front f (v ++ (w ++ u))
front_static f kind v w u inside m d = record {
  head = m.token;
  tail = w ++ u;
  parts = ap (λ (ts : Tokens). ts ++ (w ++ u)) m.alone;
  kind = rw m.is inside;
  two = λ eq. (d.token, u, ap (λ (ts : Tokens). ts ++ u) d.alone);
}

pub head_front : (f : Terminal → Bool) (kind : Terminal) (v w : Tokens) (x : Expr) → Head kind v x → f kind ≡ true → is k.Static kind ≡ false → Front f (v ++ w)
head_front f kind v w x (p.head {w1 = w1} {w2 = w2} {w3 = w3} {w4 = w4} m h2 h3 h4) inside off = front_on f (w1 ++ (w2 ++ (w3 ++ w4))) w (front_mark f kind w1 (w2 ++ (w3 ++ w4)) m inside off)

pub import_front : (f : Terminal → Bool) (w : Tokens) (x : ImportTree) → f k.Import ≡ true → f k.Static ≡ true → IsImport w x → Front f w
unfolding same_terminal
import_front f w x one two (p.plain_import {t = y} h) = go w y h
  where
    go : (w : Tokens) (y : ImportTree) → IsImported false w y → Front f w
    go w y (p.imported {w1 = v1} {w2 = v2} {w3 = v3} {w4 = v4} i h2 h3 h4) = front_mark f k.Import v1 (v2 ++ (v3 ++ v4)) i one refl
import_front f w x one two (p.static_import {w1 = w1} {w2 = w2} {t = y} m h) = go w2 y h
  where
    go : (w2 : Tokens) (y : ImportTree) → IsImported true w2 y → Front f (w1 ++ w2)
    go w2 y (p.imported {w1 = v1} {w2 = v2} {w3 = v3} {w4 = v4} i h2 h3 h4) = front_static f k.Import w1 v1 (v2 ++ (v3 ++ v4)) two m i

pub test_front : (f : Terminal → Bool) (w : Tokens) (x : StaticTest) → f k.Static ≡ true → f k.Version ≡ true → IsStaticTest w x → Front f w
unfolding same_terminal
test_front f w x one two (p.static_if {w1 = w1} {w2 = w2} {x = y} m h) = go w2 y h
  where
    go : (w2 : Tokens) (y : Expr) → Head k.If w2 y → Front f (w1 ++ w2)
    go w2 y (p.head {w1 = v1} {w2 = v2} {w3 = v3} {w4 = v4} i h2 h3 h4) = front_static f k.If w1 v1 (v2 ++ (v3 ++ v4)) one m i
test_front f w x one two (p.version {w1 = w1} {w2 = w2} {w3 = w3} {w4 = w4} m h2 h3 h4) = front_mark f k.Version w1 (w2 ++ (w3 ++ w4)) m two refl

pub range_front : (f : Terminal → Bool) (w : Tokens) (x : StaticRange) → f k.Static ≡ true → IsStaticRange w x → Front f w
range_front f w x one (p.a_static_range {w1 = v1} {w2 = v2} {w3 = v3} {w4 = v4} {w5 = v5} {w6 = v6} {w7 = v7} {w8 = v8} m d h3 h4 h5 h6 h7 h8) = front_static f k.Foreach v1 v2 (v3 ++ (v4 ++ (v5 ++ (v6 ++ (v7 ++ v8))))) one m d

pub check_front : (f : Terminal → Bool) (w : Tokens) (x : StaticAssert) → f k.Static ≡ true → IsStaticAssert w x → Front f w
check_front f w x one (p.a_static_assert {w1 = v1} {w2 = v2} {w3 = v3} {w4 = v4} {w5 = v5} {w6 = v6} {w7 = v7} m d h3 h4 h5 h6 h7) = front_static f k.Assert v1 v2 (v3 ++ (v4 ++ (v5 ++ (v6 ++ v7)))) one m d

-- ---- where a `static if` or a `version` begins

pub test_opens : (w r : Tokens) (x : StaticTest) → IsStaticTest w x → begins_conditional (w ++ r) ≡ true
unfolding same_terminal
test_opens w r x (p.static_if {w1 = w1} {w2 = w2} {x = y} m h) = go w2 y h
  where
    go : (w2 : Tokens) (y : Expr) → Head k.If w2 y → begins_conditional ((w1 ++ w2) ++ r) ≡ true
    go w2 y (p.head {w1 = v1} {w2 = v2} {w3 = v3} {w4 = v4} i h2 h3 h4) = rw (m.alone, m.is, i.alone, i.is) refl
test_opens w r x (p.version {w1 = w1} {w2 = w2} {w3 = w3} {w4 = w4} m h2 h3 h4) = rw (m.alone, m.is) refl

-- that is seen in the text itself
pub conditional_same : (f : Terminal → Bool) (w r : Tokens) → Front f w → begins_conditional (w ++ r) ≡ begins_conditional w
conditional_same f w r b = go (same_terminal (terminal_of b.head) k.Static) refl
  where
    go : (c : Bool) → same_terminal (terminal_of b.head) k.Static ≡ c → begins_conditional (w ++ r) ≡ begins_conditional w
    go true e = let d = b.two (is_same k.Static (terminal_of b.head) e) in let whole : w ≡ b.head ∷ (d.0 ∷ d.1) = b.parts ∙ ap (λ (ts : Tokens). b.head ∷ ts) d.2 in rw whole refl
    go false e = rw (b.parts, e) refl

-- by the first word, or the first two
pub conditional_split : (w : Tokens) → begins_conditional w ≡ true → same_terminal (ahead w) k.Version ≡ false → (ahead w ≡ k.Static) × (second w ≡ k.If)
conditional_split w opened off = go (same_terminal (ahead w) k.Static) (same_terminal (second w) k.If) (same_terminal (ahead w) k.Version) refl refl opened off
  where
    go : (a b c : Bool) → same_terminal (ahead w) k.Static ≡ a → same_terminal (second w) k.If ≡ b → ((a && b) || c) ≡ true → c ≡ false → (ahead w ≡ k.Static) × (second w ≡ k.If)
    go true true c e1 e2 e d = (is_same k.Static (ahead w) e1, is_same k.If (second w) e2)
    go true false c e1 e2 e d = absurd cc
    go false b c e1 e2 e d = absurd cc

pub two_marks : (kind other : Terminal) (v w u rest : Tokens) → Mark kind v → Mark other w → (ahead ((v ++ (w ++ u)) ++ rest) ≡ kind) × (second ((v ++ (w ++ u)) ++ rest) ≡ other)
two_marks kind other v w u rest m d = (rw (m.alone, m.is) refl, rw (m.alone, d.alone, d.is) refl)

pub import_marks : (w rest : Tokens) (x : ImportTree) → (v : Tokens) → Mark k.Static v → IsImported true w x → (ahead ((v ++ w) ++ rest) ≡ k.Static) × (second ((v ++ w) ++ rest) ≡ k.Import)
import_marks w rest x v m (p.imported {w1 = v1} {w2 = v2} {w3 = v3} {w4 = v4} h1 h2 h3 h4) = two_marks k.Static k.Import v v1 (v2 ++ (v3 ++ v4)) rest m h1

pub range_marks : (w u rest : Tokens) (x : StaticRange) → IsStaticRange w x → (ahead ((w ++ u) ++ rest) ≡ k.Static) × (second ((w ++ u) ++ rest) ≡ k.Foreach)
range_marks w u rest x (p.a_static_range {w1 = v1} {w2 = v2} {w3 = v3} {w4 = v4} {w5 = v5} {w6 = v6} {w7 = v7} {w8 = v8} m d h3 h4 h5 h6 h7 h8) = (rw (m.alone, m.is) refl, rw (m.alone, d.alone, d.is) refl)

pub check_marks : (w rest : Tokens) (x : StaticAssert) → IsStaticAssert w x → (ahead (w ++ rest) ≡ k.Static) × (second (w ++ rest) ≡ k.Assert)
check_marks w rest x (p.a_static_assert {w1 = v1} {w2 = v2} {w3 = v3} {w4 = v4} {w5 = v5} {w6 = v6} {w7 = v7} m d h3 h4 h5 h6 h7) = (rw (m.alone, m.is) refl, rw (m.alone, d.alone, d.is) refl)

-- the start of a text is that of what it begins with
pub start_less : (u v w : Tokens) (x : StaticTest) → IsStaticTest u x → start_of (u ++ (v ++ w)) ≡ start_of (u ++ v)
start_less u v w x h = let b = (static_test_good 0).begins u x h in start_on u (v ++ w) b ∙ sym (start_on u v b)
