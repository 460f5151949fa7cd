-- Where an expression that begins with a basic type or a `typeof` goes on with a dot.
use Rattle.std.proofs.Common.{◌≡◌, Bool, true, false, [], ◌∷◌, ◌++◌, Option, Some, refl, sym, ap, ◌∙◌, append_assoc}
use Rattle.dc_token.specs.declared.token.Token.{Token}
use Rattle.dc_ast.specs.declared.expression.Expr.{Expr}
use Rattle.dc_ast.specs.declared.expression.ExprKind.{ExprKind}
use Rattle.dc_ast.specs.declared.expression.Symbol.{Symbol}
use Rattle.dc_grammar.specs.declared.terminal.Terminal.{Terminal}
use Rattle.dc_grammar.specs.declared.terminal.Terminal.TheVariants as k
use Rattle.dc_grammar.specs.Terminals.{Tokens, ahead, terminal_of, same_terminal, basic_type, unary_operator}
use Rattle.dc_grammar.specs.Grammar as g
use Rattle.dc_grammar.specs.Grammar.{Mark, Named, Means, Id, Word, placed, IsExpr, IsConditional, IsOr, AreOrs, IsAnd, AreAnds, IsBitOr, AreBitOrs, IsBitXor, AreBitXors, IsBitAnd, AreBitAnds, IsComparison, IsShift, AreShiftSteps, IsSum, AreTerms, IsProduct, AreFactors, IsUnary, IsPostfix, AreSuffixes, IsSuffix, IsOperand, IsPrimary, IsIsTree, IsIsTest, IsAgainstWhat, MoreNames, AreExprs, MoreExprs, AreArguments, MoreArguments, IsArgument, IsSymbol, AreTemplateArguments, IsSingle, IsType, IsBareType, IsBase, MoreSymbols, IsPlainBase, AreBrackets}
use Rattle.dc_grammar.proofs.Good.{Begins, given_by}
use Rattle.dc_grammar.proofs.Choices.{apart, within}
use Rattle.dc_grammar.proofs.Edges.{begins_expr}

pub record NextDot (tail : Tokens) : Type 0 where
  pub dot : Token
  pub after : Tokens
  pub parts : tail ≡ dot ∷ after
  pub is : terminal_of dot ≡ k.Dot

pub record OfDot (tail : Tokens) : Type 0 where
  pub open_mark : Tokens
  pub inside : Tokens
  pub close_mark : Tokens
  pub dot_mark : Tokens
  pub after : Tokens
  pub tree : Expr
  pub parts : tail ≡ open_mark ++ (inside ++ (close_mark ++ (dot_mark ++ after)))
  pub opens : Mark k.LeftParen open_mark
  pub holds : IsExpr inside tree
  pub closes : Mark k.RightParen close_mark
  pub dots : Mark k.Dot dot_mark
  pub names : ahead after ≡ k.Name

pub record Dotted (w : Tokens) : Type 0 where
  pub head : Token
  pub tail : Tokens
  pub parts : w ≡ head ∷ tail
  pub kind : begins_expr (terminal_of head) ≡ true
  pub basic : given_by basic_type (terminal_of head) ≡ true → NextDot tail
  pub of : terminal_of head ≡ k.TypeOf → OfDot tail

pub named_on : (v w : Tokens) → ahead v ≡ k.Name → ahead (v ++ w) ≡ k.Name
named_on [] w e = absurd cc
named_on (t ∷ v) w e = e

on_with : (v w : Tokens) → Dotted v → Dotted (v ++ w)
on_with v w d = record {
  head = d.head;
  tail = d.tail ++ w;
  parts = ap (λ (ts : Tokens). ts ++ w) d.parts;
  kind = d.kind;
  basic = λ yes_basic. let q = d.basic yes_basic in record { dot = q.dot; after = q.after ++ w; parts = ap (λ (ts : Tokens). ts ++ w) q.parts; is = q.is };
  of = λ yes_of. let q = d.of yes_of in record {
    open_mark = q.open_mark;
    inside = q.inside;
    close_mark = q.close_mark;
    dot_mark = q.dot_mark;
    after = q.after ++ w;
    tree = q.tree;
    parts = ap (λ (ts : Tokens). ts ++ w) q.parts ∙ rw (append_assoc, append_assoc, append_assoc, append_assoc) refl;
    opens = q.opens;
    holds = q.holds;
    closes = q.closes;
    dots = q.dots;
    names = named_on q.after w q.names;
  };
}

alone : (kind : Terminal) (w : Tokens) (token : Token) → w ≡ token ∷ [] → terminal_of token ≡ kind → begins_expr kind ≡ true → given_by basic_type kind ≡ false → (kind ≡ k.TypeOf → ⊥) → Dotted w
alone kind w token parts eq starts no_basic no_of = record {
  head = token;
  tail = [];
  parts = parts;
  kind = rw eq starts;
  basic = λ h. let clash : given_by basic_type kind ≡ true = rw eq at h in absurd (true_false (given_by basic_type kind) clash no_basic);
  of = λ h. absurd (no_of (sym eq ∙ h));
}
  where
    true_false : (c : Bool) → c ≡ true → c ≡ false → ⊥
    true_false true e f = cc
    true_false false e f = cc

marked : (kind : Terminal) (w : Tokens) → Mark kind w → begins_expr kind ≡ true → given_by basic_type kind ≡ false → (kind ≡ k.TypeOf → ⊥) → Dotted w
marked kind w m = alone kind w m.token m.alone m.is

named : {A : Type 0} {to : Token → A} (kind : Terminal) (w : Tokens) (x : A) → Named to kind w x → begins_expr kind ≡ true → given_by basic_type kind ≡ false → (kind ≡ k.TypeOf → ⊥) → Dotted w
named kind w x m = alone kind w m.token m.alone m.is

given_is : {A : Type 0} (f : Terminal → Option A) (w : Tokens) (x : A) (m : Means f w x) → given_by f (terminal_of m.token) ≡ true
given_is f w x m = rw m.means refl

true_false : (c : Bool) → c ≡ true → c ≡ false → ⊥
true_false true e f = cc
true_false false e f = cc

dotted_symbol : (w : Tokens) (y : Symbol) → IsSymbol w y → Dotted w
unfolding same_terminal
dotted_symbol w y (g.plain_name {n = n} m) = named k.Name w n m refl refl (λ q. cc)
dotted_symbol w y (g.instance {w1 = w1} {w2 = w2} {w3 = w3} {n = n} m h c) = on_with w1 (w2 ++ w3) (named k.Name w1 n m refl refl (λ q. cc))

dotted_primary : (w : Tokens) (x : ExprKind) → IsPrimary w x → Dotted w
dotted_primary w x (g.integer {n = n} m) = named k.Integer w n m refl refl (λ q. cc)
dotted_primary w x (g.string {n = n} m) = named k.Str w n m refl refl (λ q. cc)
dotted_primary w x (g.character {n = n} m) = named k.Character w n m refl refl (λ q. cc)
dotted_primary w x (g.null m) = marked k.Null w m refl refl (λ q. cc)
dotted_primary w x (g.true_word m) = marked k.True w m refl refl (λ q. cc)
dotted_primary w x (g.false_word m) = marked k.False w m refl refl (λ q. cc)
dotted_primary w x (g.this m) = marked k.This w m refl refl (λ q. cc)
dotted_primary w x (g.dollar m) = marked k.Dollar w m refl refl (λ q. cc)
dotted_primary w x (g.symbol_expr {y = y} h) = dotted_symbol w y h
dotted_primary w x (g.paren {w1 = w1} {w2 = w2} {w3 = w3} m h c) = on_with w1 (w2 ++ w3) (marked k.LeftParen w1 m refl refl (λ q. cc))
dotted_primary w x (g.array {w1 = w1} {w2 = w2} {w3 = w3} m h c) = on_with w1 (w2 ++ w3) (marked k.LeftBracket w1 m refl refl (λ q. cc))
dotted_primary w x (g.property {w1 = w1} {w2 = w2} {w3 = w3} {y = y} m h c) = record {
  head = m.token;
  tail = w2 ++ w3;
  parts = ap (λ (ts : Tokens). ts ++ (w2 ++ w3)) m.alone;
  kind = within (given_by basic_type) begins_expr refl (terminal_of m.token) (given_is basic_type w1 y m);
  basic = λ b. record { dot = h.token; after = w3; parts = ap (λ (ts : Tokens). ts ++ w3) h.alone; is = h.is };
  of = λ q. let clash : basic_type k.TypeOf ≡ Some y = rw q at m.means in absurd cc;
}
dotted_primary w x (g.type_of_property {w1 = w1} {w2 = w2} {w3 = w3} {w4 = w4} {w5 = w5} {w6 = w6} {x = y} m1 m2 h m4 m5 i) = record {
  head = m1.token;
  tail = w2 ++ (w3 ++ (w4 ++ (w5 ++ w6)));
  parts = ap (λ (ts : Tokens). ts ++ (w2 ++ (w3 ++ (w4 ++ (w5 ++ w6))))) m1.alone;
  kind = rw m1.is refl;
  basic = λ b. let clash : given_by basic_type k.TypeOf ≡ true = rw m1.is at b in absurd cc;
  of = λ q. record { open_mark = w2; inside = w3; close_mark = w4; dot_mark = w5; after = w6; tree = y; parts = refl; opens = m2; holds = h; closes = m4; dots = m5; names = rw (i.alone) i.is };
}
dotted_primary w x (g.mixin {w1 = w1} {w2 = w2} {w3 = w3} {w4 = w4} m m2 h c) = on_with w1 (w2 ++ (w3 ++ w4)) (marked k.Mixin w1 m refl refl (λ q. cc))
dotted_primary w x (g.is_expr {w1 = w1} {w2 = w2} {w3 = w3} {w4 = w4} m m2 h c) = on_with w1 (w2 ++ (w3 ++ w4)) (marked k.Is w1 m refl refl (λ q. cc))
dotted_primary w x (g.traits {w1 = w1} {w2 = w2} {w3 = w3} {w4 = w4} {w5 = w5} {w6 = w6} m m2 i c h f) = on_with w1 (w2 ++ (w3 ++ (w4 ++ (w5 ++ w6)))) (marked k.Traits w1 m refl refl (λ q. cc))
dotted_primary w x (g.assert {w1 = w1} {w2 = w2} {w3 = w3} {w4 = w4} m m2 h c) = on_with w1 (w2 ++ (w3 ++ w4)) (marked k.Assert w1 m refl refl (λ q. cc))
dotted_primary w x (g.assert_with {w1 = w1} {w2 = w2} {w3 = w3} {w4 = w4} {w5 = w5} {w6 = w6} m m2 h c q f) = on_with w1 (w2 ++ (w3 ++ (w4 ++ (w5 ++ w6)))) (marked k.Assert w1 m refl refl (λ q. cc))

dotted_operand : (w : Tokens) (x : Expr) → IsOperand w x → Dotted w
dotted_operand w x (g.operand {x = y} h) = dotted_primary w y h

dotted_postfix : (w : Tokens) (x : Expr) → IsPostfix w x → Dotted w
dotted_postfix w x (g.an_operand h) = dotted_operand w x h
dotted_postfix w x (g.postfix {w1 = w1} {w2 = w2} {x = y} h c) = on_with w1 w2 (dotted_operand w1 y h)
dotted_postfix w x (g.new {w1 = w1} {w2 = w2} {w3 = w3} m h c e) = on_with w1 (w2 ++ w3) (marked k.New w1 m refl refl (λ q. cc))

pub dotted_unary : (w : Tokens) (x : Expr) → IsUnary w x → Dotted w
dotted_unary w x (g.prefix {w1 = w1} {w2 = w2} {o = o} m h) = on_with w1 w2 (record {
  head = m.token;
  tail = [];
  parts = m.alone;
  kind = within (given_by unary_operator) begins_expr refl (terminal_of m.token) (given_is unary_operator w1 o m);
  basic = λ q. absurd (true_false _ q (apart (given_by unary_operator) (given_by basic_type) refl (terminal_of m.token) (given_is unary_operator w1 o m)));
  of = λ q. let clash : unary_operator k.TypeOf ≡ Some o = rw q at m.means in absurd cc;
})
dotted_unary w x (g.cast {w1 = w1} {w2 = w2} {w3 = w3} {w4 = w4} {w5 = w5} m m2 h c q) = on_with w1 (w2 ++ (w3 ++ (w4 ++ w5))) (marked k.Cast w1 m refl refl (λ q. cc))
dotted_unary w x (g.a_postfix h) = dotted_postfix w x h

dotted_product : (w : Tokens) (x : Expr) → IsProduct w x → Dotted w
dotted_product w x (g.a_unary h) = dotted_unary w x h
dotted_product w x (g.product {w1 = w1} {w2 = w2} {x = y} h c) = on_with w1 w2 (dotted_unary w1 y h)

dotted_sum : (w : Tokens) (x : Expr) → IsSum w x → Dotted w
dotted_sum w x (g.a_product h) = dotted_product w x h
dotted_sum w x (g.sum {w1 = w1} {w2 = w2} {x = y} h c) = on_with w1 w2 (dotted_product w1 y h)

dotted_shift : (w : Tokens) (x : Expr) → IsShift w x → Dotted w
dotted_shift w x (g.a_sum h) = dotted_sum w x h
dotted_shift w x (g.shift {w1 = w1} {w2 = w2} {x = y} h c) = on_with w1 w2 (dotted_sum w1 y h)

dotted_comparison : (w : Tokens) (x : Expr) → IsComparison w x → Dotted w
dotted_comparison w x (g.a_shift h) = dotted_shift w x h
dotted_comparison w x (g.comparison {w1 = w1} {w2 = w2} {w3 = w3} {x = y} h m c) = on_with w1 (w2 ++ w3) (dotted_shift w1 y h)

dotted_bit_and : (w : Tokens) (x : Expr) → IsBitAnd w x → Dotted w
dotted_bit_and w x (g.a_comparison h) = dotted_comparison w x h
dotted_bit_and w x (g.bit_and {w1 = w1} {w2 = w2} {x = y} h c) = on_with w1 w2 (dotted_comparison w1 y h)

dotted_bit_xor : (w : Tokens) (x : Expr) → IsBitXor w x → Dotted w
dotted_bit_xor w x (g.a_bit_and h) = dotted_bit_and w x h
dotted_bit_xor w x (g.bit_xor {w1 = w1} {w2 = w2} {x = y} h c) = on_with w1 w2 (dotted_bit_and w1 y h)

dotted_bit_or : (w : Tokens) (x : Expr) → IsBitOr w x → Dotted w
dotted_bit_or w x (g.a_bit_xor h) = dotted_bit_xor w x h
dotted_bit_or w x (g.bit_or {w1 = w1} {w2 = w2} {x = y} h c) = on_with w1 w2 (dotted_bit_xor w1 y h)

dotted_and : (w : Tokens) (x : Expr) → IsAnd w x → Dotted w
dotted_and w x (g.a_bit_or h) = dotted_bit_or w x h
dotted_and w x (g.and {w1 = w1} {w2 = w2} {x = y} h c) = on_with w1 w2 (dotted_bit_or w1 y h)

dotted_or : (w : Tokens) (x : Expr) → IsOr w x → Dotted w
dotted_or w x (g.an_and h) = dotted_and w x h
dotted_or w x (g.or {w1 = w1} {w2 = w2} {x = y} h c) = on_with w1 w2 (dotted_and w1 y h)

pub dotted_conditional : (w : Tokens) (x : Expr) → IsConditional w x → Dotted w
dotted_conditional w x (g.an_or h) = dotted_or w x h
dotted_conditional w x (g.conditional {w1 = w1} {w2 = w2} {w3 = w3} {w4 = w4} {w5 = w5} {x = y} h m c q f) = on_with w1 (w2 ++ (w3 ++ (w4 ++ w5))) (dotted_or w1 y h)

pub dotted_expr : (w : Tokens) (x : Expr) → IsExpr w x → Dotted w
dotted_expr w x (g.a_conditional h) = dotted_conditional w x h
dotted_expr w x (g.assign {w1 = w1} {w2 = w2} {w3 = w3} {x = y} h m c) = on_with w1 (w2 ++ w3) (dotted_conditional w1 y h)

pub begins_of : (w : Tokens) → Dotted w → Begins begins_expr w
begins_of w d = record { head = d.head; tail = d.tail; parts = d.parts; kind = d.kind }
