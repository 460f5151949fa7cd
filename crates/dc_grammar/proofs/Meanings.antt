-- What an argument is.
use Rattle.std.proofs.Common.{◌≡◌, List, [], ◌∷◌, ◌++◌, refl, ap, append_assoc, inl, inr}
use Rattle.dc_ast.specs.declared.expression.Expr.{Expr}
use Rattle.dc_ast.specs.declared.expression.ExprKind.TheVariants as e
use Rattle.dc_ast.specs.declared.expression.Suffix.{Suffix}
use Rattle.dc_ast.specs.declared.expression.Suffix.TheVariants as s
use Rattle.dc_ast.specs.declared.expression.Symbol.{Symbol}
use Rattle.dc_ast.specs.declared.expression.Argument.{Argument}
use Rattle.dc_ast.specs.declared.expression.Argument.TheVariants as a
use Rattle.dc_ast.specs.declared.types.TypeTree.{TypeTree}
use Rattle.dc_ast.specs.declared.types.Base.{Base}
use Rattle.dc_ast.specs.declared.types.Bracket.{Bracket}
use Rattle.dc_grammar.specs.Terminals.{Tokens, start_of}
use Rattle.dc_grammar.specs.Trees.{expr, type_tree}
use Rattle.dc_grammar.specs.Grammar as g
use Rattle.dc_grammar.specs.Grammar.{Mark, Named, Means, Id, Word, IsExpr, IsConditional, IsOr, AreOrs, IsAnd, AreAnds, IsBitOr, AreBitOrs, IsBitXor, AreBitXors, IsBitAnd, AreBitAnds, IsComparison, IsShift, AreShiftSteps, IsSum, AreTerms, IsProduct, AreFactors, IsUnary, IsPostfix, AreSuffixes, IsSuffix, IsOperand, IsPrimary, IsIsTree, IsIsTest, IsAgainstWhat, MoreNames, AreExprs, MoreExprs, AreArguments, MoreArguments, IsArgument, IsSymbol, AreTemplateArguments, IsSingle, IsType, IsBareType, IsBase, MoreSymbols, IsPlainBase, AreBrackets}
use Rattle.dc_grammar.specs.Reads.{MeansArgument, ExprFirst}
use Rattle.dc_grammar.proofs.Laws.{one_tree}

append_nil : (ts : Tokens) → ts ++ [] ≡ ts
append_nil [] = refl
append_nil (u ∷ us) = ap (λ (ts : Tokens). u ∷ ts) (append_nil us)

postfix_expr : (w : Tokens) (x : Expr) → IsPostfix w x → IsExpr w x
postfix_expr w x h = g.a_conditional (g.an_or (g.an_and (g.a_bit_or (g.a_bit_xor (g.a_bit_and (g.a_comparison (g.a_shift (g.a_sum (g.a_product (g.a_unary (g.a_postfix h)))))))))))

bracket_suffixes : (w : Tokens) (ts : List Bracket) → AreBrackets w ts → (ss : List Suffix) × AreSuffixes w ss
bracket_suffixes w ts g.no_brackets = ([], g.no_suffixes)
bracket_suffixes w ts (g.open_bracket {w1 = w1} {w2 = w2} {w3 = w3} {ts = rest} p q h) = let r = bracket_suffixes w3 rest h in (s.All ∷ r.0, rw (← append_assoc w1 w2 w3) (g.suffixes (g.all p q) r.1))
bracket_suffixes w ts (g.fixed_bracket {w1 = w1} {w2 = w2} {w3 = w3} {w4 = w4} {x = x} {ts = rest} p is q h) =
    let r = bracket_suffixes w4 rest h in
    let parts : (w1 ++ (w2 ++ w3)) ++ w4 ≡ w1 ++ (w2 ++ (w3 ++ w4)) = rw (append_assoc, append_assoc) refl in
    (s.Index x ∷ r.0, rw (← parts) (g.suffixes (g.index p is q) r.1))

member_suffixes : (w : Tokens) (ys : List Symbol) → MoreSymbols w ys → (v : Tokens) (ss : List Suffix) → AreSuffixes v ss → (ts : List Suffix) × AreSuffixes (w ++ v) ts
member_suffixes w ys g.end_symbols v ss h = (ss, h)
member_suffixes w ys (g.more_symbols {w1 = w1} {w2 = w2} {w3 = w3} {y = y} {ys = rest} m h c) v ss k =
    let r = member_suffixes w3 rest c v ss k in
    let parts : (w1 ++ (w2 ++ w3)) ++ v ≡ (w1 ++ w2) ++ (w3 ++ v) = rw (append_assoc, append_assoc, append_assoc) refl in
    (s.Member y ∷ r.0, rw parts (g.suffixes (g.member m h) r.1))

symbol_postfix : (w v : Tokens) (y : Symbol) (ss : List Suffix) → IsSymbol w y → AreSuffixes v ss → (x : Expr) × IsPostfix (w ++ v) x
symbol_postfix w v y (t ∷ ts) h c = (expr (start_of (w ++ v)) (e.Postfix (expr (start_of w) (e.Symbol y)) (t ∷ ts)), g.postfix (g.operand (g.symbol_expr h)) c)
symbol_postfix w v y [] h c = (expr (start_of w) (e.Symbol y), rw (empty v [] c refl) (rw append_nil (g.an_operand (g.operand (g.symbol_expr h)))))
  where
    empty : (v : Tokens) (ss : List Suffix) → AreSuffixes v ss → ss ≡ [] → v ≡ []
    empty v ss g.no_suffixes eq = refl
    empty v ss (g.suffixes p h) eq = absurd cc

pub named_expr : (w1 w2 w3 : Tokens) (y : Symbol) (ys : List Symbol) (ts : List Bracket) → IsSymbol w1 y → MoreSymbols w2 ys → AreBrackets w3 ts → (x : Expr) × IsExpr ((w1 ++ w2) ++ w3) x
named_expr w1 w2 w3 y ys ts h c f =
    let r = bracket_suffixes w3 ts f in
    let q = member_suffixes w2 ys c w3 r.0 r.1 in
    let z = symbol_postfix w1 (w2 ++ w3) y q.0 h q.1 in
    (z.0, rw (append_assoc w1 w2 w3) (postfix_expr (w1 ++ (w2 ++ w3)) z.0 z.1))

forward : (w : Tokens) (y : Argument) → IsArgument w y → MeansArgument w y
forward w y (g.value {x = x} h) = inl (x, refl, h)
forward w y (g.of_type {w1 = w1} {w2 = w2} {x = z} {ts = ts} h c) =
    inr (type_tree (start_of (w1 ++ w2)) z ts, refl, g.type (g.plain h) c, λ x is. let clash : a.Value x ≡ a.OfType (type_tree (start_of (w1 ++ w2)) z ts) = one_tree.argument (w1 ++ w2) (a.Value x) (a.OfType (type_tree (start_of (w1 ++ w2)) z ts)) (g.value is) (g.of_type h c) in absurd cc)

pub back_type : (w : Tokens) (t : TypeTree) → IsType w t → ((x : Expr) → IsExpr w x → ⊥) → IsArgument w (a.OfType t)
back_type w t (g.type {w1 = w1} {w2 = w2} {x = z} {ts = ts} h c) never = go w1 z h never
  where
    go : (v : Tokens) (y : Base) → IsBase v y → ((x : Expr) → IsExpr (v ++ w2) x → ⊥) → IsArgument (v ++ w2) (a.OfType (type_tree (start_of (v ++ w2)) y ts))
    go v y (g.plain p) never = g.of_type p c
    go v y (g.named {w1 = v1} {w2 = v2} {y = y1} {ys = ys} p q) never = let x = named_expr v1 v2 w2 y1 ys ts p q c in absurd (never x.0 x.1)

back : (w : Tokens) (y : Argument) → MeansArgument w y → IsArgument w y
back w y (inl (x, eq, h)) = rw eq (g.value h)
back w y (inr (t, eq, h, never)) = rw eq (back_type w t h never)

pub expr_first : ExprFirst
expr_first w y = (forward w y, back w y)
