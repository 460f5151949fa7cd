-- The rules as forms, factored as they are read; and each rule of the grammar is its form.
use Rattle.std.proofs.Common.{◌≡◌, List, [], ◌∷◌, ◌++◌, Option, Some, None, refl, sym, ap, subst, ◌∙◌, append_assoc, inl, inr}
use Rattle.dc_ast.specs.declared.word.BinaryOperator.{BinaryOperator}
use Rattle.dc_ast.specs.declared.name.Name.{Name}
use Rattle.dc_ast.specs.declared.expression.Expr.{Expr}
use Rattle.dc_ast.specs.declared.expression.ExprKind.{ExprKind}
use Rattle.dc_ast.specs.declared.expression.ExprKind.TheVariants as e
use Rattle.dc_ast.specs.declared.expression.Step.{Step}
use Rattle.dc_ast.specs.declared.expression.Suffix.{Suffix}
use Rattle.dc_ast.specs.declared.expression.Argument.TheOpen.{Suffix-F}
use Rattle.dc_ast.specs.declared.expression.Argument.TheViews.{roll-Suffix, out-roll-Suffix}
use Rattle.dc_ast.specs.declared.expression.Suffix.TheVariants as s
use Rattle.dc_ast.specs.declared.expression.Symbol.{Symbol}
use Rattle.dc_ast.specs.declared.expression.Argument.{Argument}
use Rattle.dc_ast.specs.declared.expression.Argument.TheVariants as a
use Rattle.dc_ast.specs.declared.expression.IsTree.{IsTree}
use Rattle.dc_ast.specs.declared.expression.IsTest.{IsTest}
use Rattle.dc_ast.specs.declared.expression.IsAgainst.{IsAgainst}
use Rattle.dc_ast.specs.declared.expression.IsAgainst.TheVariants as v
use Rattle.dc_ast.specs.declared.types.TypeTree.{TypeTree}
use Rattle.dc_ast.specs.declared.types.Base.{Base}
use Rattle.dc_ast.specs.declared.types.Base.TheVariants as b
use Rattle.dc_ast.specs.declared.types.Bracket.{Bracket}
use Rattle.dc_ast.specs.declared.types.Bracket.TheVariants as d
use Rattle.dc_grammar.specs.declared.terminal.Terminal.{Terminal}
use Rattle.dc_grammar.specs.declared.terminal.Terminal.TheVariants as k
use Rattle.dc_grammar.specs.Terminals.{Tokens, start_of, basic_type, unary_operator, multiplies, adds, shifts, compares, bit_and_operator, bit_xor_operator, bit_or_operator, and_operator, or_operator, assign_operator, is_relation}
use Rattle.dc_grammar.specs.NewArrays.{NewArray, new_array, Form, called, called_at, counted, counted_at, first_of, with_bracket}
use Rattle.dc_grammar.specs.Trees.{expr, step, symbol, type_tree, is_tree, is_test}
use Rattle.dc_grammar.specs.Grammar as g
use Rattle.dc_grammar.specs.Grammar.{Mark, Named, Means, Id, Word, placed, IsExpr, IsConditional, IsOr, AreOrs, IsAnd, AreAnds, IsBitOr, AreBitOrs, IsBitXor, AreBitXors, IsBitAnd, AreBitAnds, IsComparison, IsShift, AreShiftSteps, IsSum, AreTerms, IsProduct, AreFactors, IsUnary, IsPostfix, AreSuffixes, IsSuffix, IsOperand, IsPrimary, IsIsTree, IsIsTest, IsAgainstWhat, MoreNames, AreExprs, MoreExprs, AreArguments, MoreArguments, IsArgument, IsSymbol, AreTemplateArguments, IsSingle, IsType, IsBareType, IsBase, MoreSymbols, IsPlainBase, AreBrackets}
use Rattle.dc_grammar.specs.Readers.{chain, compared, chosen, assigned, or_empty, between, length_of}
use Rattle.dc_grammar.proofs.Good.{Pair, Marked}
use Rattle.dc_grammar.proofs.Lists.{Maybe, Many}
use Rattle.dc_grammar.proofs.Choices.{Or}
use Rattle.dc_grammar.proofs.Tools.{pair, Image, Placed}

abbrev pub FNext : {A : Type 0} → (Tokens → A → Type 0) → Tokens → A → Type 0
FNext P = Image (λ z. z.1) (Pair (Marked k.Comma) P)

abbrev pub FList : {A : Type 0} → (Tokens → A → Type 0) → Tokens → List A → Type 0
FList P = Image (λ z. z.0 ∷ z.1) (Pair P (Many (FNext P)))

abbrev pub FSome : {A : Type 0} → (Tokens → A → Type 0) → Tokens → List A → Type 0
FSome P = Image or_empty (Maybe (FList P))

abbrev pub FBracketLength : Tokens → Bracket → Type 0
FBracketLength = Image length_of (Maybe IsExpr)

abbrev pub FBracket : Tokens → Bracket → Type 0
FBracket = Image (λ z. z.1.0) (Pair (Marked k.LeftBracket) (Pair FBracketLength (Marked k.RightBracket)))

abbrev pub FTypeOf : Tokens → Base → Type 0
FTypeOf = Image (λ z. b.TypeOf z.1.1.0) (Pair (Marked k.TypeOf) (Pair (Marked k.LeftParen) (Pair IsExpr (Marked k.RightParen))))

abbrev pub FImmutableChar : Tokens → Base → Type 0
FImmutableChar = Image (λ z. b.ImmutableChar) (Pair (Marked k.Immutable) (Pair (Marked k.LeftParen) (Pair (Marked k.Char) (Marked k.RightParen))))

abbrev pub FBasic : Tokens → Base → Type 0
FBasic = Image b.Basic (Means basic_type)

abbrev pub FPlainBase : Tokens → Base → Type 0
FPlainBase = Or FTypeOf (Or FImmutableChar FBasic)

abbrev pub FPlainType : Tokens → TypeTree → Type 0
FPlainType = Placed (λ at z. type_tree at z.0 z.1) (Pair IsPlainBase (Many FBracket))

abbrev pub FType : Tokens → TypeTree → Type 0
FType = Placed (λ at z. type_tree at z.0 z.1) (Pair IsBase (Many FBracket))

abbrev pub FBareType : Tokens → TypeTree → Type 0
FBareType = Placed (λ at x. type_tree at x []) IsBase

abbrev pub FAfterDot : Tokens → Symbol → Type 0
FAfterDot = Image (λ z. z.1) (Pair (Marked k.Dot) IsSymbol)

abbrev pub FNamedBase : Tokens → Base → Type 0
FNamedBase = Image (λ z. b.Named (z.0 ∷ z.1)) (Pair IsSymbol (Many FAfterDot))

abbrev pub FBase : Tokens → Base → Type 0
FBase = Or FNamedBase IsPlainBase

abbrev pub FInstanceEnd : Tokens → List Argument → Type 0
FInstanceEnd = Image (λ z. z.1) (Pair (Marked k.Not) AreTemplateArguments)

abbrev pub FSymbol : Tokens → Symbol → Type 0
FSymbol = Image (λ z. symbol z.0 z.1) (Pair Id (Maybe FInstanceEnd))

abbrev pub FInParens : Tokens → List Argument → Type 0
FInParens = Image (λ z. z.1.0) (Pair (Marked k.LeftParen) (Pair (FSome IsArgument) (Marked k.RightParen)))

abbrev pub FOneValue : Tokens → List Argument → Type 0
FOneValue = Placed (λ at x. a.Value (expr at x) ∷ []) IsSingle

abbrev pub FOneBasic : Tokens → List Argument → Type 0
FOneBasic = Placed (λ at y. a.OfType (type_tree at (b.Basic y) []) ∷ []) (Means basic_type)

abbrev pub FTemplateArguments : Tokens → List Argument → Type 0
FTemplateArguments = Or FInParens (Or FOneValue FOneBasic)

abbrev pub FSingle : Tokens → ExprKind → Type 0
FSingle = Or (Image (λ n. e.Symbol (symbol n None)) Id) (Or (Image e.Integer (Word k.Integer)) (Or (Image e.Str (Word k.Str)) (Image e.Character (Word k.Character))))

abbrev pub FAgainst : Tokens → IsAgainst → Type 0
FAgainst = Or (Image (λ u. v.Struct) (Marked k.Struct)) (Image v.OfType IsType)

abbrev pub FIsTest : Tokens → IsTest → Type 0
FIsTest = Image (λ z. is_test z.0 z.1.0 z.1.1) (Pair (Means is_relation) (Pair IsAgainstWhat (Many (FNext Id))))

abbrev pub FIsTree : Tokens → IsTree → Type 0
FIsTree = Image (λ z. is_tree z.0 z.1) (Pair IsType (Maybe IsIsTest))

abbrev pub FParen : Tokens → ExprKind → Type 0
FParen = Image (λ z. e.Paren z.1.0) (Pair (Marked k.LeftParen) (Pair IsExpr (Marked k.RightParen)))

abbrev pub FArray : Tokens → ExprKind → Type 0
FArray = Image (λ z. e.Array z.1.0) (Pair (Marked k.LeftBracket) (Pair (FSome IsExpr) (Marked k.RightBracket)))

abbrev pub FTypeOfProperty : Tokens → ExprKind → Type 0
FTypeOfProperty = Image (λ z. e.TypeOfProperty z.1.1.0 z.1.1.1.1.1) (Pair (Marked k.TypeOf) (Pair (Marked k.LeftParen) (Pair IsExpr (Pair (Marked k.RightParen) (Pair (Marked k.Dot) Id)))))

abbrev pub FMixin : Tokens → ExprKind → Type 0
FMixin = Image (λ z. e.Mixin z.1.1.0) (Pair (Marked k.Mixin) (Pair (Marked k.LeftParen) (Pair IsExpr (Marked k.RightParen))))

abbrev pub FIsExpr : Tokens → ExprKind → Type 0
FIsExpr = Image (λ z. e.Is z.1.1.0) (Pair (Marked k.Is) (Pair (Marked k.LeftParen) (Pair IsIsTree (Marked k.RightParen))))

abbrev pub FTraits : Tokens → ExprKind → Type 0
FTraits = Image (λ z. e.Traits z.1.1.0 z.1.1.1.1.0) (Pair (Marked k.Traits) (Pair (Marked k.LeftParen) (Pair Id (Pair (Marked k.Comma) (Pair (FList IsArgument) (Marked k.RightParen))))))

abbrev pub FAssert : Tokens → ExprKind → Type 0
FAssert = Image (λ z. e.Assert z.1.1.0 z.1.1.1.0) (Pair (Marked k.Assert) (Pair (Marked k.LeftParen) (Pair IsExpr (Pair (Maybe (FNext IsExpr)) (Marked k.RightParen)))))

abbrev pub FProperty : Tokens → ExprKind → Type 0
FProperty = Image (λ z. e.Property z.0 z.1.1) (Pair (Means basic_type) (Pair (Marked k.Dot) Id))

abbrev pub FPrimary : Tokens → ExprKind → Type 0
FPrimary = Or (Image e.Integer (Word k.Integer)) (Or (Image e.Str (Word k.Str)) (Or (Image e.Character (Word k.Character)) (Or (Image (λ u. e.Null) (Marked k.Null)) (Or (Image (λ u. e.True) (Marked k.True)) (Or (Image (λ u. e.False) (Marked k.False)) (Or (Image (λ u. e.This) (Marked k.This)) (Or (Image (λ u. e.Dollar) (Marked k.Dollar)) (Or (Image e.Symbol IsSymbol) (Or FParen (Or FArray (Or FTypeOfProperty (Or FMixin (Or FIsExpr (Or FTraits (Or FAssert FProperty)))))))))))))))

abbrev pub FOperand : Tokens → Expr → Type 0
FOperand = Placed expr IsPrimary

abbrev pub FMember : Tokens → Suffix → Type 0
FMember = Image (λ z. s.Member z.1) (Pair (Marked k.Dot) IsSymbol)

abbrev pub FCall : Tokens → Suffix → Type 0
FCall = Image (λ z. s.Call z.1.0) (Pair (Marked k.LeftParen) (Pair (FSome IsExpr) (Marked k.RightParen)))

abbrev pub FSliceEnd : Tokens → Expr → Type 0
FSliceEnd = Image (λ z. z.1) (Pair (Marked k.DotDot) IsExpr)

abbrev pub FInside : Tokens → Suffix → Type 0
FInside = Image between (Maybe (Pair IsExpr (Maybe FSliceEnd)))

abbrev pub FBracketed : Tokens → Suffix → Type 0
FBracketed = Image (λ z. z.1.0) (Pair (Marked k.LeftBracket) (Pair FInside (Marked k.RightBracket)))

abbrev pub FSuffix : Tokens → Suffix → Type 0
FSuffix = Or FMember (Or FCall (Or FBracketed (Or (Image (λ u. s.Increment) (Marked k.PlusPlus)) (Image (λ u. s.Decrement) (Marked k.MinusMinus)))))

abbrev pub FSlice : Tokens → Suffix → Type 0
FSlice = Image (λ z. s.All) (Pair (Marked k.LeftBracket) (Marked k.RightBracket))

abbrev pub FLengthIndex : Tokens → Suffix → Type 0
FLengthIndex = Image (λ z. s.Index z.1.0) (Pair (Marked k.LeftBracket) (Pair IsExpr (Marked k.RightBracket)))

abbrev pub FLengthCall : Tokens → Suffix → Type 0
FLengthCall = Image (λ z. s.Call (z.1.0 ∷ [])) (Pair (Marked k.LeftParen) (Pair IsExpr (Marked k.RightParen)))

abbrev pub FLength : Tokens → Suffix → Type 0
FLength = Or FLengthIndex FLengthCall

abbrev pub FNewParts : Tokens → List Suffix → Type 0
FNewParts = Image (λ z. z.0 ++ z.1.0 ∷ z.1.1) (Pair (Many FSlice) (Pair FLength (Many IsSuffix)))

abbrev pub FNew : Tokens → Expr → Type 0
FNew = Placed (λ at z. expr at (e.New z.1.0 z.1.1)) (Pair (Marked k.New) (Pair IsBareType FNewParts))

abbrev pub FPlainPostfix : Tokens → Expr → Type 0
FPlainPostfix = Placed (chain e.Postfix) (Pair IsOperand (Many IsSuffix))

abbrev pub FPostfix : Tokens → Expr → Type 0
FPostfix = Or FNew FPlainPostfix

abbrev pub FPrefix : Tokens → Expr → Type 0
FPrefix = Placed (λ at z. expr at (e.Unary z.0 z.1)) (Pair (Means unary_operator) IsUnary)

abbrev pub FCast : Tokens → Expr → Type 0
FCast = Placed (λ at z. expr at (e.Cast z.1.1.0 z.1.1.1.1)) (Pair (Marked k.Cast) (Pair (Marked k.LeftParen) (Pair IsType (Pair (Marked k.RightParen) IsUnary))))

abbrev pub FUnary : Tokens → Expr → Type 0
FUnary = Or FPrefix (Or FCast IsPostfix)

abbrev pub FStep : (Terminal → Option BinaryOperator) → (Tokens → Expr → Type 0) → Tokens → Step → Type 0
FStep f P = Image (λ z. step z.0 z.1) (Pair (Means f) P)

abbrev pub FProduct : Tokens → Expr → Type 0
FProduct = Placed (chain e.Chain) (Pair IsUnary (Many (FStep multiplies IsUnary)))

abbrev pub FSum : Tokens → Expr → Type 0
FSum = Placed (chain e.Chain) (Pair IsProduct (Many (FStep adds IsProduct)))

abbrev pub FShift : Tokens → Expr → Type 0
FShift = Placed (chain e.Chain) (Pair IsSum (Many (FStep shifts IsSum)))

abbrev pub FComparison : Tokens → Expr → Type 0
FComparison = Placed compared (Pair IsShift (Maybe (Pair (Means compares) IsShift)))

abbrev pub FBitAnd : Tokens → Expr → Type 0
FBitAnd = Placed (chain e.Chain) (Pair IsComparison (Many (FStep bit_and_operator IsComparison)))

abbrev pub FBitXor : Tokens → Expr → Type 0
FBitXor = Placed (chain e.Chain) (Pair IsBitAnd (Many (FStep bit_xor_operator IsBitAnd)))

abbrev pub FBitOr : Tokens → Expr → Type 0
FBitOr = Placed (chain e.Chain) (Pair IsBitXor (Many (FStep bit_or_operator IsBitXor)))

abbrev pub FAnd : Tokens → Expr → Type 0
FAnd = Placed (chain e.Chain) (Pair IsBitOr (Many (FStep and_operator IsBitOr)))

abbrev pub FOr : Tokens → Expr → Type 0
FOr = Placed (chain e.Chain) (Pair IsAnd (Many (FStep or_operator IsAnd)))

abbrev pub FConditionalEnd : Tokens → Expr × Expr → Type 0
FConditionalEnd = Image (λ z. (z.1.0, z.1.1.1)) (Pair (Marked k.Question) (Pair IsExpr (Pair (Marked k.Colon) IsConditional)))

abbrev pub FConditional : Tokens → Expr → Type 0
FConditional = Placed chosen (Pair IsOr (Maybe FConditionalEnd))

abbrev pub FExpr : Tokens → Expr → Type 0
FExpr = Placed assigned (Pair IsConditional (Maybe (Pair (Means assign_operator) IsExpr)))

append_nil : (ts : Tokens) → ts ++ [] ≡ ts
append_nil [] = refl
append_nil (u ∷ us) = ap (λ (ts : Tokens). u ∷ ts) (append_nil us)

factors_into : (ts : Tokens) (xs : List Step) → Many (FStep multiplies IsUnary) ts xs → AreFactors ts xs
factors_into ts [] eq = rw eq g.no_factors
factors_into ts (x ∷ xs) (left, right, parts, (z, p, eq), others) = rw (parts, p.parts, append_assoc, ← eq) (g.factor p.one p.two (factors_into right xs others))

factors_back : (ts : Tokens) (xs : List Step) → AreFactors ts xs → Many (FStep multiplies IsUnary) ts xs
factors_back ts xs g.no_factors = refl
factors_back ts xs (g.factor {w1 = w1} {w2 = w2} {w3 = w3} {o = o} {x = x} {ts = ss} m h c) = (w1 ++ w2, w3, sym (append_assoc w1 w2 w3), ((o, x), pair w1 w2 m h, refl), factors_back w3 ss c)

pub product_into : (ts : Tokens) (x : Expr) → FProduct ts x → IsProduct ts x
product_into ts x ((y, []), p, eq) = rw (← eq, p.parts, p.two, append_nil) (g.a_unary p.one)
product_into ts x ((y, t ∷ ss), p, eq) = rw (← eq, p.parts) (g.product p.one (factors_into p.right (t ∷ ss) p.two))

pub product_back : (ts : Tokens) (x : Expr) → IsProduct ts x → FProduct ts x
product_back ts x (g.a_unary h) = ((x, []), record { left = ts; right = []; parts = sym (append_nil ts); one = h; two = refl }, refl)
product_back ts x (g.product {w1 = w1} {w2 = w2} {x = y} {t = t} {ts = ss} h c) = ((y, t ∷ ss), pair w1 w2 h (factors_back w2 (t ∷ ss) c), refl)

terms_into : (ts : Tokens) (xs : List Step) → Many (FStep adds IsProduct) ts xs → AreTerms ts xs
terms_into ts [] eq = rw eq g.no_terms
terms_into ts (x ∷ xs) (left, right, parts, (z, p, eq), others) = rw (parts, p.parts, append_assoc, ← eq) (g.term p.one p.two (terms_into right xs others))

terms_back : (ts : Tokens) (xs : List Step) → AreTerms ts xs → Many (FStep adds IsProduct) ts xs
terms_back ts xs g.no_terms = refl
terms_back ts xs (g.term {w1 = w1} {w2 = w2} {w3 = w3} {o = o} {x = x} {ts = ss} m h c) = (w1 ++ w2, w3, sym (append_assoc w1 w2 w3), ((o, x), pair w1 w2 m h, refl), terms_back w3 ss c)

pub sum_into : (ts : Tokens) (x : Expr) → FSum ts x → IsSum ts x
sum_into ts x ((y, []), p, eq) = rw (← eq, p.parts, p.two, append_nil) (g.a_product p.one)
sum_into ts x ((y, t ∷ ss), p, eq) = rw (← eq, p.parts) (g.sum p.one (terms_into p.right (t ∷ ss) p.two))

pub sum_back : (ts : Tokens) (x : Expr) → IsSum ts x → FSum ts x
sum_back ts x (g.a_product h) = ((x, []), record { left = ts; right = []; parts = sym (append_nil ts); one = h; two = refl }, refl)
sum_back ts x (g.sum {w1 = w1} {w2 = w2} {x = y} {t = t} {ts = ss} h c) = ((y, t ∷ ss), pair w1 w2 h (terms_back w2 (t ∷ ss) c), refl)

shift_steps_into : (ts : Tokens) (xs : List Step) → Many (FStep shifts IsSum) ts xs → AreShiftSteps ts xs
shift_steps_into ts [] eq = rw eq g.no_shift_steps
shift_steps_into ts (x ∷ xs) (left, right, parts, (z, p, eq), others) = rw (parts, p.parts, append_assoc, ← eq) (g.shifted p.one p.two (shift_steps_into right xs others))

shift_steps_back : (ts : Tokens) (xs : List Step) → AreShiftSteps ts xs → Many (FStep shifts IsSum) ts xs
shift_steps_back ts xs g.no_shift_steps = refl
shift_steps_back ts xs (g.shifted {w1 = w1} {w2 = w2} {w3 = w3} {o = o} {x = x} {ts = ss} m h c) = (w1 ++ w2, w3, sym (append_assoc w1 w2 w3), ((o, x), pair w1 w2 m h, refl), shift_steps_back w3 ss c)

pub shift_into : (ts : Tokens) (x : Expr) → FShift ts x → IsShift ts x
shift_into ts x ((y, []), p, eq) = rw (← eq, p.parts, p.two, append_nil) (g.a_sum p.one)
shift_into ts x ((y, t ∷ ss), p, eq) = rw (← eq, p.parts) (g.shift p.one (shift_steps_into p.right (t ∷ ss) p.two))

pub shift_back : (ts : Tokens) (x : Expr) → IsShift ts x → FShift ts x
shift_back ts x (g.a_sum h) = ((x, []), record { left = ts; right = []; parts = sym (append_nil ts); one = h; two = refl }, refl)
shift_back ts x (g.shift {w1 = w1} {w2 = w2} {x = y} {t = t} {ts = ss} h c) = ((y, t ∷ ss), pair w1 w2 h (shift_steps_back w2 (t ∷ ss) c), refl)

bit_ands_into : (ts : Tokens) (xs : List Step) → Many (FStep bit_and_operator IsComparison) ts xs → AreBitAnds ts xs
bit_ands_into ts [] eq = rw eq g.no_bit_ands
bit_ands_into ts (x ∷ xs) (left, right, parts, (z, p, eq), others) = rw (parts, p.parts, append_assoc, ← eq) (g.bit_and_step p.one p.two (bit_ands_into right xs others))

bit_ands_back : (ts : Tokens) (xs : List Step) → AreBitAnds ts xs → Many (FStep bit_and_operator IsComparison) ts xs
bit_ands_back ts xs g.no_bit_ands = refl
bit_ands_back ts xs (g.bit_and_step {w1 = w1} {w2 = w2} {w3 = w3} {o = o} {x = x} {ts = ss} m h c) = (w1 ++ w2, w3, sym (append_assoc w1 w2 w3), ((o, x), pair w1 w2 m h, refl), bit_ands_back w3 ss c)

pub bit_and_into : (ts : Tokens) (x : Expr) → FBitAnd ts x → IsBitAnd ts x
bit_and_into ts x ((y, []), p, eq) = rw (← eq, p.parts, p.two, append_nil) (g.a_comparison p.one)
bit_and_into ts x ((y, t ∷ ss), p, eq) = rw (← eq, p.parts) (g.bit_and p.one (bit_ands_into p.right (t ∷ ss) p.two))

pub bit_and_back : (ts : Tokens) (x : Expr) → IsBitAnd ts x → FBitAnd ts x
bit_and_back ts x (g.a_comparison h) = ((x, []), record { left = ts; right = []; parts = sym (append_nil ts); one = h; two = refl }, refl)
bit_and_back ts x (g.bit_and {w1 = w1} {w2 = w2} {x = y} {t = t} {ts = ss} h c) = ((y, t ∷ ss), pair w1 w2 h (bit_ands_back w2 (t ∷ ss) c), refl)

bit_xors_into : (ts : Tokens) (xs : List Step) → Many (FStep bit_xor_operator IsBitAnd) ts xs → AreBitXors ts xs
bit_xors_into ts [] eq = rw eq g.no_bit_xors
bit_xors_into ts (x ∷ xs) (left, right, parts, (z, p, eq), others) = rw (parts, p.parts, append_assoc, ← eq) (g.bit_xor_step p.one p.two (bit_xors_into right xs others))

bit_xors_back : (ts : Tokens) (xs : List Step) → AreBitXors ts xs → Many (FStep bit_xor_operator IsBitAnd) ts xs
bit_xors_back ts xs g.no_bit_xors = refl
bit_xors_back ts xs (g.bit_xor_step {w1 = w1} {w2 = w2} {w3 = w3} {o = o} {x = x} {ts = ss} m h c) = (w1 ++ w2, w3, sym (append_assoc w1 w2 w3), ((o, x), pair w1 w2 m h, refl), bit_xors_back w3 ss c)

pub bit_xor_into : (ts : Tokens) (x : Expr) → FBitXor ts x → IsBitXor ts x
bit_xor_into ts x ((y, []), p, eq) = rw (← eq, p.parts, p.two, append_nil) (g.a_bit_and p.one)
bit_xor_into ts x ((y, t ∷ ss), p, eq) = rw (← eq, p.parts) (g.bit_xor p.one (bit_xors_into p.right (t ∷ ss) p.two))

pub bit_xor_back : (ts : Tokens) (x : Expr) → IsBitXor ts x → FBitXor ts x
bit_xor_back ts x (g.a_bit_and h) = ((x, []), record { left = ts; right = []; parts = sym (append_nil ts); one = h; two = refl }, refl)
bit_xor_back ts x (g.bit_xor {w1 = w1} {w2 = w2} {x = y} {t = t} {ts = ss} h c) = ((y, t ∷ ss), pair w1 w2 h (bit_xors_back w2 (t ∷ ss) c), refl)

bit_ors_into : (ts : Tokens) (xs : List Step) → Many (FStep bit_or_operator IsBitXor) ts xs → AreBitOrs ts xs
bit_ors_into ts [] eq = rw eq g.no_bit_ors
bit_ors_into ts (x ∷ xs) (left, right, parts, (z, p, eq), others) = rw (parts, p.parts, append_assoc, ← eq) (g.bit_or_step p.one p.two (bit_ors_into right xs others))

bit_ors_back : (ts : Tokens) (xs : List Step) → AreBitOrs ts xs → Many (FStep bit_or_operator IsBitXor) ts xs
bit_ors_back ts xs g.no_bit_ors = refl
bit_ors_back ts xs (g.bit_or_step {w1 = w1} {w2 = w2} {w3 = w3} {o = o} {x = x} {ts = ss} m h c) = (w1 ++ w2, w3, sym (append_assoc w1 w2 w3), ((o, x), pair w1 w2 m h, refl), bit_ors_back w3 ss c)

pub bit_or_into : (ts : Tokens) (x : Expr) → FBitOr ts x → IsBitOr ts x
bit_or_into ts x ((y, []), p, eq) = rw (← eq, p.parts, p.two, append_nil) (g.a_bit_xor p.one)
bit_or_into ts x ((y, t ∷ ss), p, eq) = rw (← eq, p.parts) (g.bit_or p.one (bit_ors_into p.right (t ∷ ss) p.two))

pub bit_or_back : (ts : Tokens) (x : Expr) → IsBitOr ts x → FBitOr ts x
bit_or_back ts x (g.a_bit_xor h) = ((x, []), record { left = ts; right = []; parts = sym (append_nil ts); one = h; two = refl }, refl)
bit_or_back ts x (g.bit_or {w1 = w1} {w2 = w2} {x = y} {t = t} {ts = ss} h c) = ((y, t ∷ ss), pair w1 w2 h (bit_ors_back w2 (t ∷ ss) c), refl)

ands_into : (ts : Tokens) (xs : List Step) → Many (FStep and_operator IsBitOr) ts xs → AreAnds ts xs
ands_into ts [] eq = rw eq g.no_ands
ands_into ts (x ∷ xs) (left, right, parts, (z, p, eq), others) = rw (parts, p.parts, append_assoc, ← eq) (g.and_step p.one p.two (ands_into right xs others))

ands_back : (ts : Tokens) (xs : List Step) → AreAnds ts xs → Many (FStep and_operator IsBitOr) ts xs
ands_back ts xs g.no_ands = refl
ands_back ts xs (g.and_step {w1 = w1} {w2 = w2} {w3 = w3} {o = o} {x = x} {ts = ss} m h c) = (w1 ++ w2, w3, sym (append_assoc w1 w2 w3), ((o, x), pair w1 w2 m h, refl), ands_back w3 ss c)

pub and_into : (ts : Tokens) (x : Expr) → FAnd ts x → IsAnd ts x
and_into ts x ((y, []), p, eq) = rw (← eq, p.parts, p.two, append_nil) (g.a_bit_or p.one)
and_into ts x ((y, t ∷ ss), p, eq) = rw (← eq, p.parts) (g.and p.one (ands_into p.right (t ∷ ss) p.two))

pub and_back : (ts : Tokens) (x : Expr) → IsAnd ts x → FAnd ts x
and_back ts x (g.a_bit_or h) = ((x, []), record { left = ts; right = []; parts = sym (append_nil ts); one = h; two = refl }, refl)
and_back ts x (g.and {w1 = w1} {w2 = w2} {x = y} {t = t} {ts = ss} h c) = ((y, t ∷ ss), pair w1 w2 h (ands_back w2 (t ∷ ss) c), refl)

ors_into : (ts : Tokens) (xs : List Step) → Many (FStep or_operator IsAnd) ts xs → AreOrs ts xs
ors_into ts [] eq = rw eq g.no_ors
ors_into ts (x ∷ xs) (left, right, parts, (z, p, eq), others) = rw (parts, p.parts, append_assoc, ← eq) (g.or_step p.one p.two (ors_into right xs others))

ors_back : (ts : Tokens) (xs : List Step) → AreOrs ts xs → Many (FStep or_operator IsAnd) ts xs
ors_back ts xs g.no_ors = refl
ors_back ts xs (g.or_step {w1 = w1} {w2 = w2} {w3 = w3} {o = o} {x = x} {ts = ss} m h c) = (w1 ++ w2, w3, sym (append_assoc w1 w2 w3), ((o, x), pair w1 w2 m h, refl), ors_back w3 ss c)

pub or_into : (ts : Tokens) (x : Expr) → FOr ts x → IsOr ts x
or_into ts x ((y, []), p, eq) = rw (← eq, p.parts, p.two, append_nil) (g.an_and p.one)
or_into ts x ((y, t ∷ ss), p, eq) = rw (← eq, p.parts) (g.or p.one (ors_into p.right (t ∷ ss) p.two))

pub or_back : (ts : Tokens) (x : Expr) → IsOr ts x → FOr ts x
or_back ts x (g.an_and h) = ((x, []), record { left = ts; right = []; parts = sym (append_nil ts); one = h; two = refl }, refl)
or_back ts x (g.or {w1 = w1} {w2 = w2} {x = y} {t = t} {ts = ss} h c) = ((y, t ∷ ss), pair w1 w2 h (ors_back w2 (t ∷ ss) c), refl)

pub comparison_into : (ts : Tokens) (x : Expr) → FComparison ts x → IsComparison ts x
comparison_into ts x ((y, None), p, eq) = rw (← eq, p.parts, p.two, append_nil) (g.a_shift p.one)
comparison_into ts x ((y, Some q), p, eq) = rw (← eq, p.parts, p.two.parts) (g.comparison p.one p.two.one p.two.two)

pub comparison_back : (ts : Tokens) (x : Expr) → IsComparison ts x → FComparison ts x
comparison_back ts x (g.a_shift h) = ((x, None), record { left = ts; right = []; parts = sym (append_nil ts); one = h; two = refl }, refl)
comparison_back ts x (g.comparison {w1 = w1} {w2 = w2} {w3 = w3} {x = y} {y = z} {o = o} h m c) = ((y, Some (o, z)), pair w1 (w2 ++ w3) h (pair w2 w3 m c), refl)

pub conditional_into : (ts : Tokens) (x : Expr) → FConditional ts x → IsConditional ts x
conditional_into ts x ((y, None), p, eq) = rw (← eq, p.parts, p.two, append_nil) (g.an_or p.one)
conditional_into ts x ((y, Some q), p, eq) =
    let r = p.two.1 in
    let same : expr (start_of ts) (e.Conditional y p.two.0.1.0 p.two.0.1.1.1) ≡ x = ap (λ (v : Expr × Expr). expr (start_of ts) (e.Conditional y v.0 v.1)) p.two.2 ∙ eq in
    rw (← same, p.parts, r.parts, r.two.parts, r.two.two.parts) (g.conditional p.one r.one r.two.one r.two.two.one r.two.two.two)

pub conditional_back : (ts : Tokens) (x : Expr) → IsConditional ts x → FConditional ts x
conditional_back ts x (g.an_or h) = ((x, None), record { left = ts; right = []; parts = sym (append_nil ts); one = h; two = refl }, refl)
conditional_back ts x (g.conditional {w1 = w1} {w2 = w2} {w3 = w3} {w4 = w4} {w5 = w5} {x = y} {y = y'} {z = z} h m c q f) =
    ((y, Some (y', z)), pair w1 (w2 ++ (w3 ++ (w4 ++ w5))) h ((tt, (y', (tt, z))), pair w2 (w3 ++ (w4 ++ w5)) m (pair w3 (w4 ++ w5) c (pair w4 w5 q f)), refl), refl)

pub expr_into : (ts : Tokens) (x : Expr) → FExpr ts x → IsExpr ts x
expr_into ts x ((y, None), p, eq) = rw (← eq, p.parts, p.two, append_nil) (g.a_conditional p.one)
expr_into ts x ((y, Some q), p, eq) = rw (← eq, p.parts, p.two.parts) (g.assign p.one p.two.one p.two.two)

pub expr_back : (ts : Tokens) (x : Expr) → IsExpr ts x → FExpr ts x
expr_back ts x (g.a_conditional h) = ((x, None), record { left = ts; right = []; parts = sym (append_nil ts); one = h; two = refl }, refl)
expr_back ts x (g.assign {w1 = w1} {w2 = w2} {w3 = w3} {x = y} {y = z} {o = o} h m c) = ((y, Some (o, z)), pair w1 (w2 ++ w3) h (pair w2 w3 m c), refl)

brackets_onto : (l : Tokens) (x : Bracket) (r : Tokens) (xs : List Bracket) → FBracket l x → AreBrackets r xs → AreBrackets (l ++ r) (x ∷ xs)
brackets_onto l x r xs ((u, (len, w)), p, eq) others = go p.left p.two.left p.two.right p.one p.two.one p.two.two (p.parts ∙ ap (λ (ts : Tokens). p.left ++ ts) p.two.parts)
  where
    go : (v1 v2 v3 : Tokens) → Mark k.LeftBracket v1 → FBracketLength v2 len → Mark k.RightBracket v3 → l ≡ v1 ++ (v2 ++ v3) → AreBrackets (l ++ r) (x ∷ xs)
    go v1 v2 v3 m1 (None, h, is) m3 parts = rw (parts, h, append_assoc, ← eq, ← is) (g.open_bracket m1 m3 others)
    go v1 v2 v3 m1 (Some y, h, is) m3 parts = rw (parts, append_assoc, append_assoc, ← eq, ← is) (g.fixed_bracket m1 h m3 others)

pub brackets_into : (ts : Tokens) (xs : List Bracket) → Many FBracket ts xs → AreBrackets ts xs
brackets_into ts [] eq = rw eq g.no_brackets
brackets_into ts (x ∷ xs) (l, r, parts, one, others) = rw parts (brackets_onto l x r xs one (brackets_into r xs others))

pub brackets_back : (ts : Tokens) (xs : List Bracket) → AreBrackets ts xs → Many FBracket ts xs
brackets_back ts xs g.no_brackets = refl
brackets_back ts xs (g.open_bracket {w1 = w1} {w2 = w2} {w3 = w3} {ts = ss} m1 m2 c) =
    (w1 ++ w2, w3, sym (append_assoc w1 w2 w3), ((tt, (d.Slice, tt)), pair w1 w2 m1 (pair [] w2 (None, refl, refl) m2), refl), brackets_back w3 ss c)
brackets_back ts xs (g.fixed_bracket {w1 = w1} {w2 = w2} {w3 = w3} {w4 = w4} {x = y} {ts = ss} m1 h m2 c) =
    (w1 ++ (w2 ++ w3), w4, rw (append_assoc, append_assoc) refl, ((tt, (d.Fixed y, tt)), pair w1 (w2 ++ w3) m1 (pair w2 w3 (Some y, h, refl) m2), refl), brackets_back w4 ss c)

pub plain_base_into : (ts : Tokens) (x : Base) → FPlainBase ts x → IsPlainBase ts x
plain_base_into ts x (inl (z, p, eq)) = rw (p.parts, p.two.parts, p.two.two.parts, ← eq) (g.type_of p.one p.two.one p.two.two.one p.two.two.two)
plain_base_into ts x (inr (inl (z, p, eq))) = rw (p.parts, p.two.parts, p.two.two.parts, ← eq) (g.immutable_char p.one p.two.one p.two.two.one p.two.two.two)
plain_base_into ts x (inr (inr (y, h, eq))) = rw (← eq) (g.basic h)

pub plain_base_back : (ts : Tokens) (x : Base) → IsPlainBase ts x → FPlainBase ts x
plain_base_back ts x (g.type_of {w1 = w1} {w2 = w2} {w3 = w3} {w4 = w4} {x = y} m1 m2 h m4) =
    inl ((tt, (tt, (y, tt))), pair w1 (w2 ++ (w3 ++ w4)) m1 (pair w2 (w3 ++ w4) m2 (pair w3 w4 h m4)), refl)
plain_base_back ts x (g.immutable_char {w1 = w1} {w2 = w2} {w3 = w3} {w4 = w4} m1 m2 m3 m4) =
    inr (inl ((tt, (tt, (tt, tt))), pair w1 (w2 ++ (w3 ++ w4)) m1 (pair w2 (w3 ++ w4) m2 (pair w3 w4 m3 m4)), refl))
plain_base_back ts x (g.basic {y = y} h) = inr (inr (y, h, refl))

pub type_into : (ts : Tokens) (x : TypeTree) → FType ts x → IsType ts x
type_into ts x (z, p, eq) = rw (← eq, p.parts) (g.type p.one (brackets_into p.right z.1 p.two))

pub type_back : (ts : Tokens) (x : TypeTree) → IsType ts x → FType ts x
type_back ts x (g.type {w1 = w1} {w2 = w2} {x = y} {ts = ss} h c) = ((y, ss), pair w1 w2 h (brackets_back w2 ss c), refl)

pub bare_type_into : (ts : Tokens) (x : TypeTree) → FBareType ts x → IsBareType ts x
bare_type_into ts x (y, h, eq) = rw (← eq) (g.bare h)

pub bare_type_back : (ts : Tokens) (x : TypeTree) → IsBareType ts x → FBareType ts x
bare_type_back ts x (g.bare {x = y} h) = (y, h, refl)

symbols_into : (ts : Tokens) (xs : List Symbol) → Many FAfterDot ts xs → MoreSymbols ts xs
symbols_into ts [] eq = rw eq g.end_symbols
symbols_into ts (x ∷ xs) (l, r, parts, (z, p, eq), others) = rw (parts, p.parts, append_assoc, ← eq) (g.more_symbols p.one p.two (symbols_into r xs others))

symbols_back : (ts : Tokens) (xs : List Symbol) → MoreSymbols ts xs → Many FAfterDot ts xs
symbols_back ts xs g.end_symbols = refl
symbols_back ts xs (g.more_symbols {w1 = w1} {w2 = w2} {w3 = w3} {y = y} {ys = ys} m h c) = (w1 ++ w2, w3, sym (append_assoc w1 w2 w3), ((tt, y), pair w1 w2 m h, refl), symbols_back w3 ys c)

pub base_into : (ts : Tokens) (x : Base) → FBase ts x → IsBase ts x
base_into ts x (inl (z, p, eq)) = rw (p.parts, ← eq) (g.named p.one (symbols_into p.right z.1 p.two))
base_into ts x (inr h) = g.plain h

pub base_back : (ts : Tokens) (x : Base) → IsBase ts x → FBase ts x
base_back ts x (g.named {w1 = w1} {w2 = w2} {y = y} {ys = ys} h c) = inl ((y, ys), pair w1 w2 h (symbols_back w2 ys c), refl)
base_back ts x (g.plain h) = inr h

pub symbol_into : (ts : Tokens) (x : Symbol) → FSymbol ts x → IsSymbol ts x
symbol_into ts x ((n, None), p, eq) = rw (p.parts, p.two, append_nil, ← eq) (g.plain_name p.one)
symbol_into ts x ((n, Some xs), p, eq) =
    let q = p.two.1 in
    let same : symbol n (Some p.two.0.1) ≡ x = ap (λ (v : List Argument). symbol n (Some v)) p.two.2 ∙ eq in
    rw (p.parts, q.parts, ← same) (g.instance p.one q.one q.two)

pub symbol_back : (ts : Tokens) (x : Symbol) → IsSymbol ts x → FSymbol ts x
symbol_back ts x (g.plain_name {n = n} h) = ((n, None), record { left = ts; right = []; parts = sym (append_nil ts); one = h; two = refl }, refl)
symbol_back ts x (g.instance {w1 = w1} {w2 = w2} {w3 = w3} {n = n} {xs = xs} h m c) = ((n, Some xs), pair w1 (w2 ++ w3) h ((tt, xs), pair w2 w3 m c, refl), refl)

next_names_into : (ts : Tokens) (xs : List Name) → Many (FNext Id) ts xs → MoreNames ts xs
next_names_into ts [] eq = rw eq g.end_names
next_names_into ts (x ∷ xs) (l, r, parts, (z, p, eq), others) = rw (parts, p.parts, append_assoc, ← eq) (g.more_names p.one p.two (next_names_into r xs others))

next_names_back : (ts : Tokens) (xs : List Name) → MoreNames ts xs → Many (FNext Id) ts xs
next_names_back ts xs g.end_names = refl
next_names_back ts xs (g.more_names {w1 = w1} {w2 = w2} {w3 = w3} {n = y} {ns = ys} m h c) = (w1 ++ w2, w3, sym (append_assoc w1 w2 w3), ((tt, y), pair w1 w2 m h, refl), next_names_back w3 ys c)

next_exprs_into : (ts : Tokens) (xs : List Expr) → Many (FNext IsExpr) ts xs → MoreExprs ts xs
next_exprs_into ts [] eq = rw eq g.end_exprs
next_exprs_into ts (x ∷ xs) (l, r, parts, (z, p, eq), others) = rw (parts, p.parts, append_assoc, ← eq) (g.more_exprs p.one p.two (next_exprs_into r xs others))

next_exprs_back : (ts : Tokens) (xs : List Expr) → MoreExprs ts xs → Many (FNext IsExpr) ts xs
next_exprs_back ts xs g.end_exprs = refl
next_exprs_back ts xs (g.more_exprs {w1 = w1} {w2 = w2} {w3 = w3} {x = y} {xs = ys} m h c) = (w1 ++ w2, w3, sym (append_assoc w1 w2 w3), ((tt, y), pair w1 w2 m h, refl), next_exprs_back w3 ys c)

next_arguments_into : (ts : Tokens) (xs : List Argument) → Many (FNext IsArgument) ts xs → MoreArguments ts xs
next_arguments_into ts [] eq = rw eq g.end_arguments
next_arguments_into ts (x ∷ xs) (l, r, parts, (z, p, eq), others) = rw (parts, p.parts, append_assoc, ← eq) (g.more_arguments p.one p.two (next_arguments_into r xs others))

next_arguments_back : (ts : Tokens) (xs : List Argument) → MoreArguments ts xs → Many (FNext IsArgument) ts xs
next_arguments_back ts xs g.end_arguments = refl
next_arguments_back ts xs (g.more_arguments {w1 = w1} {w2 = w2} {w3 = w3} {x = y} {xs = ys} m h c) = (w1 ++ w2, w3, sym (append_assoc w1 w2 w3), ((tt, y), pair w1 w2 m h, refl), next_arguments_back w3 ys c)

exprs_into : (ts : Tokens) (xs : List Expr) → FSome IsExpr ts xs → AreExprs ts xs
exprs_into ts xs (None, h, eq) = rw (h, ← eq) g.no_exprs
exprs_into ts xs (Some ys, (z, p, is), eq) = rw (p.parts, ← eq, ← is) (g.exprs p.one (next_exprs_into p.right z.1 p.two))

exprs_back : (ts : Tokens) (xs : List Expr) → AreExprs ts xs → FSome IsExpr ts xs
exprs_back ts xs g.no_exprs = (None, refl, refl)
exprs_back ts xs (g.exprs {w1 = w1} {w2 = w2} {x = y} {xs = ys} h c) = (Some (y ∷ ys), ((y, ys), pair w1 w2 h (next_exprs_back w2 ys c), refl), refl)

arguments_into : (ts : Tokens) (xs : List Argument) → FSome IsArgument ts xs → AreArguments ts xs
arguments_into ts xs (None, h, eq) = rw (h, ← eq) g.no_arguments
arguments_into ts xs (Some ys, (z, p, is), eq) = rw (p.parts, ← eq, ← is) (g.arguments p.one (next_arguments_into p.right z.1 p.two))

arguments_back : (ts : Tokens) (xs : List Argument) → AreArguments ts xs → FSome IsArgument ts xs
arguments_back ts xs g.no_arguments = (None, refl, refl)
arguments_back ts xs (g.arguments {w1 = w1} {w2 = w2} {x = y} {xs = ys} h c) = (Some (y ∷ ys), ((y, ys), pair w1 w2 h (next_arguments_back w2 ys c), refl), refl)

list_of_arguments : (ts : Tokens) (ys : List Argument) (x : Argument) (xs : List Argument) → AreArguments ts ys → ys ≡ x ∷ xs → FList IsArgument ts ys
list_of_arguments ts ys x xs g.no_arguments eq = absurd cc
list_of_arguments ts ys x xs (g.arguments {w1 = w1} {w2 = w2} {x = y} {xs = zs} h c) eq = ((y, zs), pair w1 w2 h (next_arguments_back w2 zs c), refl)

pub single_into : (ts : Tokens) (x : ExprKind) → FSingle ts x → IsSingle ts x
single_into ts x (inl (n, h, eq)) = rw (← eq) (g.one_name h)
single_into ts x (inr (inl (n, h, eq))) = rw (← eq) (g.one_integer h)
single_into ts x (inr (inr (inl (n, h, eq)))) = rw (← eq) (g.one_string h)
single_into ts x (inr (inr (inr (n, h, eq)))) = rw (← eq) (g.one_character h)

pub single_back : (ts : Tokens) (x : ExprKind) → IsSingle ts x → FSingle ts x
single_back ts x (g.one_name {n = n} h) = inl (n, h, refl)
single_back ts x (g.one_integer {n = n} h) = inr (inl (n, h, refl))
single_back ts x (g.one_string {n = n} h) = inr (inr (inl (n, h, refl)))
single_back ts x (g.one_character {n = n} h) = inr (inr (inr (n, h, refl)))

pub template_arguments_into : (ts : Tokens) (xs : List Argument) → FTemplateArguments ts xs → AreTemplateArguments ts xs
template_arguments_into ts xs (inl (z, p, eq)) = rw (p.parts, p.two.parts, ← eq) (g.in_parens p.one (arguments_into p.two.left z.1.0 p.two.one) p.two.two)
template_arguments_into ts xs (inr (inl (x, h, eq))) = rw (← eq) (g.one_value h)
template_arguments_into ts xs (inr (inr (y, h, eq))) = rw (← eq) (g.one_basic h)

pub template_arguments_back : (ts : Tokens) (xs : List Argument) → AreTemplateArguments ts xs → FTemplateArguments ts xs
template_arguments_back ts xs (g.in_parens {w1 = w1} {w2 = w2} {w3 = w3} m1 h m3) = inl ((tt, (xs, tt)), pair w1 (w2 ++ w3) m1 (pair w2 w3 (arguments_back w2 xs h) m3), refl)
template_arguments_back ts xs (g.one_value {x = x} h) = inr (inl (x, h, refl))
template_arguments_back ts xs (g.one_basic {y = y} h) = inr (inr (y, h, refl))

pub against_into : (ts : Tokens) (x : IsAgainst) → FAgainst ts x → IsAgainstWhat ts x
against_into ts x (inl (u, m, eq)) = rw (← eq) (g.against_struct m)
against_into ts x (inr (t, h, eq)) = rw (← eq) (g.against_type h)

pub against_back : (ts : Tokens) (x : IsAgainst) → IsAgainstWhat ts x → FAgainst ts x
against_back ts x (g.against_struct m) = inl (tt, m, refl)
against_back ts x (g.against_type {t = t} h) = inr (t, h, refl)

pub is_test_into : (ts : Tokens) (x : IsTest) → FIsTest ts x → IsIsTest ts x
is_test_into ts x (z, p, eq) = rw (p.parts, p.two.parts, ← eq) (g.test p.one p.two.one (next_names_into p.two.right z.1.1 p.two.two))

pub is_test_back : (ts : Tokens) (x : IsTest) → IsIsTest ts x → FIsTest ts x
is_test_back ts x (g.test {w1 = w1} {w2 = w2} {w3 = w3} {r = r} {y = y} {ns = ns} m h c) = ((r, (y, ns)), pair w1 (w2 ++ w3) m (pair w2 w3 h (next_names_back w3 ns c)), refl)

pub is_tree_into : (ts : Tokens) (x : IsTree) → FIsTree ts x → IsIsTree ts x
is_tree_into ts x ((t, None), p, eq) = rw (p.parts, p.two, append_nil, ← eq) (g.is_type p.one)
is_tree_into ts x ((t, Some y), p, eq) = rw (p.parts, ← eq) (g.is_tested p.one p.two)

pub is_tree_back : (ts : Tokens) (x : IsTree) → IsIsTree ts x → FIsTree ts x
is_tree_back ts x (g.is_type {t = t} h) = ((t, None), record { left = ts; right = []; parts = sym (append_nil ts); one = h; two = refl }, refl)
is_tree_back ts x (g.is_tested {w1 = w1} {w2 = w2} {t = t} {y = y} h c) = ((t, Some y), pair w1 w2 h c, refl)

assert_into : (ts : Tokens) (x : ExprKind) → FAssert ts x → IsPrimary ts x
assert_into ts x ((u1, (u2, (y, (None, u3)))), p, eq) = rw (← eq, p.parts, p.two.parts, p.two.two.parts, p.two.two.two.parts, p.two.two.two.one) (g.assert p.one p.two.one p.two.two.one p.two.two.two.two)
assert_into ts x ((u1, (u2, (y, (Some w, u3)))), p, eq) =
    let q = p.two.two.two.one in
    let r = q.1 in
    let same : e.Assert y (Some q.0.1) ≡ x = ap (λ (v : Expr). e.Assert y (Some v)) q.2 ∙ eq in
    rw (← same, p.parts, p.two.parts, p.two.two.parts, p.two.two.two.parts, r.parts, append_assoc) (g.assert_with p.one p.two.one p.two.two.one r.one r.two p.two.two.two.two)

traits_into : (ts : Tokens) (x : ExprKind) → FTraits ts x → IsPrimary ts x
traits_into ts x (z, p, eq) =
    let s3 = p.two.two.two.two in
    let q = s3.one in
    let r = q.1 in
    let same : e.Traits z.1.1.0 (q.0.0 ∷ q.0.1) ≡ x = ap (λ (v : List Argument). e.Traits z.1.1.0 v) q.2 ∙ eq in
    rw (← same, p.parts, p.two.parts, p.two.two.parts, p.two.two.two.parts, s3.parts, r.parts) (g.traits p.one p.two.one p.two.two.one p.two.two.two.one (g.arguments r.one (next_arguments_into r.right q.0.1 r.two)) s3.two)

pub primary_into : (ts : Tokens) (x : ExprKind) → FPrimary ts x → IsPrimary ts x
primary_into ts x (inl (n, h, eq)) = rw (← eq) (g.integer h)
primary_into ts x (inr (inl (n, h, eq))) = rw (← eq) (g.string h)
primary_into ts x (inr (inr (inl (n, h, eq)))) = rw (← eq) (g.character h)
primary_into ts x (inr (inr (inr (inl (n, h, eq))))) = rw (← eq) (g.null h)
primary_into ts x (inr (inr (inr (inr (inl (n, h, eq)))))) = rw (← eq) (g.true_word h)
primary_into ts x (inr (inr (inr (inr (inr (inl (n, h, eq))))))) = rw (← eq) (g.false_word h)
primary_into ts x (inr (inr (inr (inr (inr (inr (inl (n, h, eq)))))))) = rw (← eq) (g.this h)
primary_into ts x (inr (inr (inr (inr (inr (inr (inr (inl (n, h, eq))))))))) = rw (← eq) (g.dollar h)
primary_into ts x (inr (inr (inr (inr (inr (inr (inr (inr (inl (n, h, eq)))))))))) = rw (← eq) (g.symbol_expr h)
primary_into ts x (inr (inr (inr (inr (inr (inr (inr (inr (inr (inl (z, p, eq))))))))))) = rw (p.parts, p.two.parts, ← eq) (g.paren p.one p.two.one p.two.two)
primary_into ts x (inr (inr (inr (inr (inr (inr (inr (inr (inr (inr (inl (z, p, eq)))))))))))) = rw (p.parts, p.two.parts, ← eq) (g.array p.one (exprs_into p.two.left z.1.0 p.two.one) p.two.two)
primary_into ts x (inr (inr (inr (inr (inr (inr (inr (inr (inr (inr (inr (inl (z, p, eq))))))))))))) = rw (p.parts, p.two.parts, p.two.two.parts, p.two.two.two.parts, p.two.two.two.two.parts, ← eq) (g.type_of_property p.one p.two.one p.two.two.one p.two.two.two.one p.two.two.two.two.one p.two.two.two.two.two)
primary_into ts x (inr (inr (inr (inr (inr (inr (inr (inr (inr (inr (inr (inr (inl (z, p, eq)))))))))))))) = rw (p.parts, p.two.parts, p.two.two.parts, ← eq) (g.mixin p.one p.two.one p.two.two.one p.two.two.two)
primary_into ts x (inr (inr (inr (inr (inr (inr (inr (inr (inr (inr (inr (inr (inr (inl (z, p, eq))))))))))))))) = rw (p.parts, p.two.parts, p.two.two.parts, ← eq) (g.is_expr p.one p.two.one p.two.two.one p.two.two.two)
primary_into ts x (inr (inr (inr (inr (inr (inr (inr (inr (inr (inr (inr (inr (inr (inr (inl h))))))))))))))) = traits_into ts x h
primary_into ts x (inr (inr (inr (inr (inr (inr (inr (inr (inr (inr (inr (inr (inr (inr (inr (inl h)))))))))))))))) = assert_into ts x h
primary_into ts x (inr (inr (inr (inr (inr (inr (inr (inr (inr (inr (inr (inr (inr (inr (inr (inr (z, p, eq))))))))))))))))) = rw (p.parts, p.two.parts, ← eq) (g.property p.one p.two.one p.two.two)

pub primary_back : (ts : Tokens) (x : ExprKind) → IsPrimary ts x → FPrimary ts x
primary_back ts x (g.integer {n = n} h) = inl (n, h, refl)
primary_back ts x (g.string {n = n} h) = inr (inl (n, h, refl))
primary_back ts x (g.character {n = n} h) = inr (inr (inl (n, h, refl)))
primary_back ts x (g.null h) = inr (inr (inr (inl (tt, h, refl))))
primary_back ts x (g.true_word h) = inr (inr (inr (inr (inl (tt, h, refl)))))
primary_back ts x (g.false_word h) = inr (inr (inr (inr (inr (inl (tt, h, refl))))))
primary_back ts x (g.this h) = inr (inr (inr (inr (inr (inr (inl (tt, h, refl)))))))
primary_back ts x (g.dollar h) = inr (inr (inr (inr (inr (inr (inr (inl (tt, h, refl))))))))
primary_back ts x (g.symbol_expr {y = n} h) = inr (inr (inr (inr (inr (inr (inr (inr (inl (n, h, refl)))))))))
primary_back ts x (g.paren {w1 = w1} {w2 = w2} {w3 = w3} {x = y} m1 h m3) = inr (inr (inr (inr (inr (inr (inr (inr (inr (inl ((tt, (y, tt)), (pair w1 (w2 ++ (w3)) m1 (pair w2 w3 h m3)), refl))))))))))
primary_back ts x (g.array {w1 = w1} {w2 = w2} {w3 = w3} {xs = ys} m1 h m3) = inr (inr (inr (inr (inr (inr (inr (inr (inr (inr (inl ((tt, (ys, tt)), (pair w1 (w2 ++ (w3)) m1 (pair w2 w3 (exprs_back w2 ys h) m3)), refl)))))))))))
primary_back ts x (g.type_of_property {w1 = w1} {w2 = w2} {w3 = w3} {w4 = w4} {w5 = w5} {w6 = w6} {x = y} {n = n} m1 m2 h m4 m5 i) = inr (inr (inr (inr (inr (inr (inr (inr (inr (inr (inr (inl ((tt, (tt, (y, (tt, (tt, n))))), (pair w1 (w2 ++ (w3 ++ (w4 ++ (w5 ++ (w6))))) m1 (pair w2 (w3 ++ (w4 ++ (w5 ++ (w6)))) m2 (pair w3 (w4 ++ (w5 ++ (w6))) h (pair w4 (w5 ++ (w6)) m4 (pair w5 w6 m5 i))))), refl))))))))))))
primary_back ts x (g.mixin {w1 = w1} {w2 = w2} {w3 = w3} {w4 = w4} {x = y} m1 m2 h m4) = inr (inr (inr (inr (inr (inr (inr (inr (inr (inr (inr (inr (inl ((tt, (tt, (y, tt))), (pair w1 (w2 ++ (w3 ++ (w4))) m1 (pair w2 (w3 ++ (w4)) m2 (pair w3 w4 h m4))), refl)))))))))))))
primary_back ts x (g.is_expr {w1 = w1} {w2 = w2} {w3 = w3} {w4 = w4} {y = y} m1 m2 h m4) = inr (inr (inr (inr (inr (inr (inr (inr (inr (inr (inr (inr (inr (inl ((tt, (tt, (y, tt))), (pair w1 (w2 ++ (w3 ++ (w4))) m1 (pair w2 (w3 ++ (w4)) m2 (pair w3 w4 h m4))), refl))))))))))))))
primary_back ts x (g.traits {w1 = w1} {w2 = w2} {w3 = w3} {w4 = w4} {w5 = w5} {w6 = w6} {n = n} {x = y} {xs = ys} m1 m2 i m4 h m6) = inr (inr (inr (inr (inr (inr (inr (inr (inr (inr (inr (inr (inr (inr (inl ((tt, (tt, (n, (tt, (y ∷ ys, tt))))), (pair w1 (w2 ++ (w3 ++ (w4 ++ (w5 ++ (w6))))) m1 (pair w2 (w3 ++ (w4 ++ (w5 ++ (w6)))) m2 (pair w3 (w4 ++ (w5 ++ (w6))) i (pair w4 (w5 ++ (w6)) m4 (pair w5 w6 (list_of_arguments w5 (y ∷ ys) y ys h refl) m6))))), refl)))))))))))))))
primary_back ts x (g.assert {w1 = w1} {w2 = w2} {w3 = w3} {w4 = w4} {x = y} m1 m2 h m4) = inr (inr (inr (inr (inr (inr (inr (inr (inr (inr (inr (inr (inr (inr (inr (inl ((tt, (tt, (y, (None, tt)))), pair w1 (w2 ++ (w3 ++ w4)) m1 (pair w2 (w3 ++ w4) m2 (pair w3 w4 h (pair [] w4 refl m4))), refl))))))))))))))))
primary_back ts x (g.assert_with {w1 = w1} {w2 = w2} {w3 = w3} {w4 = w4} {w5 = w5} {w6 = w6} {x = y} {y = z} m1 m2 h m4 c m6) =
    inr (inr (inr (inr (inr (inr (inr (inr (inr (inr (inr (inr (inr (inr (inr (inl ((tt, (tt, (y, (Some z, tt)))), pair w1 (w2 ++ (w3 ++ (w4 ++ (w5 ++ w6)))) m1 (pair w2 (w3 ++ (w4 ++ (w5 ++ w6))) m2 (pair w3 (w4 ++ (w5 ++ w6)) h (record { left = w4 ++ w5; right = w6; parts = sym (append_assoc w4 w5 w6); one = ((tt, z), pair w4 w5 m4 c, refl); two = m6 }))), refl))))))))))))))))
primary_back ts x (g.property {w1 = w1} {w2 = w2} {w3 = w3} {y = y} {n = n} m m2 i) = inr (inr (inr (inr (inr (inr (inr (inr (inr (inr (inr (inr (inr (inr (inr (inr ((y, (tt, n)), (pair w1 (w2 ++ (w3)) m (pair w2 w3 m2 i)), refl))))))))))))))))

pub operand_into : (ts : Tokens) (x : Expr) → FOperand ts x → IsOperand ts x
operand_into ts x (y, h, eq) = rw (← eq) (g.operand h)

pub operand_back : (ts : Tokens) (x : Expr) → IsOperand ts x → FOperand ts x
operand_back ts x (g.operand {x = y} h) = (y, h, refl)

inside_into : (l m r : Tokens) (x : Suffix) → Mark k.LeftBracket l → FInside m x → Mark k.RightBracket r → IsSuffix (l ++ (m ++ r)) x
inside_into l m r x sl (None, h, eq) sr = rw (h, ← eq) (g.all sl sr)
inside_into l m r x sl (Some (y, None), h, eq) sr = rw (h.parts, h.two, append_nil, ← eq) (g.index sl h.one sr)
inside_into l m r x sl (Some (y, Some z), h, eq) sr =
    let q = h.two.1 in
    let same : s.Slice y h.two.0.1 ≡ x = ap (λ (v : Expr). s.Slice y v) h.two.2 ∙ eq in
    rw (h.parts, q.parts, append_assoc, append_assoc, ← same) (g.slice sl h.one q.one q.two sr)

pub suffix_into : (ts : Tokens) (x : Suffix) → FSuffix ts x → IsSuffix ts x
suffix_into ts x (inl (z, p, eq)) = rw (p.parts, ← eq) (g.member p.one p.two)
suffix_into ts x (inr (inl (z, p, eq))) = rw (p.parts, p.two.parts, ← eq) (g.call p.one (exprs_into p.two.left z.1.0 p.two.one) p.two.two)
suffix_into ts x (inr (inr (inl (z, p, eq)))) = rw (p.parts, p.two.parts, ← eq) (inside_into p.left p.two.left p.two.right z.1.0 p.one p.two.one p.two.two)
suffix_into ts x (inr (inr (inr (inl (u, m, eq))))) = rw (← eq) (g.increment m)
suffix_into ts x (inr (inr (inr (inr (u, m, eq))))) = rw (← eq) (g.decrement m)

pub suffix_back : (ts : Tokens) (x : Suffix) → IsSuffix ts x → FSuffix ts x
suffix_back ts x (g.member {w1 = w1} {w2 = w2} {y = y} m h) = inl ((tt, y), pair w1 w2 m h, refl)
suffix_back ts x (g.call {w1 = w1} {w2 = w2} {w3 = w3} {xs = xs} m1 h m3) = inr (inl ((tt, (xs, tt)), pair w1 (w2 ++ w3) m1 (pair w2 w3 (exprs_back w2 xs h) m3), refl))
suffix_back ts x (g.all {w1 = w1} {w2 = w2} m1 m2) = inr (inr (inl ((tt, (s.All, tt)), pair w1 w2 m1 (pair [] w2 (None, refl, refl) m2), refl)))
suffix_back ts x (g.index {w1 = w1} {w2 = w2} {w3 = w3} {x = y} m1 h m3) =
    inr (inr (inl ((tt, (s.Index y, tt)), pair w1 (w2 ++ w3) m1 (pair w2 w3 (Some (y, None), record { left = w2; right = []; parts = sym (append_nil w2); one = h; two = refl }, refl) m3), refl)))
suffix_back ts x (g.slice {w1 = w1} {w2 = w2} {w3 = w3} {w4 = w4} {w5 = w5} {x = y} {y = z} m1 h q f m5) =
    inr (inr (inl ((tt, (s.Slice y z, tt)), record { left = w1; right = (w2 ++ (w3 ++ w4)) ++ w5; parts = rw (append_assoc, append_assoc) refl; one = m1; two = pair (w2 ++ (w3 ++ w4)) w5 (Some (y, Some z), pair w2 (w3 ++ w4) h ((tt, z), pair w3 w4 q f, refl), refl) m5 }, refl)))
suffix_back ts x (g.increment m) = inr (inr (inr (inl (tt, m, refl))))
suffix_back ts x (g.decrement m) = inr (inr (inr (inr (tt, m, refl))))

suffixes_into : (ts : Tokens) (xs : List Suffix) → Many IsSuffix ts xs → AreSuffixes ts xs
suffixes_into ts [] eq = rw eq g.no_suffixes
suffixes_into ts (x ∷ xs) (l, r, parts, one, others) = rw parts (g.suffixes one (suffixes_into r xs others))

suffixes_back : (ts : Tokens) (xs : List Suffix) → AreSuffixes ts xs → Many IsSuffix ts xs
suffixes_back ts xs g.no_suffixes = refl
suffixes_back ts xs (g.suffixes {w1 = w1} {w2 = w2} {ts = ss} h c) = (w1, w2, refl, h, suffixes_back w2 ss c)

-- ---- behind a `new`: `[]`s, the length and what follows, against suffixes of which one is the length

slice_suffix : (w : Tokens) (x : Suffix) → FSlice w x → IsSuffix w x
slice_suffix w x (z, p, eq) = rw (p.parts, ← eq) (g.all p.one p.two)

one_expr : (w : Tokens) (x : Expr) → IsExpr w x → AreExprs w (x ∷ [])
one_expr w x h = subst (λ (v : Tokens). AreExprs v (x ∷ [])) (append_nil w) (g.exprs h g.end_exprs)

length_suffix : (w : Tokens) (x : Suffix) → FLength w x → IsSuffix w x
length_suffix w x (inl (z, p, eq)) = rw (p.parts, p.two.parts, ← eq) (g.index p.one p.two.one p.two.two)
length_suffix w x (inr (z, p, eq)) = rw (p.parts, p.two.parts, ← eq) (g.call p.one (one_expr p.two.left z.1.0 p.two.one) p.two.two)

slices_suffixes : (w v : Tokens) (ss us : List Suffix) → Many FSlice w ss → AreSuffixes v us → AreSuffixes (w ++ v) (ss ++ us)
slices_suffixes w v [] us eq c = rw eq c
slices_suffixes w v (x ∷ ss) us (l, r, parts, one, others) c = rw (parts, append_assoc l r v) (g.suffixes (slice_suffix l x one) (slices_suffixes r v ss us others c))

abbrev Makes : List Suffix → Type 0
Makes us = (y : NewArray) × (new_array us ≡ Some y)

abbrev new_at : Form → List Suffix → Option NewArray
new_at f us = first_of (called_at f us (called us)) (counted_at f us (counted us))

at_form : (f : Form) (us : List Suffix) → new_array (roll-Suffix f ∷ us) ≡ new_at f us
unfolding new_array
at_form f us = ap (λ (g : Form). new_at g us) (out-roll-Suffix f)

index_makes : (n : Expr) (us : List Suffix) → Makes (s.Index n ∷ us)
unfolding roll-Suffix denote.Hole.Carrier.roll new_array
index_makes n us = let m = go (called us) in (m.0, at_form (Suffix-F.Index n) us ∙ m.1)
  where
    go : (r : Option NewArray) → (y : NewArray) × (first_of (with_bracket (d.Fixed n) r) (Some (record { brackets = d.Slice ∷ []; count = n; behind = us })) ≡ Some y)
    go (Some r) = (_, refl)
    go None = (_, refl)

call_makes : (n : Expr) (us : List Suffix) → Makes (s.Call (n ∷ []) ∷ us)
unfolding roll-Suffix denote.Hole.Carrier.roll new_array
call_makes n us = (record { brackets = []; count = n; behind = us }, at_form (Suffix-F.Call (n ∷ [])) us)

length_makes : (w : Tokens) (x : Suffix) (us : List Suffix) → FLength w x → Makes (x ∷ us)
length_makes w x us (inl (z, p, eq)) = rw (← eq) (index_makes z.1.0 us)
length_makes w x us (inr (z, p, eq)) = rw (← eq) (call_makes z.1.0 us)

slice_makes : (us : List Suffix) → Makes us → Makes (s.All ∷ us)
unfolding roll-Suffix denote.Hole.Carrier.roll new_array
slice_makes us m = let more = go (called us) (counted us) m.0 m.1 in (more.0, at_form Suffix-F.All us ∙ more.1)
  where
    go : (a b : Option NewArray) (y : NewArray) → first_of a b ≡ Some y → (y' : NewArray) × (first_of (with_bracket d.Slice a) (with_bracket d.Slice b) ≡ Some y')
    go (Some a) b y e = (_, refl)
    go None (Some b) y e = (_, refl)
    go None None y e = absurd cc

slices_make : (w : Tokens) (ss us : List Suffix) → Many FSlice w ss → Makes us → Makes (ss ++ us)
slices_make w [] us eq m = m
slices_make w (x ∷ ss) us (l, r, parts, (z, p, eq), others) m = rw (← eq) (slice_makes (ss ++ us) (slices_make r ss us others m))

new_into : (ts : Tokens) (x : Expr) → FNew ts x → IsPostfix ts x
new_into ts x (z, p, eq) =
    let n = p.two.two in
    let q = n.1 in
    let same : expr (start_of ts) (e.New z.1.0 (n.0.0 ++ n.0.1.0 ∷ n.0.1.1)) ≡ x = ap (λ (v : List Suffix). expr (start_of ts) (e.New z.1.0 v)) n.2 ∙ eq in
    let after = g.suffixes (length_suffix q.two.left n.0.1.0 q.two.one) (suffixes_into q.two.right n.0.1.1 q.two.two) in
    let all = slices_suffixes q.left (q.two.left ++ q.two.right) n.0.0 (n.0.1.0 ∷ n.0.1.1) q.one after in
    let made = slices_make q.left n.0.0 (n.0.1.0 ∷ n.0.1.1) q.one (length_makes q.two.left n.0.1.0 n.0.1.1 q.two.one) in
    rw (← same, p.parts, p.two.parts, q.parts, q.two.parts) (g.new p.one p.two.one all made.1)

on_slice : (v1 v2 w : Tokens) (us : List Suffix) → Mark k.LeftBracket v1 → Mark k.RightBracket v2 → FNewParts w us → FNewParts ((v1 ++ v2) ++ w) (s.All ∷ us)
on_slice v1 v2 w us m1 m2 (n, q, eq) = (
  (s.All ∷ n.0, n.1),
  record {
    left = (v1 ++ v2) ++ q.left;
    right = q.right;
    parts = ap (λ (t : Tokens). (v1 ++ v2) ++ t) q.parts ∙ sym (append_assoc (v1 ++ v2) q.left q.right);
    one = (v1 ++ v2, q.left, refl, ((tt, tt), pair v1 v2 m1 m2, refl), q.one);
    two = q.two;
  },
  ap (λ (t : List Suffix). s.All ∷ t) eq,
)

at_length : (w v : Tokens) (l : Suffix) (us : List Suffix) → FLength w l → AreSuffixes v us → FNewParts (w ++ v) (l ∷ us)
at_length w v l us h c = (([], (l, us)), record { left = []; right = w ++ v; parts = refl; one = refl; two = pair w v h (suffixes_back v us c) }, refl)

more_makes : (us : List Suffix) → Makes (s.All ∷ us) → Makes us
unfolding roll-Suffix denote.Hole.Carrier.roll new_array
more_makes us m = go (called us) (counted us) m.0 (sym (at_form Suffix-F.All us) ∙ m.1)
  where
    go : (a b : Option NewArray) (y : NewArray) → first_of (with_bracket d.Slice a) (with_bracket d.Slice b) ≡ Some y → (y' : NewArray) × (first_of a b ≡ Some y')
    go (Some a) b y e = (_, refl)
    go None (Some b) y e = (_, refl)
    go None None y e = absurd cc

makes_none : (f : Form) (us : List Suffix) → new_at f us ≡ None → Makes (roll-Suffix f ∷ us) → ⊥
makes_none f us none m = let e : None ≡ Some m.0 = sym none ∙ sym (at_form f us) ∙ m.1 in cc

call_back : (v1 v2 v3 w : Tokens) (xs : List Expr) (us : List Suffix) → Mark k.LeftParen v1 → AreExprs v2 xs → Mark k.RightParen v3 → AreSuffixes w us → Makes (s.Call xs ∷ us) → FNewParts ((v1 ++ (v2 ++ v3)) ++ w) (s.Call xs ∷ us)
unfolding roll-Suffix denote.Hole.Carrier.roll
call_back v1 v2 v3 w xs us m1 g.no_exprs m3 c m = absurd (makes_none (Suffix-F.Call []) us refl m)
call_back v1 v2 v3 w xs us m1 (g.exprs {w1 = u1} {x = x} h g.end_exprs) m3 c m =
    at_length (v1 ++ ((u1 ++ []) ++ v3)) w (s.Call (x ∷ [])) us (inr ((tt, (x, tt)), pair v1 ((u1 ++ []) ++ v3) m1 (pair (u1 ++ []) v3 (subst (λ (w : Tokens). IsExpr w x) (sym (append_nil u1)) h) m3), refl)) c
call_back v1 v2 v3 w xs us m1 (g.exprs {x = x} h (g.more_exprs {x = y} {xs = ys} n i others)) m3 c m = absurd (makes_none (Suffix-F.Call (x ∷ y ∷ ys)) us refl m)

new_parts_back : (w : Tokens) (us : List Suffix) → AreSuffixes w us → Makes us → FNewParts w us
unfolding roll-Suffix denote.Hole.Carrier.roll new_array
new_parts_back w us g.no_suffixes m = let e : None ≡ Some m.0 = m.1 in absurd cc
new_parts_back w us (g.suffixes {ts = vs} (g.member {y = y} n h) c) m = absurd (makes_none (Suffix-F.Member y) vs refl m)
new_parts_back w us (g.suffixes {w2 = w2} {ts = vs} (g.call {w1 = v1} {w2 = v2} {w3 = v3} {xs = xs} m1 h m3) c) m = call_back v1 v2 v3 w2 xs vs m1 h m3 c m
new_parts_back w us (g.suffixes {w2 = w2} {ts = vs} (g.all {w1 = v1} {w2 = v2} m1 m2) c) m = on_slice v1 v2 w2 vs m1 m2 (new_parts_back w2 vs c (more_makes vs m))
new_parts_back w us (g.suffixes {w2 = w2} {ts = vs} (g.index {w1 = v1} {w2 = v2} {w3 = v3} {x = x} m1 h m3) c) m =
    at_length (v1 ++ (v2 ++ v3)) w2 (s.Index x) vs (inl ((tt, (x, tt)), pair v1 (v2 ++ v3) m1 (pair v2 v3 h m3), refl)) c
new_parts_back w us (g.suffixes {ts = vs} (g.slice {x = x} {y = y} m1 h m3 i m5) c) m = absurd (makes_none (Suffix-F.«Suffix::Slice» x y) vs refl m)
new_parts_back w us (g.suffixes {ts = vs} (g.increment n) c) m = absurd (makes_none Suffix-F.Increment vs refl m)
new_parts_back w us (g.suffixes {ts = vs} (g.decrement n) c) m = absurd (makes_none Suffix-F.Decrement vs refl m)

pub postfix_into : (ts : Tokens) (x : Expr) → FPostfix ts x → IsPostfix ts x
postfix_into ts x (inl h) = new_into ts x h
postfix_into ts x (inr ((y, []), p, eq)) = rw (← eq, p.parts, p.two, append_nil) (g.an_operand p.one)
postfix_into ts x (inr ((y, t ∷ ss), p, eq)) = rw (← eq, p.parts) (g.postfix p.one (suffixes_into p.right (t ∷ ss) p.two))

pub postfix_back : (ts : Tokens) (x : Expr) → IsPostfix ts x → FPostfix ts x
postfix_back ts x (g.an_operand h) = inr ((x, []), record { left = ts; right = []; parts = sym (append_nil ts); one = h; two = refl }, refl)
postfix_back ts x (g.postfix {w1 = w1} {w2 = w2} {x = y} {t = t} {ts = ss} h c) = inr ((y, t ∷ ss), pair w1 w2 h (suffixes_back w2 (t ∷ ss) c), refl)
postfix_back ts x (g.new {w1 = w1} {w2 = w2} {w3 = w3} {t = t} {ts = us} {y = y} m h c made) =
    inl ((tt, (t, us)), pair w1 (w2 ++ w3) m (pair w2 w3 h (new_parts_back w3 us c (y, made))), refl)

pub unary_into : (ts : Tokens) (x : Expr) → FUnary ts x → IsUnary ts x
unary_into ts x (inl (z, p, eq)) = rw (← eq, p.parts) (g.prefix p.one p.two)
unary_into ts x (inr (inl (z, p, eq))) = rw (← eq, p.parts, p.two.parts, p.two.two.parts, p.two.two.two.parts) (g.cast p.one p.two.one p.two.two.one p.two.two.two.one p.two.two.two.two)
unary_into ts x (inr (inr h)) = g.a_postfix h

pub unary_back : (ts : Tokens) (x : Expr) → IsUnary ts x → FUnary ts x
unary_back ts x (g.prefix {w1 = w1} {w2 = w2} {o = o} {x = y} m h) = inl ((o, y), pair w1 w2 m h, refl)
unary_back ts x (g.cast {w1 = w1} {w2 = w2} {w3 = w3} {w4 = w4} {w5 = w5} {t = t} {x = y} m1 m2 h m4 q) =
    inr (inl ((tt, (tt, (t, (tt, y)))), pair w1 (w2 ++ (w3 ++ (w4 ++ w5))) m1 (pair w2 (w3 ++ (w4 ++ w5)) m2 (pair w3 (w4 ++ w5) h (pair w4 w5 m4 q))), refl))
unary_back ts x (g.a_postfix h) = inr (inr h)
