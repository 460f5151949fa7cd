-- Each rule of the grammar is read, from symbols up to whole expressions.
use Rattle.std.proofs.Common.{◌≡◌, ℕ, zero, suc, ◌-◌, ◌≤◌, Bool, false, List, [], ◌∷◌, ◌++◌, length, None, refl, sym, ap, ◌∙◌, append_assoc, arith, inl, inr}
use Rattle.dc_ast.specs.declared.expression.Expr.{Expr}
use Rattle.dc_ast.specs.declared.expression.ExprKind.TheVariants as e
use Rattle.dc_ast.specs.declared.expression.Suffix.{Suffix}
use Rattle.dc_ast.specs.declared.expression.Suffix.TheVariants as s
use Rattle.dc_ast.specs.declared.expression.IsAgainst.TheVariants as v
use Rattle.dc_ast.specs.declared.types.Base.TheVariants as b
use Rattle.dc_grammar.specs.declared.terminal.Terminal.{Terminal}
use Rattle.dc_grammar.specs.declared.terminal.Terminal.TheVariants as k
use Rattle.dc_grammar.specs.Terminals.{Tokens, terminal_of, same_terminal, unary_operator, multiplies, adds, shifts, compares, bit_and_operator, bit_xor_operator, bit_or_operator, and_operator, or_operator, assign_operator, is_relation}
use Rattle.dc_grammar.specs.Trees.{expr, step, symbol, type_tree, is_tree, is_test}
use Rattle.dc_grammar.specs.Grammar as g
use Rattle.dc_grammar.specs.Grammar.{Mark, Named, Means, Id, Word, IsExpr, IsConditional, IsOr, AreOrs, IsAnd, AreAnds, IsBitOr, AreBitOrs, IsBitXor, AreBitXors, IsBitAnd, AreBitAnds, IsComparison, IsShift, AreShiftSteps, IsSum, AreTerms, IsProduct, AreFactors, IsUnary, IsPostfix, AreSuffixes, IsSuffix, IsOperand, IsPrimary, IsIsTree, IsIsTest, IsAgainstWhat, MoreNames, AreExprs, MoreExprs, AreArguments, MoreArguments, IsArgument, IsSymbol, AreTemplateArguments, IsSingle, IsType, IsBareType, IsBase, MoreSymbols, IsPlainBase, AreBrackets}
use Rattle.dc_grammar.specs.declared.level.Level.{Level}
use Rattle.dc_grammar.specs.Reading.{Reader, mark, either, ◌<$>◌, nothing}
use Rattle.dc_grammar.specs.Readers as spec
use Rattle.dc_grammar.specs.Readers.{word, chain, compared, chosen, assigned, or_empty, between, length_of}
use Rattle.dc_grammar.proofs.Good.{Good, Loose, none, or, Pair, mark_good, means_good, given_by, is}
use Rattle.dc_grammar.proofs.Lists.{Many, loose_maybe, refused, many_then}
use Rattle.dc_grammar.proofs.Tools.{pair, seq, seq_loose, loose_seq, repeated, one_of, narrow, Image, image, loose_image, rule, lower, or_none, Placed, placed}
use Rattle.dc_grammar.proofs.Tools as tools
use Rattle.dc_grammar.proofs.Forms.{FNext, FList, FSome, FAfterDot, FNamedBase, FInParens, FParen, FArray, FTypeOfProperty, FMixin, FIsExpr, FTraits, FAssert, FMember, FCall, FBracketed, FSlice, FLengthIndex, FLengthCall, FLength, FNewParts, FNew, FPlainPostfix, FPrefix, FCast, FStep, product_into, product_back, sum_into, sum_back, shift_into, shift_back, bit_and_into, bit_and_back, bit_xor_into, bit_xor_back, bit_or_into, bit_or_back, and_into, and_back, or_into, or_back, comparison_into, comparison_back, conditional_into, conditional_back, expr_into, expr_back, type_into, type_back, bare_type_into, bare_type_back, base_into, base_back, symbol_into, symbol_back, template_arguments_into, template_arguments_back, against_into, against_back, is_test_into, is_test_back, is_tree_into, is_tree_back, primary_into, primary_back, operand_into, operand_back, suffix_into, suffix_back, postfix_into, postfix_back, unary_into, unary_back}
use Rattle.dc_grammar.proofs.Edges.{begins_primary, begins_postfix, begins_expr, begins_suffix, begins_type, begins_argument, begins_template_arguments, after_postfix, after_type, after_is_tree, after_product, after_sum, after_shift, after_comparison, after_bit_and, after_bit_xor, after_bit_or, after_and, after_or, after_conditional, after_expr}
use Rattle.dc_grammar.proofs.Dotted.{Dotted, dotted_expr, dotted_conditional, dotted_unary, begins_of}
use Rattle.dc_grammar.proofs.Arguments.{Inner, id_good, word_good, property_good, next_name_good, one_value_good, one_basic_good, bracket_good, plain_base_good, argument_good}

module _ (n : ℕ) (inner : Level → Reader Expr) (i : Inner n inner) where
  next_argument_good : Good (n - 2) after_expr (is k.Comma) (FNext IsArgument) (spec.next_argument inner)
  unfolding spec.next_argument same_terminal
  next_argument_good = image (λ z. z.1) (seq (mark_good (n - 2) k.Comma) (argument_good n inner i) (omega arith) refl)

  arguments_good : Good (n - 2) (or after_expr (is k.Comma)) begins_argument (FList IsArgument) (spec.arguments inner)
  unfolding spec.arguments same_terminal
  arguments_good = narrow (image (λ z. z.0 ∷ z.1) (seq_loose (argument_good n inner i) (repeated next_argument_good refl) (omega arith) refl)) (or after_expr (is k.Comma)) begins_argument refl refl

  in_parens_good : Good (n - 1) none (is k.LeftParen) FInParens (spec.in_parens inner)
  unfolding spec.in_parens spec.some_arguments same_terminal
  in_parens_good = image (λ z. z.1.0) (seq (mark_good (n - 1) k.LeftParen) (loose_seq (loose_image or_empty (loose_maybe arguments_good)) (mark_good (n - 2) k.RightParen) refl) (omega arith) refl)

  template_arguments_same : (ts : Tokens) → spec.template_arguments inner ts ≡ (either (spec.in_parens inner) (either spec.one_value spec.one_basic)) ts
  unfolding spec.template_arguments spec.in_parens spec.one_value spec.one_basic spec.single same_terminal
  template_arguments_same [] = refl
  template_arguments_same (t ∷ ts) = go (terminal_of t) refl
    where
      go : (kind : Terminal) → terminal_of t ≡ kind → spec.template_arguments_by inner kind (t ∷ ts) ≡ (either (spec.in_parens inner) (either spec.one_value spec.one_basic)) (t ∷ ts)
      go k.LeftParen eq = rw eq (sym (or_none _))
      go k.Name eq = rw eq (sym (or_none _))
      go k.Integer eq = rw eq (sym (or_none _))
      go k.Str eq = rw eq (sym (or_none _))
      go k.Character eq = rw eq (sym (or_none _))
      go _ eq = rw eq refl

  template_arguments_good : Good (n - 1) none begins_template_arguments AreTemplateArguments (spec.template_arguments inner)
  unfolding same_terminal
  template_arguments_good = rule (one_of in_parens_good (one_of (one_value_good (n - 1)) (one_basic_good (n - 1)) refl) refl) none begins_template_arguments AreTemplateArguments (spec.template_arguments inner) template_arguments_same template_arguments_into template_arguments_back refl refl

  symbol_at : (m : ℕ) → m ≤ suc n → Good m (is k.Not) (is k.Name) IsSymbol (spec.symbol_read inner)
  unfolding spec.symbol_read spec.instance_end same_terminal
  symbol_at m less = rule (image (λ z. symbol z.0 z.1) (seq_loose (id_good m) (loose_maybe (image (λ z. z.1) (seq (mark_good n k.Not) template_arguments_good (omega arith) refl))) less refl))
      (is k.Not) (is k.Name) IsSymbol (spec.symbol_read inner) (λ ts. refl) symbol_into symbol_back refl refl

  symbol_good : Good (suc n) (is k.Not) (is k.Name) IsSymbol (spec.symbol_read inner)
  symbol_good = symbol_at (suc n) (omega arith)

  next_symbol_good : Good n (is k.Not) (is k.Dot) FAfterDot (spec.next_symbol inner)
  unfolding spec.next_symbol same_terminal
  next_symbol_good = image (λ z. z.1) (seq (mark_good n k.Dot) (lower symbol_good) (omega arith) refl)

  named_base_good : Good (suc n) (or (is k.Not) (is k.Dot)) (is k.Name) FNamedBase (spec.named_base inner)
  unfolding spec.named_base same_terminal
  named_base_good = narrow (image (λ z. b.Named (z.0 ∷ z.1)) (seq_loose symbol_good (repeated next_symbol_good refl) (omega arith) refl)) (or (is k.Not) (is k.Dot)) (is k.Name) refl refl

  base_same : (ts : Tokens) → spec.base inner ts ≡ (either (spec.named_base inner) (spec.plain_base inner)) ts
  unfolding spec.base spec.named_base spec.symbol_read same_terminal
  base_same [] = refl
  base_same (t ∷ ts) = go (terminal_of t) refl
    where
      go : (kind : Terminal) → terminal_of t ≡ kind → spec.base_by inner kind (t ∷ ts) ≡ (either (spec.named_base inner) (spec.plain_base inner)) (t ∷ ts)
      go k.Name eq = rw (refused (plain_base_good n inner i) (t ∷ ts) (rw eq refl)) (rw eq (sym (or_none _)))
      go _ eq = rw eq refl

  base_good : Good (suc n) (or (is k.Not) (is k.Dot)) begins_type IsBase (spec.base inner)
  unfolding same_terminal
  base_good = rule (one_of named_base_good (plain_base_good n inner i) refl) (or (is k.Not) (is k.Dot)) begins_type IsBase (spec.base inner) base_same base_into base_back refl refl

  bare_type_good : Good (suc n) (or (is k.Not) (is k.Dot)) begins_type IsBareType (spec.bare_type inner)
  unfolding spec.bare_type same_terminal
  bare_type_good = rule (placed (λ at x. type_tree at x []) base_good) (or (is k.Not) (is k.Dot)) begins_type IsBareType (spec.bare_type inner) (λ ts. refl) bare_type_into bare_type_back refl refl

  pub type_good : Good (suc n) after_type begins_type IsType (spec.type_read inner)
  unfolding spec.type_read same_terminal
  type_good = rule (placed (λ at z. type_tree at z.0 z.1) (seq_loose base_good (repeated (lower (bracket_good n inner i)) refl) (omega arith) refl)) after_type begins_type IsType (spec.type_read inner) (λ ts. refl) type_into type_back refl refl

  -- ---- operands

  next_expr_good : Good n after_expr (is k.Comma) (FNext IsExpr) (spec.next_expr inner)
  unfolding spec.next_expr same_terminal
  next_expr_good = image (λ z. z.1) (seq (mark_good n k.Comma) i.whole (omega arith) refl)

  some_exprs_good : Loose n (or (or after_expr (is k.Comma)) begins_expr) begins_expr (FSome IsExpr) (spec.some_exprs inner)
  unfolding spec.some_exprs spec.exprs same_terminal
  some_exprs_good = loose_image or_empty (loose_maybe (narrow (image (λ z. z.0 ∷ z.1) (seq_loose i.whole (repeated next_expr_good refl) (omega arith) refl)) (or after_expr (is k.Comma)) begins_expr refl refl))

  paren_good : Good (suc n) none (is k.LeftParen) FParen (spec.paren inner)
  unfolding spec.paren same_terminal
  paren_good = image (λ z. e.Paren z.1.0) (seq (mark_good (suc n) k.LeftParen) (seq i.whole (mark_good n k.RightParen) (omega arith) refl) (omega arith) refl)

  array_good : Good (suc n) none (is k.LeftBracket) FArray (spec.array inner)
  unfolding spec.array same_terminal
  array_good = image (λ z. e.Array z.1.0) (seq (mark_good (suc n) k.LeftBracket) (loose_seq some_exprs_good (mark_good n k.RightBracket) refl) (omega arith) refl)

  type_of_property_good : Good (suc n) none (is k.TypeOf) FTypeOfProperty (spec.type_of_property inner)
  unfolding spec.type_of_property same_terminal
  type_of_property_good = image (λ z. e.TypeOfProperty z.1.1.0 z.1.1.1.1.1) (seq (mark_good (suc n) k.TypeOf) (seq (mark_good n k.LeftParen) (seq i.whole (seq (mark_good n k.RightParen) (seq (mark_good n k.Dot) (id_good n) (omega arith) refl) (omega arith) refl) (omega arith) refl) (omega arith) refl) (omega arith) refl)

  mixin_good : Good (suc n) none (is k.Mixin) FMixin (spec.mixin inner)
  unfolding spec.mixin same_terminal
  mixin_good = image (λ z. e.Mixin z.1.1.0) (seq (mark_good (suc n) k.Mixin) (seq (mark_good n k.LeftParen) (seq i.whole (mark_good n k.RightParen) (omega arith) refl) (omega arith) refl) (omega arith) refl)

  against_same : (ts : Tokens) → spec.against inner ts ≡ (either ((λ u. v.Struct) <$> mark k.Struct) (v.OfType <$> spec.type_read inner)) ts
  unfolding spec.against same_terminal
  against_same [] = refl
  against_same (t ∷ ts) = go (terminal_of t) refl
    where
      go : (kind : Terminal) → terminal_of t ≡ kind → spec.against_by inner kind (t ∷ ts) ≡ (either ((λ u. v.Struct) <$> mark k.Struct) (v.OfType <$> spec.type_read inner)) (t ∷ ts)
      go k.Struct eq = rw eq refl
      go _ eq = rw eq refl

  against_good : Good n after_type (or (is k.Struct) begins_type) IsAgainstWhat (spec.against inner)
  unfolding same_terminal
  against_good = rule (one_of (image (λ u. v.Struct) (mark_good n k.Struct)) (image v.OfType (lower type_good)) refl) after_type (or (is k.Struct) begins_type) IsAgainstWhat (spec.against inner) against_same against_into against_back refl refl

  is_test_good : Good n (or after_type (is k.Comma)) (given_by is_relation) IsIsTest (spec.is_test_read inner)
  unfolding spec.is_test_read same_terminal
  is_test_good = rule (image (λ z. is_test z.0 z.1.0 z.1.1) (seq (means_good n is_relation) (seq_loose against_good (repeated (next_name_good n) refl) (omega arith) refl) (omega arith) refl))
      (or after_type (is k.Comma)) (given_by is_relation) IsIsTest (spec.is_test_read inner) (λ ts. refl) is_test_into is_test_back refl refl

  is_tree_good : Good (suc n) after_is_tree begins_type IsIsTree (spec.is_tree_read inner)
  unfolding spec.is_tree_read same_terminal
  is_tree_good = rule (image (λ z. is_tree z.0 z.1) (seq_loose type_good (loose_maybe is_test_good) (omega arith) refl)) after_is_tree begins_type IsIsTree (spec.is_tree_read inner) (λ ts. refl) is_tree_into is_tree_back refl refl

  is_expr_good : Good (suc n) none (is k.Is) FIsExpr (spec.is_expr inner)
  unfolding spec.is_expr same_terminal
  is_expr_good = image (λ z. e.Is z.1.1.0) (seq (mark_good (suc n) k.Is) (seq (mark_good n k.LeftParen) (seq (lower is_tree_good) (mark_good n k.RightParen) (omega arith) refl) (omega arith) refl) (omega arith) refl)

  traits_good : Good (suc n) none (is k.Traits) FTraits (spec.traits inner)
  unfolding spec.traits same_terminal
  traits_good = image (λ z. e.Traits z.1.1.0 z.1.1.1.1.0) (seq (mark_good (suc n) k.Traits) (seq (mark_good n k.LeftParen) (seq (id_good n) (seq (mark_good (n - 1) k.Comma) (seq arguments_good (mark_good n k.RightParen) (omega arith) refl) (omega arith) refl) (omega arith) refl) (omega arith) refl) (omega arith) refl)

  assert_good : Good (suc n) none (is k.Assert) FAssert (spec.assert inner)
  unfolding spec.assert same_terminal
  assert_good = image (λ z. e.Assert z.1.1.0 z.1.1.1.0) (seq (mark_good (suc n) k.Assert) (seq (mark_good n k.LeftParen) (seq i.whole (loose_seq (loose_maybe next_expr_good) (mark_good n k.RightParen) refl) (omega arith) refl) (omega arith) refl) (omega arith) refl)

  primary_same : (ts : Tokens) → spec.primary inner ts ≡ (either (e.Integer <$> word k.Integer) (either (e.Str <$> word k.Str) (either (e.Character <$> word k.Character) (either ((λ u. e.Null) <$> mark k.Null) (either ((λ u. e.True) <$> mark k.True) (either ((λ u. e.False) <$> mark k.False) (either ((λ u. e.This) <$> mark k.This) (either ((λ u. e.Dollar) <$> mark k.Dollar) (either (e.Symbol <$> spec.symbol_read inner) (either (spec.paren inner) (either (spec.array inner) (either (spec.type_of_property inner) (either (spec.mixin inner) (either (spec.is_expr inner) (either (spec.traits inner) (either (spec.assert inner) spec.property)))))))))))))))) ts
  unfolding spec.primary spec.symbol_read spec.paren spec.array spec.type_of_property spec.mixin spec.is_expr spec.traits spec.assert spec.property same_terminal
  primary_same [] = refl
  primary_same (t ∷ ts) = go (terminal_of t) refl
    where
      go : (kind : Terminal) → terminal_of t ≡ kind → spec.primary_by inner kind (t ∷ ts) ≡ (either (e.Integer <$> word k.Integer) (either (e.Str <$> word k.Str) (either (e.Character <$> word k.Character) (either ((λ u. e.Null) <$> mark k.Null) (either ((λ u. e.True) <$> mark k.True) (either ((λ u. e.False) <$> mark k.False) (either ((λ u. e.This) <$> mark k.This) (either ((λ u. e.Dollar) <$> mark k.Dollar) (either (e.Symbol <$> spec.symbol_read inner) (either (spec.paren inner) (either (spec.array inner) (either (spec.type_of_property inner) (either (spec.mixin inner) (either (spec.is_expr inner) (either (spec.traits inner) (either (spec.assert inner) spec.property)))))))))))))))) (t ∷ ts)
      go k.Integer eq = rw eq refl
      go k.Str eq = rw eq refl
      go k.Character eq = rw eq refl
      go k.Null eq = rw eq refl
      go k.True eq = rw eq refl
      go k.False eq = rw eq refl
      go k.This eq = rw eq refl
      go k.Dollar eq = rw eq refl
      go k.Name eq = rw eq (sym (or_none _))
      go k.LeftParen eq = rw eq (sym (or_none _))
      go k.LeftBracket eq = rw eq (sym (or_none _))
      go k.TypeOf eq = rw eq (sym (or_none _))
      go k.Mixin eq = rw eq (sym (or_none _))
      go k.Is eq = rw eq (sym (or_none _))
      go k.Traits eq = rw eq (sym (or_none _))
      go k.Assert eq = rw eq (sym (or_none _))
      go _ eq = rw eq refl

  primary_good : Good (suc n) (is k.Not) begins_primary IsPrimary (spec.primary inner)
  unfolding same_terminal
  primary_good = rule (one_of (image e.Integer (word_good (suc n) k.Integer)) (one_of (image e.Str (word_good (suc n) k.Str)) (one_of (image e.Character (word_good (suc n) k.Character)) (one_of (image (λ u. e.Null) (mark_good (suc n) k.Null)) (one_of (image (λ u. e.True) (mark_good (suc n) k.True)) (one_of (image (λ u. e.False) (mark_good (suc n) k.False)) (one_of (image (λ u. e.This) (mark_good (suc n) k.This)) (one_of (image (λ u. e.Dollar) (mark_good (suc n) k.Dollar)) (one_of (image e.Symbol symbol_good) (one_of paren_good (one_of array_good (one_of type_of_property_good (one_of mixin_good (one_of is_expr_good (one_of traits_good (one_of assert_good (property_good n) refl) refl) refl) refl) refl) refl) refl) refl) refl) refl) refl) refl) refl) refl) refl) refl)
      (is k.Not) begins_primary IsPrimary (spec.primary inner) primary_same primary_into primary_back refl refl

  operand_good : Good (suc n) (is k.Not) begins_primary IsOperand (spec.operand inner)
  unfolding spec.operand same_terminal
  operand_good = rule (placed expr primary_good) (is k.Not) begins_primary IsOperand (spec.operand inner) (λ ts. refl) operand_into operand_back refl refl

  -- ---- what follows them

  member_good : Good n (is k.Not) (is k.Dot) FMember (spec.member inner)
  unfolding spec.member same_terminal
  member_good = image (λ z. s.Member z.1) (seq (mark_good n k.Dot) (lower symbol_good) (omega arith) refl)

  call_good : Good n none (is k.LeftParen) FCall (spec.call inner)
  unfolding spec.call same_terminal
  call_good = image (λ z. s.Call z.1.0) (seq (mark_good n k.LeftParen) (loose_seq some_exprs_good (mark_good n k.RightParen) refl) (omega arith) refl)

  bracketed_good : Good n none (is k.LeftBracket) FBracketed (spec.bracketed inner)
  unfolding spec.bracketed spec.inside spec.slice_end same_terminal
  bracketed_good = image (λ z. z.1.0) (seq (mark_good n k.LeftBracket) (loose_seq (loose_image between (loose_maybe (seq_loose i.whole (loose_maybe (image (λ z. z.1) (seq (mark_good n k.DotDot) i.whole (omega arith) refl))) (omega arith) refl))) (mark_good n k.RightBracket) refl) (omega arith) refl)

  suffix_same : (ts : Tokens) → spec.suffix inner ts ≡ (either (spec.member inner) (either (spec.call inner) (either (spec.bracketed inner) (either ((λ u. s.Increment) <$> mark k.PlusPlus) ((λ u. s.Decrement) <$> mark k.MinusMinus))))) ts
  unfolding spec.suffix spec.member spec.call spec.bracketed same_terminal
  suffix_same [] = refl
  suffix_same (t ∷ ts) = go (terminal_of t) refl
    where
      go : (kind : Terminal) → terminal_of t ≡ kind → spec.suffix_by inner kind (t ∷ ts) ≡ (either (spec.member inner) (either (spec.call inner) (either (spec.bracketed inner) (either ((λ u. s.Increment) <$> mark k.PlusPlus) ((λ u. s.Decrement) <$> mark k.MinusMinus))))) (t ∷ ts)
      go k.Dot eq = rw eq (sym (or_none _))
      go k.LeftParen eq = rw eq (sym (or_none _))
      go k.LeftBracket eq = rw eq (sym (or_none _))
      go k.PlusPlus eq = rw eq refl
      go k.MinusMinus eq = rw eq refl
      go _ eq = rw eq refl

  suffix_good : Good n (is k.Not) begins_suffix IsSuffix (spec.suffix inner)
  unfolding same_terminal
  suffix_good = rule (one_of member_good (one_of call_good (one_of bracketed_good (one_of (image (λ u. s.Increment) (mark_good n k.PlusPlus)) (image (λ u. s.Decrement) (mark_good n k.MinusMinus)) refl) refl) refl) refl)
      (is k.Not) begins_suffix IsSuffix (spec.suffix inner) suffix_same suffix_into suffix_back refl refl

  slice_part_good : Good n none (is k.LeftBracket) FSlice spec.slice_part
  unfolding spec.slice_part same_terminal
  slice_part_good = image (λ z. s.All) (seq (mark_good n k.LeftBracket) (mark_good n k.RightBracket) (omega arith) refl)

  length_index_good : Good n none (is k.LeftBracket) FLengthIndex (spec.length_index inner)
  unfolding spec.length_index same_terminal
  length_index_good = image (λ z. s.Index z.1.0) (seq (mark_good n k.LeftBracket) (seq i.whole (mark_good n k.RightBracket) (omega arith) refl) (omega arith) refl)

  length_call_good : Good n none (is k.LeftParen) FLengthCall (spec.length_call inner)
  unfolding spec.length_call same_terminal
  length_call_good = image (λ z. s.Call (z.1.0 ∷ [])) (seq (mark_good n k.LeftParen) (seq i.whole (mark_good n k.RightParen) (omega arith) refl) (omega arith) refl)

  length_part_same : (ts : Tokens) → spec.length_part inner ts ≡ (either (spec.length_index inner) (spec.length_call inner)) ts
  unfolding spec.length_part spec.length_index spec.length_call same_terminal
  length_part_same [] = refl
  length_part_same (t ∷ ts) = go (terminal_of t) refl
    where
      go : (kind : Terminal) → terminal_of t ≡ kind → spec.length_by inner kind (t ∷ ts) ≡ (either (spec.length_index inner) (spec.length_call inner)) (t ∷ ts)
      go k.LeftBracket eq = rw eq (sym (or_none _))
      go _ eq = rw eq refl

  length_part_good : Good n none (or (is k.LeftBracket) (is k.LeftParen)) FLength (spec.length_part inner)
  unfolding same_terminal
  length_part_good = rule (one_of length_index_good length_call_good refl) none (or (is k.LeftBracket) (is k.LeftParen)) FLength (spec.length_part inner) length_part_same (λ ts x h. h) (λ ts x h. h) refl refl

  -- no `[]` stands where the length does
  not_index : (w1 w2 w3 v : Tokens) (x : Expr) → Mark k.LeftBracket w1 → IsExpr w2 x → spec.slice_part ((w1 ++ (w2 ++ w3)) ++ v) ≡ None
  unfolding spec.slice_part same_terminal
  not_index w1 w2 w3 v x m h =
      let d = i.whole.begins w2 x h in
      let off : same_terminal (terminal_of d.head) k.RightBracket ≡ false = tools.apart_from begins_expr (is k.RightBracket) refl (terminal_of d.head) d.kind in
      rw (m.alone, m.is, d.parts, off) refl

  not_call : (w1 w2 v : Tokens) → Mark k.LeftParen w1 → spec.slice_part ((w1 ++ w2) ++ v) ≡ None
  unfolding spec.slice_part same_terminal
  not_call w1 w2 v m = rw (m.alone, m.is) refl

  not_slice : (w v : Tokens) (y : Suffix) → FLength w y → spec.slice_part (w ++ v) ≡ None
  not_slice w v y (inl (z, p, eq)) = ap (λ (ts : Tokens). spec.slice_part (ts ++ v)) (p.parts ∙ ap (λ (ts : Tokens). p.left ++ ts) p.two.parts) ∙ not_index p.left p.two.left p.two.right v z.1.0 p.one p.two.one
  not_slice w v y (inr (z, p, eq)) = ap (λ (ts : Tokens). spec.slice_part (ts ++ v)) p.parts ∙ not_call p.left p.right v p.one

  new_parts_good : Good n after_postfix (or (is k.LeftBracket) (is k.LeftParen)) FNewParts (spec.new_parts inner)
  unfolding spec.new_parts same_terminal
  new_parts_good = narrow (image (λ z. z.0 ++ z.1.0 ∷ z.1.1) (many_then slice_part_good (repeated slice_part_good refl) (seq_loose length_part_good (repeated suffix_good refl) (omega arith) refl) stops)) after_postfix (or (is k.LeftBracket) (is k.LeftParen)) refl refl
    where
      stops : (front : Tokens) (y : Suffix × List Suffix) (rest : Tokens) → Pair FLength (Many IsSuffix) front y → spec.slice_part (front ++ rest) ≡ None
      stops front y rest p = ap (λ (ts : Tokens). spec.slice_part (ts ++ rest)) p.parts ∙ ap spec.slice_part (append_assoc p.left p.right rest) ∙ not_slice p.left (p.right ++ rest) y.0 p.one

  new_good : Good (suc n) after_postfix (is k.New) FNew (spec.new inner)
  unfolding spec.new same_terminal
  new_good = placed (λ at z. expr at (e.New z.1.0 z.1.1)) (seq (mark_good (suc n) k.New) (seq (lower bare_type_good) new_parts_good (omega arith) refl) (omega arith) refl)

  plain_postfix_good : Good (suc n) after_postfix begins_primary FPlainPostfix (spec.plain_postfix inner)
  unfolding spec.plain_postfix same_terminal
  plain_postfix_good = narrow (placed (chain e.Postfix) (seq_loose operand_good (repeated suffix_good refl) (omega arith) refl)) after_postfix begins_primary refl refl

  postfix_same : (ts : Tokens) → spec.postfix inner ts ≡ (either (spec.new inner) (spec.plain_postfix inner)) ts
  unfolding spec.postfix spec.new same_terminal
  postfix_same [] = refl
  postfix_same (t ∷ ts) = go (terminal_of t) refl
    where
      go : (kind : Terminal) → terminal_of t ≡ kind → spec.postfix_by inner kind (t ∷ ts) ≡ (either (spec.new inner) (spec.plain_postfix inner)) (t ∷ ts)
      go k.New eq = rw (refused plain_postfix_good (t ∷ ts) (rw eq refl)) (rw eq (sym (or_none _)))
      go _ eq = rw eq refl

  postfix_good : Good (suc n) after_postfix begins_postfix IsPostfix (spec.postfix inner)
  unfolding same_terminal
  postfix_good = rule (one_of new_good plain_postfix_good refl) after_postfix begins_postfix IsPostfix (spec.postfix inner) postfix_same postfix_into postfix_back refl refl

  -- ---- operators

  prefix_good : Good (suc n) after_postfix (given_by unary_operator) FPrefix (spec.prefix inner)
  unfolding spec.prefix same_terminal
  prefix_good = placed (λ at z. expr at (e.Unary z.0 z.1)) (seq (means_good (suc n) unary_operator) i.unary (omega arith) refl)

  cast_good : Good (suc n) after_postfix (is k.Cast) FCast (spec.cast inner)
  unfolding spec.cast same_terminal
  cast_good = placed (λ at z. expr at (e.Cast z.1.1.0 z.1.1.1.1)) (seq (mark_good (suc n) k.Cast) (seq (mark_good n k.LeftParen) (seq (lower type_good) (seq (mark_good n k.RightParen) i.unary (omega arith) refl) (omega arith) refl) (omega arith) refl) (omega arith) refl)

  unary_same : (ts : Tokens) → spec.unary inner ts ≡ (either (spec.prefix inner) (either (spec.cast inner) (spec.postfix inner))) ts
  unfolding spec.unary spec.prefix spec.cast same_terminal
  unary_same [] = refl
  unary_same (t ∷ ts) = go (terminal_of t) refl
    where
      go : (kind : Terminal) → terminal_of t ≡ kind → spec.unary_by inner kind (t ∷ ts) ≡ (either (spec.prefix inner) (either (spec.cast inner) (spec.postfix inner))) (t ∷ ts)
      go k.Minus eq = rw (refused postfix_good (t ∷ ts) (rw eq refl)) (rw eq (sym (or_none _)))
      go k.Plus eq = rw (refused postfix_good (t ∷ ts) (rw eq refl)) (rw eq (sym (or_none _)))
      go k.Not eq = rw (refused postfix_good (t ∷ ts) (rw eq refl)) (rw eq (sym (or_none _)))
      go k.Tilde eq = rw (refused postfix_good (t ∷ ts) (rw eq refl)) (rw eq (sym (or_none _)))
      go k.PlusPlus eq = rw (refused postfix_good (t ∷ ts) (rw eq refl)) (rw eq (sym (or_none _)))
      go k.MinusMinus eq = rw (refused postfix_good (t ∷ ts) (rw eq refl)) (rw eq (sym (or_none _)))
      go k.Cast eq = rw (refused postfix_good (t ∷ ts) (rw eq refl)) (rw eq (sym (or_none _)))
      go _ eq = rw eq refl

  unary_good : Good (suc n) after_postfix begins_expr IsUnary (spec.unary inner)
  unfolding same_terminal
  unary_good = rule (one_of prefix_good (one_of cast_good postfix_good refl) refl) after_postfix begins_expr IsUnary (spec.unary inner) unary_same unary_into unary_back refl refl

  factor_good : Good (suc n) after_postfix (given_by multiplies) (FStep multiplies IsUnary) (spec.factor inner)
  unfolding spec.factor same_terminal
  factor_good = image (λ z. step z.0 z.1) (seq (means_good (suc n) multiplies) (lower unary_good) (omega arith) refl)

  product_good : Good (suc n) after_product begins_expr IsProduct (spec.product inner)
  unfolding spec.product same_terminal
  product_good = rule (placed (chain e.Chain) (seq_loose unary_good (repeated (lower factor_good) refl) (omega arith) refl)) after_product begins_expr IsProduct (spec.product inner) (λ ts. refl) product_into product_back refl refl

  term_good : Good (suc n) after_product (given_by adds) (FStep adds IsProduct) (spec.term inner)
  unfolding spec.term same_terminal
  term_good = image (λ z. step z.0 z.1) (seq (means_good (suc n) adds) (lower product_good) (omega arith) refl)

  sum_good : Good (suc n) after_sum begins_expr IsSum (spec.sum inner)
  unfolding spec.sum same_terminal
  sum_good = rule (placed (chain e.Chain) (seq_loose product_good (repeated (lower term_good) refl) (omega arith) refl)) after_sum begins_expr IsSum (spec.sum inner) (λ ts. refl) sum_into sum_back refl refl

  shifted_good : Good (suc n) after_sum (given_by shifts) (FStep shifts IsSum) (spec.shifted inner)
  unfolding spec.shifted same_terminal
  shifted_good = image (λ z. step z.0 z.1) (seq (means_good (suc n) shifts) (lower sum_good) (omega arith) refl)

  shift_good : Good (suc n) after_shift begins_expr IsShift (spec.shift inner)
  unfolding spec.shift same_terminal
  shift_good = rule (placed (chain e.Chain) (seq_loose sum_good (repeated (lower shifted_good) refl) (omega arith) refl)) after_shift begins_expr IsShift (spec.shift inner) (λ ts. refl) shift_into shift_back refl refl

  comparison_good : Good (suc n) after_comparison begins_expr IsComparison (spec.comparison inner)
  unfolding spec.comparison spec.comparison_end same_terminal
  comparison_good = rule (placed compared (seq_loose shift_good (loose_maybe (seq (means_good n compares) (lower shift_good) (omega arith) refl)) (omega arith) refl)) after_comparison begins_expr IsComparison (spec.comparison inner) (λ ts. refl) comparison_into comparison_back refl refl

  bit_and_step_good : Good (suc n) after_comparison (given_by bit_and_operator) (FStep bit_and_operator IsComparison) (spec.bit_and_step inner)
  unfolding spec.bit_and_step same_terminal
  bit_and_step_good = image (λ z. step z.0 z.1) (seq (means_good (suc n) bit_and_operator) (lower comparison_good) (omega arith) refl)

  bit_and_good : Good (suc n) after_bit_and begins_expr IsBitAnd (spec.bit_and inner)
  unfolding spec.bit_and same_terminal
  bit_and_good = rule (placed (chain e.Chain) (seq_loose comparison_good (repeated (lower bit_and_step_good) refl) (omega arith) refl)) after_bit_and begins_expr IsBitAnd (spec.bit_and inner) (λ ts. refl) bit_and_into bit_and_back refl refl

  bit_xor_step_good : Good (suc n) after_bit_and (given_by bit_xor_operator) (FStep bit_xor_operator IsBitAnd) (spec.bit_xor_step inner)
  unfolding spec.bit_xor_step same_terminal
  bit_xor_step_good = image (λ z. step z.0 z.1) (seq (means_good (suc n) bit_xor_operator) (lower bit_and_good) (omega arith) refl)

  bit_xor_good : Good (suc n) after_bit_xor begins_expr IsBitXor (spec.bit_xor inner)
  unfolding spec.bit_xor same_terminal
  bit_xor_good = rule (placed (chain e.Chain) (seq_loose bit_and_good (repeated (lower bit_xor_step_good) refl) (omega arith) refl)) after_bit_xor begins_expr IsBitXor (spec.bit_xor inner) (λ ts. refl) bit_xor_into bit_xor_back refl refl

  bit_or_step_good : Good (suc n) after_bit_xor (given_by bit_or_operator) (FStep bit_or_operator IsBitXor) (spec.bit_or_step inner)
  unfolding spec.bit_or_step same_terminal
  bit_or_step_good = image (λ z. step z.0 z.1) (seq (means_good (suc n) bit_or_operator) (lower bit_xor_good) (omega arith) refl)

  bit_or_good : Good (suc n) after_bit_or begins_expr IsBitOr (spec.bit_or inner)
  unfolding spec.bit_or same_terminal
  bit_or_good = rule (placed (chain e.Chain) (seq_loose bit_xor_good (repeated (lower bit_or_step_good) refl) (omega arith) refl)) after_bit_or begins_expr IsBitOr (spec.bit_or inner) (λ ts. refl) bit_or_into bit_or_back refl refl

  and_step_good : Good (suc n) after_bit_or (given_by and_operator) (FStep and_operator IsBitOr) (spec.and_step inner)
  unfolding spec.and_step same_terminal
  and_step_good = image (λ z. step z.0 z.1) (seq (means_good (suc n) and_operator) (lower bit_or_good) (omega arith) refl)

  and_good : Good (suc n) after_and begins_expr IsAnd (spec.and inner)
  unfolding spec.and same_terminal
  and_good = rule (placed (chain e.Chain) (seq_loose bit_or_good (repeated (lower and_step_good) refl) (omega arith) refl)) after_and begins_expr IsAnd (spec.and inner) (λ ts. refl) and_into and_back refl refl

  or_step_good : Good (suc n) after_and (given_by or_operator) (FStep or_operator IsAnd) (spec.or_step inner)
  unfolding spec.or_step same_terminal
  or_step_good = image (λ z. step z.0 z.1) (seq (means_good (suc n) or_operator) (lower and_good) (omega arith) refl)

  or_good : Good (suc n) after_or begins_expr IsOr (spec.or inner)
  unfolding spec.or same_terminal
  or_good = rule (placed (chain e.Chain) (seq_loose and_good (repeated (lower or_step_good) refl) (omega arith) refl)) after_or begins_expr IsOr (spec.or inner) (λ ts. refl) or_into or_back refl refl

  pub conditional_good : Good (suc n) after_conditional begins_expr IsConditional (spec.conditional inner)
  unfolding spec.conditional spec.conditional_end same_terminal
  conditional_good = rule (placed chosen (seq_loose or_good (loose_maybe (image (λ z. (z.1.0, z.1.1.1)) (seq (mark_good n k.Question) (seq i.whole (seq (mark_good n k.Colon) i.conditional (omega arith) refl) (omega arith) refl) (omega arith) refl))) (omega arith) refl)) after_conditional begins_expr IsConditional (spec.conditional inner) (λ ts. refl) conditional_into conditional_back refl refl

  pub whole_good : Good (suc n) after_expr begins_expr IsExpr (spec.whole inner)
  unfolding spec.whole spec.assign_end same_terminal
  whole_good = rule (placed assigned (seq_loose conditional_good (loose_maybe (seq (means_good n assign_operator) i.whole (omega arith) refl)) (omega arith) refl)) after_expr begins_expr IsExpr (spec.whole inner) (λ ts. refl) expr_into expr_back refl refl

nothing_good : (goes : Terminal → Bool) (P : Tokens → Expr → Type 0) → ((w : Tokens) (x : Expr) → P w x → Dotted w) → Good 0 goes begins_expr P nothing
nothing_good goes P dotted = record {
  sound = λ ts. tt;
  reach = λ front x rest len is. let d = dotted front x is in (let e : length front ≡ suc (length d.tail) = ap length d.parts in absurd (omega arith));
  begins = λ front x is. begins_of front (dotted front x is);
}

pub expr_good : (n : ℕ) → Inner n (spec.expr_to n)
unfolding spec.expr_to
expr_good zero = record { whole = nothing_good after_expr IsExpr dotted_expr; conditional = nothing_good after_conditional IsConditional dotted_conditional; unary = nothing_good after_postfix IsUnary dotted_unary }
expr_good (suc n) = let i = expr_good n in record { whole = whole_good n (spec.expr_to n) i; conditional = conditional_good n (spec.expr_to n) i; unary = unary_good n (spec.expr_to n) i }
