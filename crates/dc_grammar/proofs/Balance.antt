-- Round brackets are balanced in every text of the grammar, so a search for what stands behind one passes over it.
use Rattle.std.proofs.Common.{◌≡◌, ℕ, suc, Bool, true, false, List, [], ◌∷◌, ◌++◌, Option, Some, refl, ap, ◌∙◌, append_assoc}
use Rattle.dc_token.specs.declared.token.Token.{Token}
use Rattle.dc_ast.specs.declared.expression.Expr.{Expr}
use Rattle.dc_ast.specs.declared.expression.ExprKind.{ExprKind}
use Rattle.dc_ast.specs.declared.expression.Step.{Step}
use Rattle.dc_ast.specs.declared.expression.Suffix.{Suffix}
use Rattle.dc_ast.specs.declared.expression.Symbol.{Symbol}
use Rattle.dc_ast.specs.declared.expression.Argument.{Argument}
use Rattle.dc_ast.specs.declared.expression.IsTree.{IsTree}
use Rattle.dc_ast.specs.declared.expression.IsTest.{IsTest}
use Rattle.dc_ast.specs.declared.expression.IsAgainst.{IsAgainst}
use Rattle.dc_ast.specs.declared.name.Name.{Name}
use Rattle.dc_ast.specs.declared.types.TypeTree.{TypeTree}
use Rattle.dc_ast.specs.declared.types.Base.{Base}
use Rattle.dc_ast.specs.declared.types.Bracket.{Bracket}
use Rattle.dc_grammar.specs.declared.terminal.Terminal.{Terminal}
use Rattle.dc_grammar.specs.declared.terminal.Terminal.TheVariants as k
use Rattle.dc_grammar.specs.Terminals.{Tokens, terminal_of}
use Rattle.dc_grammar.specs.Brackets.{open_behind, behind}
use Rattle.dc_grammar.specs.Grammar as g
use Rattle.dc_grammar.specs.Grammar.{Mark, Named, Means, IsExpr, IsConditional, IsOr, AreOrs, IsAnd, AreAnds, IsBitOr, AreBitOrs, IsBitXor, AreBitXors, IsBitAnd, AreBitAnds, IsComparison, IsShift, AreShiftSteps, IsSum, AreTerms, IsProduct, AreFactors, IsUnary, IsPostfix, AreSuffixes, IsSuffix, IsOperand, IsPrimary, IsIsTree, IsIsTest, IsAgainstWhat, MoreNames, AreExprs, MoreExprs, AreArguments, MoreArguments, IsArgument, IsSymbol, AreTemplateArguments, IsSingle, IsType, IsBareType, IsBase, MoreSymbols, IsPlainBase, AreBrackets}
use Rattle.dc_grammar.proofs.Good.{given_by}
use Rattle.dc_grammar.proofs.Choices.{Within, within}

-- a search inside brackets passes over the text
pub record Balanced (w : Tokens) : Type 0 where
  pub passes : (depth : ℕ) (rest : Tokens) → behind (suc depth) (w ++ rest) ≡ behind (suc depth) rest

-- the text closes one more round bracket than it opens
pub record Closes (w : Tokens) : Type 0 where
  pub passes : (depth : ℕ) (rest : Tokens) → behind (suc (suc depth)) (w ++ rest) ≡ behind (suc depth) rest

abbrev no_paren : Terminal → Bool
no_paren k.LeftParen = false
no_paren k.RightParen = false
no_paren other = true

open_on : (kind : Terminal) (depth : ℕ) → no_paren kind ≡ true → open_behind kind (suc depth) ≡ Some (suc depth)
open_on k.LeftParen depth e = absurd cc
open_on k.RightParen depth e = absurd cc
open_on other depth e = refl

pub empty : Balanced []
empty = record { passes = λ depth rest. refl }

pub on : {v w : Tokens} → Balanced v → Balanced w → Balanced (v ++ w)
on {v} {w} b c = record { passes = λ depth rest. ap (behind (suc depth)) (append_assoc v w rest) ∙ b.passes depth (w ++ rest) ∙ c.passes depth rest }

one : {w : Tokens} (token : Token) → w ≡ token ∷ [] → no_paren (terminal_of token) ≡ true → Balanced w
one token alone e = record { passes = λ depth rest. rw (alone, open_on (terminal_of token) depth e) refl }

pub mark : {kind : Terminal} {w : Tokens} → Mark kind w → no_paren kind ≡ true → Balanced w
mark m e = one m.token m.alone (rw m.is e)

pub named : {A : Type 0} {to : Token → A} {kind : Terminal} {w : Tokens} {x : A} → Named to kind w x → no_paren kind ≡ true → Balanced w
named m e = one m.token m.alone (rw m.is e)

pub means : {A : Type 0} {f : Terminal → Option A} {w : Tokens} {x : A} → Means f w x → Within (given_by f) no_paren → Balanced w
means {A} {f} m e = one m.token m.alone (within (given_by f) no_paren e (terminal_of m.token) (rw m.means refl))

pub shuts : {w : Tokens} → Mark k.RightParen w → Closes w
shuts m = record { passes = λ depth rest. rw (m.alone, m.is) refl }

pub shuts_on : {v w : Tokens} → Mark k.RightParen v → Balanced w → Closes (v ++ w)
shuts_on {v} {w} m b = record { passes = λ depth rest. ap (behind (suc (suc depth))) (append_assoc v w rest) ∙ (shuts m).passes depth (w ++ rest) ∙ b.passes depth rest }

pub inside : {v w : Tokens} → Balanced v → Closes w → Closes (v ++ w)
inside {v} {w} b c = record { passes = λ depth rest. ap (behind (suc (suc depth))) (append_assoc v w rest) ∙ b.passes (suc depth) (w ++ rest) ∙ c.passes depth rest }

pub opens : {v w : Tokens} → Mark k.LeftParen v → Closes w → Balanced (v ++ w)
opens {v} {w} m c = record { passes = λ depth rest. rw (m.alone, m.is) (c.passes depth rest) }

mutual
  pub in_expr : {w : Tokens} {x : Expr} → IsExpr w x → Balanced w
  in_expr (g.a_conditional h1) = in_conditional h1
  in_expr (g.assign h1 m2 h3) = on (in_conditional h1) (on (means m2 refl) (in_expr h3))

  pub in_conditional : {w : Tokens} {x : Expr} → IsConditional w x → Balanced w
  in_conditional (g.an_or h1) = in_or h1
  in_conditional (g.conditional h1 m2 h3 m4 h5) = on (in_or h1) (on (mark m2 refl) (on (in_expr h3) (on (mark m4 refl) (in_conditional h5))))

  pub in_or : {w : Tokens} {x : Expr} → IsOr w x → Balanced w
  in_or (g.an_and h1) = in_and h1
  in_or (g.or h1 h2) = on (in_and h1) (in_ors h2)

  pub in_ors : {w : Tokens} {x : List Step} → AreOrs w x → Balanced w
  in_ors g.no_ors = empty
  in_ors (g.or_step m1 h2 h3) = on (means m1 refl) (on (in_and h2) (in_ors h3))

  pub in_and : {w : Tokens} {x : Expr} → IsAnd w x → Balanced w
  in_and (g.a_bit_or h1) = in_bit_or h1
  in_and (g.and h1 h2) = on (in_bit_or h1) (in_ands h2)

  pub in_ands : {w : Tokens} {x : List Step} → AreAnds w x → Balanced w
  in_ands g.no_ands = empty
  in_ands (g.and_step m1 h2 h3) = on (means m1 refl) (on (in_bit_or h2) (in_ands h3))

  pub in_bit_or : {w : Tokens} {x : Expr} → IsBitOr w x → Balanced w
  in_bit_or (g.a_bit_xor h1) = in_bit_xor h1
  in_bit_or (g.bit_or h1 h2) = on (in_bit_xor h1) (in_bit_ors h2)

  pub in_bit_ors : {w : Tokens} {x : List Step} → AreBitOrs w x → Balanced w
  in_bit_ors g.no_bit_ors = empty
  in_bit_ors (g.bit_or_step m1 h2 h3) = on (means m1 refl) (on (in_bit_xor h2) (in_bit_ors h3))

  pub in_bit_xor : {w : Tokens} {x : Expr} → IsBitXor w x → Balanced w
  in_bit_xor (g.a_bit_and h1) = in_bit_and h1
  in_bit_xor (g.bit_xor h1 h2) = on (in_bit_and h1) (in_bit_xors h2)

  pub in_bit_xors : {w : Tokens} {x : List Step} → AreBitXors w x → Balanced w
  in_bit_xors g.no_bit_xors = empty
  in_bit_xors (g.bit_xor_step m1 h2 h3) = on (means m1 refl) (on (in_bit_and h2) (in_bit_xors h3))

  pub in_bit_and : {w : Tokens} {x : Expr} → IsBitAnd w x → Balanced w
  in_bit_and (g.a_comparison h1) = in_comparison h1
  in_bit_and (g.bit_and h1 h2) = on (in_comparison h1) (in_bit_ands h2)

  pub in_bit_ands : {w : Tokens} {x : List Step} → AreBitAnds w x → Balanced w
  in_bit_ands g.no_bit_ands = empty
  in_bit_ands (g.bit_and_step m1 h2 h3) = on (means m1 refl) (on (in_comparison h2) (in_bit_ands h3))

  pub in_comparison : {w : Tokens} {x : Expr} → IsComparison w x → Balanced w
  in_comparison (g.a_shift h1) = in_shift h1
  in_comparison (g.comparison h1 m2 h3) = on (in_shift h1) (on (means m2 refl) (in_shift h3))

  pub in_shift : {w : Tokens} {x : Expr} → IsShift w x → Balanced w
  in_shift (g.a_sum h1) = in_sum h1
  in_shift (g.shift h1 h2) = on (in_sum h1) (in_shift_steps h2)

  pub in_shift_steps : {w : Tokens} {x : List Step} → AreShiftSteps w x → Balanced w
  in_shift_steps g.no_shift_steps = empty
  in_shift_steps (g.shifted m1 h2 h3) = on (means m1 refl) (on (in_sum h2) (in_shift_steps h3))

  pub in_sum : {w : Tokens} {x : Expr} → IsSum w x → Balanced w
  in_sum (g.a_product h1) = in_product h1
  in_sum (g.sum h1 h2) = on (in_product h1) (in_terms h2)

  pub in_terms : {w : Tokens} {x : List Step} → AreTerms w x → Balanced w
  in_terms g.no_terms = empty
  in_terms (g.term m1 h2 h3) = on (means m1 refl) (on (in_product h2) (in_terms h3))

  pub in_product : {w : Tokens} {x : Expr} → IsProduct w x → Balanced w
  in_product (g.a_unary h1) = in_unary h1
  in_product (g.product h1 h2) = on (in_unary h1) (in_factors h2)

  pub in_factors : {w : Tokens} {x : List Step} → AreFactors w x → Balanced w
  in_factors g.no_factors = empty
  in_factors (g.factor m1 h2 h3) = on (means m1 refl) (on (in_unary h2) (in_factors h3))

  pub in_unary : {w : Tokens} {x : Expr} → IsUnary w x → Balanced w
  in_unary (g.prefix m1 h2) = on (means m1 refl) (in_unary h2)
  in_unary (g.cast m1 p2 h3 q4 h5) = on (mark m1 refl) (opens p2 (inside (in_type h3) (shuts_on q4 (in_unary h5))))
  in_unary (g.a_postfix h1) = in_postfix h1

  pub in_postfix : {w : Tokens} {x : Expr} → IsPostfix w x → Balanced w
  in_postfix (g.an_operand h1) = in_operand h1
  in_postfix (g.postfix h1 h2) = on (in_operand h1) (in_suffixes h2)
  in_postfix (g.new m1 h2 h3 e) = on (mark m1 refl) (on (in_bare_type h2) (in_suffixes h3))

  pub in_suffixes : {w : Tokens} {x : List Suffix} → AreSuffixes w x → Balanced w
  in_suffixes g.no_suffixes = empty
  in_suffixes (g.suffixes h1 h2) = on (in_suffix h1) (in_suffixes h2)

  pub in_suffix : {w : Tokens} {x : Suffix} → IsSuffix w x → Balanced w
  in_suffix (g.member m1 h2) = on (mark m1 refl) (in_symbol h2)
  in_suffix (g.call p1 h2 q3) = opens p1 (inside (in_exprs h2) (shuts q3))
  in_suffix (g.all m1 m2) = on (mark m1 refl) (mark m2 refl)
  in_suffix (g.index m1 h2 m3) = on (mark m1 refl) (on (in_expr h2) (mark m3 refl))
  in_suffix (g.slice m1 h2 m3 h4 m5) = on (mark m1 refl) (on (in_expr h2) (on (mark m3 refl) (on (in_expr h4) (mark m5 refl))))
  in_suffix (g.increment m1) = mark m1 refl
  in_suffix (g.decrement m1) = mark m1 refl

  pub in_operand : {w : Tokens} {x : Expr} → IsOperand w x → Balanced w
  in_operand (g.operand h1) = in_primary h1

  pub in_primary : {w : Tokens} {x : ExprKind} → IsPrimary w x → Balanced w
  in_primary (g.integer m1) = named m1 refl
  in_primary (g.string m1) = named m1 refl
  in_primary (g.character m1) = named m1 refl
  in_primary (g.null m1) = mark m1 refl
  in_primary (g.true_word m1) = mark m1 refl
  in_primary (g.false_word m1) = mark m1 refl
  in_primary (g.this m1) = mark m1 refl
  in_primary (g.dollar m1) = mark m1 refl
  in_primary (g.symbol_expr h1) = in_symbol h1
  in_primary (g.paren p1 h2 q3) = opens p1 (inside (in_expr h2) (shuts q3))
  in_primary (g.array m1 h2 m3) = on (mark m1 refl) (on (in_exprs h2) (mark m3 refl))
  in_primary (g.property m1 m2 m3) = on (means m1 refl) (on (mark m2 refl) (named m3 refl))
  in_primary (g.type_of_property m1 p2 h3 q4 m5 m6) = on (mark m1 refl) (opens p2 (inside (in_expr h3) (shuts_on q4 (on (mark m5 refl) (named m6 refl)))))
  in_primary (g.mixin m1 p2 h3 q4) = on (mark m1 refl) (opens p2 (inside (in_expr h3) (shuts q4)))
  in_primary (g.is_expr m1 p2 h3 q4) = on (mark m1 refl) (opens p2 (inside (in_is_tree h3) (shuts q4)))
  in_primary (g.traits m1 p2 m3 m4 h5 q6) = on (mark m1 refl) (opens p2 (inside (named m3 refl) (inside (mark m4 refl) (inside (in_arguments h5) (shuts q6)))))
  in_primary (g.assert m1 p2 h3 q4) = on (mark m1 refl) (opens p2 (inside (in_expr h3) (shuts q4)))
  in_primary (g.assert_with m1 p2 h3 m4 h5 q6) = on (mark m1 refl) (opens p2 (inside (in_expr h3) (inside (mark m4 refl) (inside (in_expr h5) (shuts q6)))))

  pub in_is_tree : {w : Tokens} {x : IsTree} → IsIsTree w x → Balanced w
  in_is_tree (g.is_type h1) = in_type h1
  in_is_tree (g.is_tested h1 h2) = on (in_type h1) (in_is_test h2)

  pub in_is_test : {w : Tokens} {x : IsTest} → IsIsTest w x → Balanced w
  in_is_test (g.test m1 h2 h3) = on (means m1 refl) (on (in_against_what h2) (in_more_names h3))

  pub in_against_what : {w : Tokens} {x : IsAgainst} → IsAgainstWhat w x → Balanced w
  in_against_what (g.against_struct m1) = mark m1 refl
  in_against_what (g.against_type h1) = in_type h1

  pub in_more_names : {w : Tokens} {x : List Name} → MoreNames w x → Balanced w
  in_more_names g.end_names = empty
  in_more_names (g.more_names m1 m2 h3) = on (mark m1 refl) (on (named m2 refl) (in_more_names h3))

  pub in_exprs : {w : Tokens} {x : List Expr} → AreExprs w x → Balanced w
  in_exprs g.no_exprs = empty
  in_exprs (g.exprs h1 h2) = on (in_expr h1) (in_more_exprs h2)

  pub in_more_exprs : {w : Tokens} {x : List Expr} → MoreExprs w x → Balanced w
  in_more_exprs g.end_exprs = empty
  in_more_exprs (g.more_exprs m1 h2 h3) = on (mark m1 refl) (on (in_expr h2) (in_more_exprs h3))

  pub in_arguments : {w : Tokens} {x : List Argument} → AreArguments w x → Balanced w
  in_arguments g.no_arguments = empty
  in_arguments (g.arguments h1 h2) = on (in_argument h1) (in_more_arguments h2)

  pub in_more_arguments : {w : Tokens} {x : List Argument} → MoreArguments w x → Balanced w
  in_more_arguments g.end_arguments = empty
  in_more_arguments (g.more_arguments m1 h2 h3) = on (mark m1 refl) (on (in_argument h2) (in_more_arguments h3))

  pub in_argument : {w : Tokens} {x : Argument} → IsArgument w x → Balanced w
  in_argument (g.value h1) = in_expr h1
  in_argument (g.of_type h1 h2) = on (in_plain_base h1) (in_brackets h2)

  pub in_symbol : {w : Tokens} {x : Symbol} → IsSymbol w x → Balanced w
  in_symbol (g.plain_name m1) = named m1 refl
  in_symbol (g.instance m1 m2 h3) = on (named m1 refl) (on (mark m2 refl) (in_template_arguments h3))

  pub in_template_arguments : {w : Tokens} {x : List Argument} → AreTemplateArguments w x → Balanced w
  in_template_arguments (g.in_parens p1 h2 q3) = opens p1 (inside (in_arguments h2) (shuts q3))
  in_template_arguments (g.one_value h1) = in_single h1
  in_template_arguments (g.one_basic m1) = means m1 refl

  pub in_single : {w : Tokens} {x : ExprKind} → IsSingle w x → Balanced w
  in_single (g.one_name m1) = named m1 refl
  in_single (g.one_integer m1) = named m1 refl
  in_single (g.one_string m1) = named m1 refl
  in_single (g.one_character m1) = named m1 refl

  pub in_type : {w : Tokens} {x : TypeTree} → IsType w x → Balanced w
  in_type (g.type h1 h2) = on (in_base h1) (in_brackets h2)

  pub in_bare_type : {w : Tokens} {x : TypeTree} → IsBareType w x → Balanced w
  in_bare_type (g.bare h1) = in_base h1

  pub in_base : {w : Tokens} {x : Base} → IsBase w x → Balanced w
  in_base (g.named h1 h2) = on (in_symbol h1) (in_more_symbols h2)
  in_base (g.plain h1) = in_plain_base h1

  pub in_more_symbols : {w : Tokens} {x : List Symbol} → MoreSymbols w x → Balanced w
  in_more_symbols g.end_symbols = empty
  in_more_symbols (g.more_symbols m1 h2 h3) = on (mark m1 refl) (on (in_symbol h2) (in_more_symbols h3))

  pub in_plain_base : {w : Tokens} {x : Base} → IsPlainBase w x → Balanced w
  in_plain_base (g.basic m1) = means m1 refl
  in_plain_base (g.type_of m1 p2 h3 q4) = on (mark m1 refl) (opens p2 (inside (in_expr h3) (shuts q4)))
  in_plain_base (g.immutable_char m1 p2 m3 q4) = on (mark m1 refl) (opens p2 (inside (mark m3 refl) (shuts q4)))

  pub in_brackets : {w : Tokens} {x : List Bracket} → AreBrackets w x → Balanced w
  in_brackets g.no_brackets = empty
  in_brackets (g.open_bracket m1 m2 h3) = on (mark m1 refl) (on (mark m2 refl) (in_brackets h3))
  in_brackets (g.fixed_bracket m1 h2 m3 h4) = on (mark m1 refl) (on (in_expr h2) (on (mark m3 refl) (in_brackets h4)))
