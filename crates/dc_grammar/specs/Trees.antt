-- How trees are made.
use Rattle.std.specs.Prelude.{ℕ, List, Option}
use Rattle.dc_token.specs.declared.token.Token.{Token}
use Rattle.dc_ast.specs.declared.word.BinaryOperator.{BinaryOperator}
use Rattle.dc_ast.specs.declared.word.IsRelation.{IsRelation}
use Rattle.dc_ast.specs.declared.name.Name.{Name}
use Rattle.dc_ast.specs.declared.expression.Expr.{Expr, roll-Expr}
use Rattle.dc_ast.specs.declared.expression.ExprKind.{ExprKind}
use Rattle.dc_ast.specs.declared.expression.Step.{Step, roll-Step}
use Rattle.dc_ast.specs.declared.expression.Symbol.{Symbol, roll-Symbol}
use Rattle.dc_ast.specs.declared.expression.Argument.{Argument}
use Rattle.dc_ast.specs.declared.expression.IsTree.{IsTree, roll-IsTree}
use Rattle.dc_ast.specs.declared.expression.IsTest.{IsTest, roll-IsTest}
use Rattle.dc_ast.specs.declared.expression.IsAgainst.{IsAgainst}
use Rattle.dc_ast.specs.declared.types.TypeTree.{TypeTree, roll-TypeTree}
use Rattle.dc_ast.specs.declared.types.Base.{Base}
use Rattle.dc_ast.specs.declared.types.Bracket.{Bracket}

abbrev pub expr : ℕ → ExprKind → Expr
expr at kind = roll-Expr (record { at = at; kind = kind })

abbrev pub step : BinaryOperator → Expr → Step
step operator operand = roll-Step (record { operator = operator; operand = operand })

abbrev pub symbol : Name → Option (List Argument) → Symbol
symbol name arguments = roll-Symbol (record { name = name; arguments = arguments })

abbrev pub type_tree : ℕ → Base → List Bracket → TypeTree
type_tree at base brackets = roll-TypeTree (record { at = at; base = base; brackets = brackets })

abbrev pub is_tree : TypeTree → Option IsTest → IsTree
is_tree of test = roll-IsTree (record { of = of; test = test })

abbrev pub is_test : IsRelation → IsAgainst → List Name → IsTest
is_test relation against names = roll-IsTest (record { relation = relation; against = against; names = names })

abbrev pub name_of : Token → Name
name_of token = record { spelling = token.spelling; at = token.start }

abbrev pub spelling_of : Token → List ℕ
spelling_of token = token.spelling
