-- Calls, read off what follows an operand.
use Rattle.std.proofs.Common.{◌≡◌, refl, ℕ, List, Option, None, Ok, ap, sym, ◌∙◌}
use Rattle.dc_ast.specs.declared.name.Name.{Name}
use Rattle.dc_ast.specs.declared.word.BasicType.{BasicType}
use Rattle.dc_ast.specs.declared.expression.Argument.{Argument}
use Rattle.dc_ast.specs.declared.expression.ExprKind.{ExprKind}
use Rattle.dc_ast.specs.declared.expression.IsAgainst.{IsAgainst}
use Rattle.dc_ast.specs.declared.expression.Suffix.{Suffix}
use Rattle.dc_ast.specs.declared.types.Base.{Base}
use Rattle.dc_ast.specs.declared.types.Bracket.{Bracket}
use Rattle.dc_ast.specs.declared.expression.Expr.{Expr}
use Rattle.dc_ast.specs.declared.expression.IsTest.{IsTest}
use Rattle.dc_ast.specs.declared.expression.IsTree.{IsTree}
use Rattle.dc_ast.specs.declared.expression.Step.{Step}
use Rattle.dc_ast.specs.declared.expression.Symbol.{Symbol}
use Rattle.dc_ast.specs.declared.types.TypeTree.{TypeTree}
use Rattle.dc_ast.specs.declared.expression.Argument.TheOpen.{Suffix-F}
use Rattle.dc_ast.specs.declared.expression.Argument.TheViews.{roll-Suffix, out-Suffix, roll-out-Suffix}
use Rattle.dc_ast.specs.declared.expression.Argument.TheFolds.{fold-roll-Suffix}
use Rattle.core_front.specs.Building.{Seen, Linked, Called, kind_step, suffix_step, base_step, linked_by, symbol_name, basic_of, called_with, all_called, call_values_of}

abbrev Layer : Type 0
Layer = Suffix-F Argument ExprKind IsAgainst Suffix Base Bracket Expr IsTest IsTree Step Symbol TypeTree

no_call_layer : (f : Layer) → ((es : List Expr) → roll-Suffix f ≡ roll-Suffix (Suffix-F.Call es) → ⊥) → called_with (roll-Suffix f) ≡ None
no_call_layer (Suffix-F.Call es) other = absurd (other es refl)
no_call_layer f other = fold-roll-Suffix ℕ (ℕ → Seen) ℕ Called (Option BasicType) ℕ Seen ℕ ℕ Linked (Option Name) (Option BasicType)
    (λ _. 0) kind_step (λ _. 0) suffix_step base_step (λ _. 0) (λ e. e.kind e.at) (λ _. 0) (λ _. 0)
    (λ s. linked_by s.operator s.operand) (λ s. symbol_name s.name s.arguments) (λ t. basic_of t.base t.brackets) f

no_call_with : (s : Suffix) → ((es : List Expr) → s ≡ roll-Suffix (Suffix-F.Call es) → ⊥) → called_with s ≡ None
no_call_with s other = ap called_with (sym (roll-out-Suffix s)) ∙ no_call_layer (out-Suffix s) (λ es e. other es (sym (roll-out-Suffix s) ∙ e))

pub no_call : (s : Suffix) → ((es : List Expr) → s ≡ roll-Suffix (Suffix-F.Call es) → ⊥) → call_values_of s ≡ Ok None
unfolding call_values_of
no_call s other = ap all_called (no_call_with s other)
