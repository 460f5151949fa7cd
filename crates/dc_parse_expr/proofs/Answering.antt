-- What the parser answers where the text is no expression.
use Rattle.std.proofs.Common.{◌≡◌, ℕ, ◌-◌, ◌<◌, ◌≤◌, [], length, take, None, Err, sym, ap, subst, ◌∙◌, arith}
use Rattle.std.specs.Prelude.{slice_range}
use Rattle.dc_types.specs.declared.place.Place.{Place}
use Rattle.dc_types.specs.declared.refusal.Fail.{Fail}
use Rattle.dc_types.specs.declared.refusal.Fail.TheVariants.{Refused, NoMemory}
use Rattle.dc_ast.specs.declared.expression.Expr.{Expr}
use Rattle.dc_grammar.specs.Terminals.{Tokens, start_of}
use Rattle.dc_grammar.specs.Grammar.{IsExpr}
use Rattle.dc_grammar.specs.Reads.{Longest}
use Rattle.dc_grammar.proofs.Laws.{whole_text}
use Rattle.dc_parse_expr.specs.Parses.{IsAnswer, IsFail}

whole_range : (tokens : Tokens) → slice_range tokens 0 (length tokens) ≡ tokens
whole_range tokens = let e : length tokens - 0 ≡ length tokens = omega arith in ap (λ (n : ℕ). take n tokens) e ∙ whole_text (length tokens) tokens (omega arith)

pub no_tree : (tokens : Tokens) (at : Place) (fail : Fail) → IsFail 2 at (start_of tokens) [] fail → ((tree : Expr) → IsExpr tokens tree → ⊥) → IsAnswer None None tokens at (Err fail)
no_tree tokens at (Refused refusal) h never = (h, never)
no_tree tokens at NoMemory h never = tt

pub none_at_all : (tokens : Tokens) → ((to : ℕ) (other : Expr) → to ≤ length tokens → IsExpr (slice_range tokens 0 to) other → ⊥) → (tree : Expr) → IsExpr tokens tree → ⊥
none_at_all tokens h tree is = h (length tokens) tree (omega arith) (subst (λ (w : Tokens). IsExpr w tree) (sym (whole_range tokens)) is)

pub none_so_long : (tokens : Tokens) (found : Expr) (end : ℕ) → Longest IsExpr tokens 0 found end → end < length tokens → (tree : Expr) → IsExpr tokens tree → ⊥
none_so_long tokens found end h less tree is = let most = h.longest (length tokens) tree (omega arith) (subst (λ (w : Tokens). IsExpr w tree) (sym (whole_range tokens)) is) in absurd (omega arith)

pub the_tree : (tokens : Tokens) (found : Expr) (end : ℕ) → Longest IsExpr tokens 0 found end → length tokens ≤ end → IsExpr tokens found
the_tree tokens found end h more =
    let within = h.within in
    let same : end ≡ length tokens = omega arith in
    subst (λ (w : Tokens). IsExpr w found) (ap (λ (n : ℕ). slice_range tokens 0 n) same ∙ whole_range tokens) h.is
