-- A function value that reads expressions to a depth.
use Rattle.std.specs.Prelude.{ℕ, List, Result}
use Rattle.std.specs.declared.alloc.Global.{Global}
use denote.Ref.{Bor}
use Rattle.dc_token.specs.declared.token.Token.{Token}
use Rattle.dc_ast.specs.declared.expression.Expr.{Expr}
use Rattle.dc_grammar.specs.declared.level.Level.{Level}
use Rattle.dc_grammar.specs.declared.miss.Miss.{Miss}
use Rattle.dc_grammar.specs.Readers.{expr_to}
use Rattle.dc_grammar.specs.Gives.{Gives}

pub record Nests (depth : ℕ) (pre : Global → Bor (List Token) → ℕ → Level → Type 0)
    (post : Global → Bor (List Token) → ℕ → Level → Result (Expr × Bor (List Token)) Miss → Type 0) : Type 0 where
  pub callable : (alloc : Global) (tokens : Bor (List Token)) (level : Level) → pre alloc tokens depth level
  pub reads : (alloc : Global) (tokens : Bor (List Token)) (level : Level) (r : Result (Expr × Bor (List Token)) Miss) → post alloc tokens depth level r
      → Gives (λ x. (x.0, x.1.now)) r (expr_to depth level tokens.now)
