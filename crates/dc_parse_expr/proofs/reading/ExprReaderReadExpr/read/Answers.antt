use Rattle.std.proofs.Common.{◌≡◌, ℕ, ◌-◌, length, take, drop, ap, subst, arith, length-drop}
use Rattle.dc_grammar.specs.Terminals.{Tokens}
use Rattle.dc_grammar.specs.Grammar.{IsExpr}
use Rattle.dc_grammar.specs.Reads.{Longest}
use Rattle.dc_grammar.proofs.Laws.{every_expr, found, nothing_there, nothing_behind, whole_text, shorter_rest}
use Rattle.dc_parse_expr.proofs.reading.ExprReaderReadExpr.read.Goals as goal

text : (tokens : Tokens) (from : ℕ) → take (length tokens - from) (drop from tokens) ≡ drop from tokens
text tokens from = whole_text (length tokens - from) (drop from tokens) (omega (arith, length-drop from tokens))

pub returns-then-from-tokens : goal.returns-then-from-tokens
returns-then-from-tokens c to other le is =
    let ts = c.as_slice-tokens.result.now in
    let same : ts ≡ c.args.tokens.now = c.as_slice-tokens.ensures in
    let less : length ts ≡ length c.args.tokens.now = ap length same in
    nothing_behind every_expr c.args.tokens.now c.args.from (omega arith) to other is

pub overflow_sub-result : goal.overflow_sub-result
overflow_sub-result c =
    let ts = c.as_slice-tokens.result.now in
    let h = shorter_rest every_expr (drop c.args.from ts) c.in-Ok.tree c.in-Ok.rest.now (rw (text ts c.args.from) at c.in-Ok.ensures) in
    omega (arith, h, length-drop c.args.from ts)

pub returns-in-Ok : goal.returns-in-Ok
returns-in-Ok c =
    let ts = c.as_slice-tokens.result.now in
    let same : ts ≡ c.args.tokens.now = c.as_slice-tokens.ensures in
    let less : length ts ≡ length c.args.tokens.now = ap length same in
    subst (λ (us : Tokens). Longest IsExpr us c.args.from c.in-Ok.tree (length ts - length c.in-Ok.rest.now)) same (found every_expr ts c.args.from c.in-Ok.tree c.in-Ok.rest.now (omega arith) (rw (text ts c.args.from) at c.in-Ok.ensures))

pub returns-in-Err-Nothing : goal.returns-in-Err-Nothing
returns-in-Err-Nothing c to other le is =
    let ts = c.as_slice-tokens.result.now in
    let same : ts ≡ c.args.tokens.now = c.as_slice-tokens.ensures in
    nothing_there every_expr c.args.tokens.now c.args.from (rw (same, text c.args.tokens.now c.args.from) at (rw c.in-Err-Nothing.field-0-is at c.in-Err-Nothing.ensures)) to other is
