use Rattle.std.proofs.Common.{subst, ◌<◌, ◌≤◌, length, arith}
use Rattle.dc_token.specs.Balance.{Bytes}
use Rattle.dc_top.specs.Texts.{IsFailOf}
use Rattle.dc_top.proofs.Judging.{large_fails, handed_on, on_lexing, on_parsing, on_naming, on_module}
use Rattle.dc_top.proofs.text.parse_text.Goals as goal

pub returns-then-bytes-gt-MOST_BYTES-clause-refused : goal.returns-then-bytes-gt-MOST_BYTES-clause-refused
returns-then-bytes-gt-MOST_BYTES-clause-refused c =
    let bytes = c.as_slice-bytes.result.now in let large : 1048576 < length bytes = omega arith in
    subst (λ (b : Bytes). IsFailOf c.args.file.now b c.refuse.result) c.as_slice-bytes.ensures (large_fails c.args.file.now bytes c.refuse.result large c.refuse.ensures)

pub returns-in_err-tokens-clause-refused : goal.returns-in_err-tokens-clause-refused
returns-in_err-tokens-clause-refused c =
    let file = c.args.file.now in let text = c.args.text.now in let bytes = c.as_slice-bytes.result.now in let fail = c.in_err-tokens.field-0.0 in
    let small : length bytes ≤ 1048576 = omega arith in
    handed_on file text c.from_residual-in_err-tokens.result fail c.from_residual-in_err-tokens.ensures.1
    (on_lexing file text bytes c.in_ok-at.at fail c.as_slice-bytes.ensures c.in_ok-at.ensures small c.in_err-tokens.ensures.failed)

pub returns-in_err-tree-clause-refused : goal.returns-in_err-tree-clause-refused
returns-in_err-tree-clause-refused c =
    let file = c.args.file.now in let text = c.args.text.now in let bytes = c.as_slice-bytes.result.now in let fail = c.in_err-tree.field-0.0 in
    let small : length bytes ≤ 1048576 = omega arith in
    handed_on file text c.from_residual-in_err-tree.result fail c.from_residual-in_err-tree.ensures.1
    (on_parsing file text bytes c.in_ok-at.at c.in_ok-tokens.tokens c.as_slice-bytes.ensures c.in_ok-at.ensures small c.in_ok-tokens.ensures.tokens fail c.in_err-tree.ensures)

pub returns-in_err-name-clause-refused : goal.returns-in_err-name-clause-refused
returns-in_err-name-clause-refused c =
    let file = c.args.file.now in let text = c.args.text.now in let bytes = c.as_slice-bytes.result.now in let fail = c.in_err-name.field-0.0 in
    let small : length bytes ≤ 1048576 = omega arith in
    handed_on file text c.from_residual-in_err-name.result fail c.from_residual-in_err-name.ensures.1
    (on_naming file text bytes c.in_ok-at.at c.in_ok-tokens.tokens c.as_slice-bytes.ensures c.in_ok-at.ensures small c.in_ok-tokens.ensures.tokens c.in_ok-tree.tree fail c.in_ok-tree.ensures c.in_err-name.ensures.nameless)

pub returns-clause-parsed : goal.returns-clause-parsed
returns-clause-parsed c =
    let file = c.args.file.now in let text = c.args.text.now in let bytes = c.as_slice-bytes.result.now in
    let small : length bytes ≤ 1048576 = omega arith in
    on_module file text bytes c.in_ok-at.at c.in_ok-tokens.tokens c.as_slice-bytes.ensures c.in_ok-at.ensures small c.in_ok-tokens.ensures.tokens c.in_ok-tree.tree c.in_ok-name.name c.in_ok-tree.ensures c.in_ok-name.ensures.has c.in_ok-name.ensures.name
