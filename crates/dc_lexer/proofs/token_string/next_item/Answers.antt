use Rattle.std.proofs.Common.{refl, ◌∙◌, sym}
use Rattle.dc_lexer.proofs.TokenStrings.{string_found, lift}
use Rattle.dc_lexer.proofs.token_string.next_item.Goals as goal

pub returns-then-begins_token_string : goal.returns-then-begins_token_string
returns-then-begins_token_string c = string_found c.args.z.now c.token_string.result (sym (c.begins_token_string.ensures.whole refl) ∙ c.if-begins_token_string.true) c.token_string.ensures

pub returns : goal.returns
returns c = lift c.args.z.now (c.plain_item.result.0, c.plain_item.result.1) (sym (c.begins_token_string.ensures.whole refl) ∙ c.if-begins_token_string.false) c.plain_item.ensures
