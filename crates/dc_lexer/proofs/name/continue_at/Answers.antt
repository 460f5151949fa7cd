use Rattle.std.proofs.Common.{◌+◌, get_or, drop, ◌∙◌, sym, subst}
use Rattle.dc_token.specs.Vocabulary.{is_xid_continue}
use Rattle.dc_lexer.specs.Fronts.{PassesFor}
use Rattle.dc_token.proofs.Lists.{one_more, rest_of}
use Rattle.dc_lexer.proofs.Names.{passes_ascii, passes_not}
use Rattle.dc_lexer.proofs.name.continue_at.Goals as goal

pub returns-then-b-ge128 : goal.returns-then-b-ge128
returns-then-b-ge128 c = subst (λ x. PassesFor is_xid_continue x c.continue_len.result) (rest_of c.args.z.now c.args.at) c.continue_len.ensures

pub returns-then-is_word : goal.returns-then-is_word
returns-then-is_word c = passes_ascii (drop c.args.at c.args.z.now) (get_or c.args.z.now c.args.at 0) (drop (c.args.at + 1) c.args.z.now) (one_more c.args.z.now c.args.at c.requires) c.if-b-ge128.false (sym c.is_word.ensures ∙ c.if-is_word.true)

pub returns-else-is_word : goal.returns-else-is_word
returns-else-is_word c = passes_not (drop c.args.at c.args.z.now) (get_or c.args.z.now c.args.at 0) (drop (c.args.at + 1) c.args.z.now) (one_more c.args.z.now c.args.at c.requires) c.if-b-ge128.false (sym c.is_word.ensures ∙ c.if-is_word.false)
