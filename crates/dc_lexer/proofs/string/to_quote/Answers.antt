use Rattle.dc_lexer.proofs.Quotes.{quote_found, quote_open}
use Rattle.dc_lexer.proofs.string.to_quote.Goals as goal

pub returns-then-end-z : goal.returns-then-end-z
returns-then-end-z c = quote_found c.args.z.now c.past-end.result c.requires c.past-end.ensures.value c.if-end-z.true

pub returns-else-end-z : goal.returns-else-end-z
returns-else-end-z c = quote_open c.args.z.now c.past-end.result c.requires c.past-end.ensures.value c.if-end-z.false
