use Rattle.std.proofs.Common.{◌≡◌, true, false, ℕ, get_or, [], ◌∷◌, ◌∙◌, sym, subst}
use Rattle.dc_token.specs.Balance.{Bytes}
use Rattle.dc_token.specs.Bytes.{begins}
use Rattle.dc_token.specs.Strings.{IsToQuote}
use Rattle.dc_lexer.specs.Fronts.{Longest}
use Rattle.dc_lexer.proofs.Finding.{name_found, raw_found, delimited_found, hex_string_found, begun_first}
use Rattle.dc_lexer.proofs.Strings.{string_opened, first_two}
use Rattle.dc_lexer.proofs.plain.word.Goals as goal

opener : (a : ℕ) (z : Bytes) → begins a 34 z ≡ true → begins (get_or z 0 0) 34 z ≡ true
opener a z h = subst (λ x. begins x 34 z ≡ true) (sym (begun_first a 34 z h).0) h

to_quote : (a n : ℕ) (z : Bytes) → begins a 34 z ≡ true → Longest (IsToQuote (get_or z 0 0)) z n → Longest (IsToQuote a) z n
to_quote a n z h l = subst (λ x. Longest (IsToQuote x) z n) (begun_first a 34 z h).0 l

pub returns-then-begins : goal.returns-then-begins
returns-then-begins c =
    let h = sym c.begins.ensures ∙ c.if-begins.true in
    raw_found c.args.z.now c.string_len.result h c.requires.letter (string_opened (114 ∷ 34 ∷ []) c.args.z.now 2 34 false c.string_len.result (first_two c.args.z.now 114 34 h) c.string_len.ensures)

pub to_quote-requires : goal.to_quote-requires
to_quote-requires c = opener 113 c.args.z.now (sym c.begins-2.ensures ∙ c.if-begins-2.true)

pub returns-then-begins-2 : goal.returns-then-begins-2
returns-then-begins-2 c =
    let h = sym c.begins-2.ensures ∙ c.if-begins-2.true in
    delimited_found c.args.z.now c.to_quote.result h c.requires.letter (to_quote 113 c.to_quote.result c.args.z.now h c.to_quote.ensures)

pub to_quote-requires-then-begins-3 : goal.to_quote-requires-then-begins-3
to_quote-requires-then-begins-3 c = opener 120 c.args.z.now (sym c.begins-3.ensures ∙ c.if-begins-3.true)

pub returns-then-begins-3 : goal.returns-then-begins-3
returns-then-begins-3 c =
    let h = sym c.begins-3.ensures ∙ c.if-begins-3.true in
    hex_string_found c.args.z.now c.to_quote-then-begins-3.result h c.requires.letter (to_quote 120 c.to_quote-then-begins-3.result c.args.z.now h c.to_quote-then-begins-3.ensures)

pub returns : goal.returns
returns c = name_found c.args.z.now c.name.result c.requires.no_string (sym c.begins.ensures ∙ c.if-begins.false) (sym c.begins-2.ensures ∙ c.if-begins-2.false) (sym c.begins-3.ensures ∙ c.if-begins-3.false) c.requires.letter c.name.ensures
