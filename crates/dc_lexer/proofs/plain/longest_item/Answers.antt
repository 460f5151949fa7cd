use Rattle.std.proofs.Common.{◌≡◌, true, false, [], ◌∷◌, ◌∙◌, sym, subst, get_or}
use Rattle.dc_lexer.specs.Leads.{Means}
use Rattle.dc_lexer.proofs.Finding.{quoted_found, backquoted_found, blank_found, sign_found, character_found}
use Rattle.dc_lexer.proofs.Strings.{string_opened, first_one}
use Rattle.dc_lexer.proofs.plain.longest_item.Goals as goal

pub returns-in-Blank : goal.returns-in-Blank
returns-in-Blank c =
    let b = get_or c.args.z.now 0 0 in
    blank_found c.args.z.now c.past.result (subst (λ l. Means l b) c.in-Blank.is c.lead_of.ensures.means) c.requires.some c.past.ensures.value

pub word-requires-clause-letter : goal.word-requires-clause-letter
word-requires-clause-letter c = let b = get_or c.args.z.now 0 0 in subst (λ l. Means l b) c.in-Letter.is c.lead_of.ensures.means

pub number-requires : goal.number-requires
number-requires c = let b = get_or c.args.z.now 0 0 in subst (λ l. Means l b) c.in-Digit.is c.lead_of.ensures.means

pub slash-requires : goal.slash-requires
slash-requires c = let b = get_or c.args.z.now 0 0 in subst (λ l. Means l b) c.in-Slash.is c.lead_of.ensures.means

pub point-requires : goal.point-requires
point-requires c = let b = get_or c.args.z.now 0 0 in subst (λ l. Means l b) c.in-Point.is c.lead_of.ensures.means

pub character-requires : goal.character-requires
character-requires c = let b = get_or c.args.z.now 0 0 in subst (λ l. Means l b) c.in-Apostrophe.is c.lead_of.ensures.means

pub returns-in-Quote : goal.returns-in-Quote
returns-in-Quote c =
    let b = get_or c.args.z.now 0 0 in
    let h : b ≡ 34 = subst (λ l. Means l b) c.in-Quote.is c.lead_of.ensures.means in
    quoted_found c.args.z.now c.string_len.result h (string_opened (34 ∷ []) c.args.z.now 1 34 true c.string_len.result (first_one c.args.z.now 33 h) c.string_len.ensures)

pub returns-in-Backquote : goal.returns-in-Backquote
returns-in-Backquote c =
    let b = get_or c.args.z.now 0 0 in
    let h : b ≡ 96 = subst (λ l. Means l b) c.in-Backquote.is c.lead_of.ensures.means in
    backquoted_found c.args.z.now c.string_len-in-Backquote.result h (string_opened (96 ∷ []) c.args.z.now 1 96 false c.string_len-in-Backquote.result (first_one c.args.z.now 95 h) c.string_len-in-Backquote.ensures)

pub returns-in-Apostrophe : goal.returns-in-Apostrophe
returns-in-Apostrophe c = let b = get_or c.args.z.now 0 0 in character_found c.args.z.now c.character.result (subst (λ l. Means l b) c.in-Apostrophe.is c.lead_of.ensures.means) c.character.ensures

pub returns-in-Other : goal.returns-in-Other
returns-in-Other c = let b = get_or c.args.z.now 0 0 in sign_found c.args.z.now c.sign_len.result (sym c.lead_of.ensures.value ∙ c.in-Other.is) (subst (λ l. Means l b) c.in-Other.is c.lead_of.ensures.means) c.sign_len.ensures
