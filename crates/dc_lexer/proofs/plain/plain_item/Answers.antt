use Rattle.std.proofs.Common.{◌≡◌, Bool, true, false, not, take, sym, ◌∙◌}
use Rattle.dc_token.specs.Items.{PlainSpells, refused}
use Rattle.dc_lexer.proofs.Starts.{plain_starts}
use Rattle.dc_lexer.proofs.Finding.{readable_found, refused_found}
use Rattle.dc_lexer.proofs.plain.plain_item.Goals as goal

not_true : (x : Bool) → true ≡ not x → x ≡ false
not_true true h = absurd (cc)
not_true false h = h2
  where
    h2 : false ≡ false
    h2 = λ _. false

not_false : (x : Bool) → false ≡ not x → x ≡ true
not_false true h = λ _. true
not_false false h = absurd (cc)

pub returns-then-is_readable : goal.returns-then-is_readable
returns-then-is_readable c =
    let z = c.args.z.now in let r = c.longest_item-kind.result in
    readable_found PlainSpells plain_starts z r.0 r.1 c.longest_item-kind.ensures (λ _. not_true (refused r.0 (take r.1 z)) (sym c.if-is_readable.true ∙ c.is_readable.ensures))

pub returns : goal.returns
returns c =
    let z = c.args.z.now in let r = c.longest_item-kind.result in
    refused_found PlainSpells plain_starts z r.0 r.1 c.longest_item-kind.ensures (not_false (refused r.0 (take r.1 z)) (sym c.if-is_readable.false ∙ c.is_readable.ensures))
