use Rattle.std.proofs.Common.{inl, inr, sym, subst, ◌∙◌}
use Rattle.dc_lexer.specs.Fronts.{CharacterBody}
use Rattle.dc_token.proofs.Lists.{rest_of}
use Rattle.dc_lexer.proofs.Quotes.{character_none, character_some}
use Rattle.dc_lexer.proofs.string.character.Goals as goal
use Rattle.dc_lexer.proofs.string.character.Goals.{then-size-eq0-via-then-size-eq0, then-size-eq0-via-else-size-eq0+then-byte-ne39}

pub returns-then-size-eq0 : goal.returns-then-size-eq0
returns-then-size-eq0 c =
    let z = c.args.z.now in let n = c.character_body-size.result in
    character_none z n (subst (λ x. CharacterBody x n) (rest_of z 1) c.character_body-size.ensures)
    (elim c.then-size-eq0.branch [
      | then-size-eq0-via-then-size-eq0 w ↦ inl w.if-size-eq0.true
      | then-size-eq0-via-else-size-eq0+then-byte-ne39 w ↦ inr (λ e. w.if-byte-ne39.true (w.byte.ensures.value ∙ e))
    ])

pub returns : goal.returns
returns c =
    let z = c.args.z.now in let n = c.character_body-size.result in
    character_some z n c.requires (subst (λ x. CharacterBody x n) (rest_of z 1) c.character_body-size.ensures) c.if-size-eq0.false (sym c.byte.ensures.value ∙ c.if-byte-ne39.false)
