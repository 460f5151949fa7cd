use Rattle.std.proofs.Common.{◌≢◌, arith, ◌∙◌, sym}
use Rattle.dc_lexer.proofs.Finding.{line_found, block_found, nested_found, slash_sign_found}
use Rattle.dc_lexer.proofs.Comments.{begins_of}
use Rattle.dc_lexer.proofs.plain.slash.Goals as goal

pub block-requires : goal.block-requires
block-requires c = begins_of 46 41 c.args.z.now c.requires (sym c.byte.ensures.value ∙ c.in-42.is)

pub nested-requires : goal.nested-requires
nested-requires c = begins_of 46 42 c.args.z.now c.requires (sym c.byte.ensures.value ∙ c.in-43.is)

pub past-requires : goal.past-requires
past-requires c = c.byte.ensures.within (λ e. absurd (let is = c.in-47.is in omega arith))

pub returns-in-47 : goal.returns-in-47
returns-in-47 c = line_found c.args.z.now c.past.result (begins_of 46 46 c.args.z.now c.requires (sym c.byte.ensures.value ∙ c.in-47.is)) c.past.ensures.value

pub returns-in-42 : goal.returns-in-42
returns-in-42 c = block_found c.args.z.now c.block.result (begins_of 46 41 c.args.z.now c.requires (sym c.byte.ensures.value ∙ c.in-42.is)) c.block.ensures

pub returns-in-43 : goal.returns-in-43
returns-in-43 c = nested_found c.args.z.now c.nested.result (begins_of 46 42 c.args.z.now c.requires (sym c.byte.ensures.value ∙ c.in-43.is)) c.nested.ensures

pub returns-in_default : goal.returns-in_default
returns-in_default c =
    let a : c.byte.result ≢ 47 = omega arith in
    let b : c.byte.result ≢ 42 = omega arith in
    let d : c.byte.result ≢ 43 = omega arith in
    slash_sign_found c.args.z.now c.sign_len.result c.requires (λ e. a (c.byte.ensures.value ∙ e)) (λ e. b (c.byte.ensures.value ∙ e)) (λ e. d (c.byte.ensures.value ∙ e)) c.sign_len.ensures
