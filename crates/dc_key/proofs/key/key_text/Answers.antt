use Rattle.std.proofs.Common.{◌≡◌, ◌∙◌, ap, ◌++◌}
use Rattle.dc_key.specs.KeyTexts.{text}
use Rattle.dc_key.proofs.Reading.{is_one}
use Rattle.dc_key.proofs.key.key_text.Goals as goal

pub returns-clause-one : goal.returns-clause-one
returns-clause-one c other x y e =
    let is : c.put_args.new.out ≡ text c.args.args.now = c.in_ok-put_args.ensures ∙ ap (λ o. o ++ text c.as_slice.result.now) c.new-out.ensures ∙ ap text c.as_slice.ensures in
    is_one c.args.args.now other c.put_args.new.out is x y e
