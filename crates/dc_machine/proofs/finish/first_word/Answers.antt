use Rattle.std.proofs.Common.{rules, ◌≡◌, ◌+◌, ◌∙◌, ap, take, drop}
use Rattle.dc_machine.specs.Runs.{first_of}
use Rattle.dc_machine.proofs.Firsts.{first_at}
use Rattle.dc_machine.proofs.finish.first_word.Goals as goal

pub returns-in-Some-get : goal.returns-in-Some-get
returns-in-Some-get c =
    let at : c.in-Some.at ≡ c.args.state.now.base + c.args.s = search rules in
    let look = c.in-Some-get.ensures.lookup in
    first_at c.as_slice.result.now c.in-Some.at c.args.n c.in-Some-get.w.now c.if-n-eq0.false (look.3).0 look.1
    ∙ ap (λ i. first_of (take c.args.n (drop i c.as_slice.result.now))) at
    ∙ ap (λ xs. first_of (take c.args.n (drop (c.args.state.now.base + c.args.s) xs))) c.as_slice.ensures.value
