use Rattle.std.proofs.Common.{◌<◌, length, take, drop, get_or, sym, ap, ◌∙◌, arith}
use Rattle.std.specs.Prelude.{slice_set}
use Rattle.dc_code.specs.Blocks.{put}
use Rattle.dc_machine.proofs.Puts.{one_word, put_one}
use Rattle.dc_machine.proofs.words.copy_words.Goals as goal

pub returns-then-n-eq1-clause-items : goal.returns-then-n-eq1-clause-items
returns-then-n-eq1-clause-items c =
    let xs = c.args.words.now.items in
    let one = c.if-n-eq1.true in
    let w = c.index-w.result.now in
    let from : c.args.from < length xs = omega (arith, c.requires.from_there, one) in
    let to : c.args.to < length xs = omega (arith, c.requires.to_there, one) in
    ap (slice_set xs c.args.to) c.index-w.ensures ∙ put_one xs c.args.to (get_or xs c.args.from w) to ∙ ap (put xs c.args.to) (sym (one_word xs c.args.from w from)) ∙ ap (λ n. put xs c.args.to (take n (drop c.args.from xs))) (sym one)
