use Rattle.std.proofs.Common.{rules, ◌≡◌, ◌<◌, length, refl, Some}
use Rattle.std.specs.Prelude.{slice_get}
use Rattle.std.proofs.lemmas.Option.{slice_get_read, slice_get_within}
use Rattle.dc_code.specs.Sound.{FunctionFits, end_of}
use Rattle.dc_code.proofs.Loops.{one_more}
use Rattle.dc_code.proofs.check.functions_fit.Goals as goal

pub loop-n-preserved : goal.loop-n-preserved
loop-n-preserved c =
    let lt : c.loop-n.n < length c.args.draft.now.functions = search rules in
    let there : slice_get c.args.draft.now.functions c.loop-n.n ≡ Some c.index-functions-n.result = search (rules, slice_get_read) in
    let fits : FunctionFits c.args.draft.now c.index-functions-n.result (end_of c.args.draft.now c.loop-n.n) = search rules in
    one_more c.args.draft.now.functions c.loop-n.n c.index-functions-n.result (λ k f. FunctionFits c.args.draft.now f (end_of c.args.draft.now k)) there fits c.loop-n.invariant

pub returns : goal.returns
returns c = (λ t n f is. let lt = slice_get_within c.args.draft.now.functions n f is in c.loop-n.invariant n f (search rules) is, λ h. refl)
