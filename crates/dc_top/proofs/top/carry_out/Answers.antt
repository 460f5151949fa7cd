use Rattle.std.proofs.Common.{inr, refl}
use Rattle.dc_edge.proofs.Puts.{same_keeps}
use Rattle.dc_top.proofs.Endings.{refused_front, run_answers}
use Rattle.dc_top.proofs.top.carry_out.Goals as goal

pub returns-in-Err-Failed-put-2-clause-answers : goal.returns-in-Err-Failed-put-2-clause-answers
returns-in-Err-Failed-put-2-clause-answers g c =
    let decided = rw c.in-Ok-Refused.field-0-is at c.in-Ok-Refused.ensures.plan in
    let put = rw c.in-Err-Failed-put-2.field-0-is at c.in-Err-Failed-put-2.ensures.content in
    let took = rw c.as_slice-in-Ok-Refused.ensures at put.failed in
    inr (same_keeps (g.S.Sink.taken c.args.out.now), refused_front _ _ _ _ _ _ c.in-Ok-Refused.line decided.0 (took refl))

pub returns-clause-answers : goal.returns-clause-answers
returns-clause-answers g c =
    let decided = rw c.in-Ok-Run.field-0-is at c.in-Ok-Run.ensures.plan in
    run_answers c.in-Ok-Run.run' _ _ _ _ _ _ _ _ c.perform.result decided.0 c.perform.ensures.follows
