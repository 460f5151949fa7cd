use Rattle.std.proofs.Common.{◌≡◌, length, drop}
use Rattle.dc_code.specs.declared.instr.Op.TheVariants as op
use Rattle.core_lower_expr.specs.Lowered.{instr}
use Rattle.core_lower.specs.Lowered.{set_each}
use Rattle.core_lower.proofs.stmt.set_jumps.Given as goal

abbrev pub invariant-loop-at : goal.invariant-loop-at
invariant-loop-at l =
    let jump = instr l.place (op.Jump l.end) in
    (set_each l.instrs (drop l.at-index l.jumps) jump ≡ set_each l.fn.instrs l.jumps jump) × (length l.instrs ≡ length l.fn.instrs)
