use Rattle.std.proofs.Common.{refl}
use Rattle.dc_edge.specs.Library.{file_map}
use Rattle.dpc.proofs.Alone.{none_rose, both_ways, run_alone, run_program, refused_alone, refused_by}
use Rattle.dpc.proofs.ways.compile_one.Goals as goal

pub returns-then-is_core-clause-runs : goal.returns-then-is_core-clause-runs
returns-then-is_core-clause-runs g c = λ told some of holds run is.
    c.dpc.ensures.runs refl none_rose run
    (run_alone _ told c.args.path.now c.args.text some of holds (file_map c.in-Ok-one_file.files) c.in-Ok-one_file.ensures run is)

pub returns-then-is_core-clause-refuses : goal.returns-then-is_core-clause-refuses
returns-then-is_core-clause-refuses g c = λ told some of holds line is other.
    c.dpc.ensures.refuses refl none_rose line
    (refused_alone _ told c.args.path.now c.args.text some of holds (file_map c.in-Ok-one_file.files) c.in-Ok-one_file.ensures line is)

pub returns-clause-runs : goal.returns-clause-runs
returns-clause-runs g c = λ told some of holds run is.
    let program = run_program _ told c.args.path.now c.args.text some of holds run is in
    absurd (both_ways c.in-Ok.is_core (c.in-Ok.ensures.programs run.program program) c.if-is_core.false)

pub returns-clause-refuses : goal.returns-clause-refuses
returns-clause-refuses g c = λ told some of holds line is other.
    let refused = refused_by _ told c.args.path.now c.args.text some of holds line is in
    absurd (both_ways c.in-Ok.is_core (c.in-Ok.ensures.refusals is.refusal refused other) c.if-is_core.false)
