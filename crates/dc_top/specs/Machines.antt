-- The machine on a program's code, and how the ends of its runs are those of the program.
use Rattle.std.specs.Prelude.{◌≡◌, ◌∷◌, [], length, Option, Some, Result, Ok, Err}
use Rattle.dc_types.specs.declared.event.Limits.{Limits}
use Rattle.dc_code.specs.declared.code.Draft.{Draft}
use Rattle.dc_edge.specs.declared.sink.SinkFault.{SinkFault}
use Rattle.dc_edge.specs.declared.sink.SinkFault.TheVariants as sink
use Rattle.core_lower.specs.Runs.{Runs}
use Rattle.dc_machine.specs.Program as machine
use Rattle.dc_machine.specs.declared.report.RunEnd.{RunEnd}
use Rattle.dc_machine.specs.declared.report.RunEnd.TheVariants as run
use Rattle.dc_top.specs.declared.program.Program.{Program}
use Rattle.dc_top.specs.declared.program.Ending.{Ending}
use Rattle.dc_top.specs.declared.program.Ending.TheVariants as ending

-- The machine was opened on code that does what the program means, and whose one entry is the program's start.
pub record Holds (program : Program) (limits : Limits) (m : Option machine.Program) : Type 0 where
  pub code : Draft
  pub opened : m ≡ Some (record { code = code; limits = limits })
  pub runs : Runs program.bodies (program.start ∷ []) code
  pub entries : length code.entries ≡ 1

-- how the run of a program ended, by the end of the machine's
abbrev pub ending_from : RunEnd → Result Ending SinkFault
ending_from (run.Value z) = Ok (ending.Number z)
ending_from (run.Trapped trap) = Ok (ending.Trapped trap)
ending_from run.Bound = Ok ending.Bound
ending_from run.WriteFault = Err sink.Failed
ending_from run.NoMemory = Err sink.NoMemory
