use Rattle.std.proofs.Common.{◌≡◌, drop}
use Rattle.core_front.specs.Programs.{program_from, program_of}
use Rattle.core_front.proofs.programs.program.Given as goal

-- the program so far, with the rest
abbrev pub invariant-loop-d : goal.invariant-loop-d
invariant-loop-d l = program_from l.program (drop l.d-index l.declarations) ≡ program_of l.declarations
