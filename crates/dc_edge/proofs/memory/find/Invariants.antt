use Rattle.std.proofs.Common.{◌≡◌, drop}
use Rattle.dc_edge.specs.Memory.{find_file}
use Rattle.dc_edge.proofs.memory.find.Given as goal

abbrev pub invariant-loop-file : goal.invariant-loop-file
invariant-loop-file l = find_file l.path l.files ≡ find_file l.path (drop l.file-index l.files)
