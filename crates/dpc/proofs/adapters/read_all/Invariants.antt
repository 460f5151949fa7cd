use Rattle.std.specs.Io.KnownBytes.{Consumes}
use Rattle.dpc.proofs.adapters.read_all.Given as goal

abbrev pub invariant-loop : goal.invariant-loop
invariant-loop g l = Consumes (g.F.Read.remaining l.fn.file) (g.F.Read.remaining l.file) l.text
