-- The exit status of each end of a command.
use Rattle.std.specs.Prelude.{ℕ}
use Rattle.dc_types.specs.declared.status.Status.{Status}
use Rattle.dc_types.specs.declared.status.Status.TheVariants.{Done, Usage, Refused, Trapped, Bound, EndedWith, ReadFault, WriteFault, NoMemory}

abbrev pub number_of : Status → ℕ
number_of Done = 0
number_of Usage = 2
number_of Refused = 10
number_of Trapped = 11
number_of Bound = 12
number_of EndedWith = 13
number_of ReadFault = 20
number_of WriteFault = 21
number_of NoMemory = 22
