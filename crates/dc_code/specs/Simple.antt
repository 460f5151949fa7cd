-- Instructions on numbers: those on words, tests, calls and prints of numbers and data. They make no blocks, and have no addresses.
use Rattle.dc_code.specs.declared.instr.Op.{Op}
use Rattle.dc_code.specs.declared.instr.Op.TheVariants as op

abbrev pub IsSimple : Op → Type 0
IsSimple (op.Const d w) = Unit {0}
IsSimple (op.Copy d s n) = Unit {0}
IsSimple (op.Binary o k d a b) = Unit {0}
IsSimple (op.Unary o k d a) = Unit {0}
IsSimple (op.Compare o k d a b) = Unit {0}
IsSimple (op.Cast k d a) = Unit {0}
IsSimple (op.Jump t) = Unit {0}
IsSimple (op.JumpZero s t) = Unit {0}
IsSimple (op.JumpOther s t) = Unit {0}
IsSimple op.Turn = Unit {0}
IsSimple (op.Call f a d) = Unit {0}
IsSimple (op.Return s n) = Unit {0}
IsSimple (op.PutInt k s) = Unit {0}
IsSimple (op.PutData g) = Unit {0}
IsSimple op.Flush = Unit {0}
IsSimple (op.Check s t) = Unit {0}
IsSimple _ = ⊥
