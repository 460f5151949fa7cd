use Rattle.std.proofs.Common.{◌≡◌, ◌++◌, take, map}
use Rattle.dc_code.specs.Numbers.{byte_of}
use Rattle.dc_machine.proofs.prints.put_bytes.Given as goal

abbrev pub invariant-loop-w : goal.invariant-loop-w
invariant-loop-w l = l.text.items ≡ l.fn.text.items ++ map byte_of (take l.w-index l.words)
