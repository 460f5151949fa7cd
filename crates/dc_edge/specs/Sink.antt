-- What a put into a sink does.
use Rattle.std.specs.Prelude.{◌≡◌, ℕ, List, ◌++◌, Option, Result, OnOk}
use Rattle.std.specs.Io.KnownBytes.{Appends, Keeps}
use Rattle.std.specs.Result.{IsErrOf}
use Rattle.dc_edge.specs.declared.sink.SinkFault.{SinkFault}
use Rattle.dc_edge.specs.declared.sink.SinkFault.TheVariants.{Failed, NoMemory}

-- what was taken is a front of these bytes
pub record AppendsFront (old new : Option (List ℕ)) (bytes : List ℕ) : Type 0 where
  pub front : List ℕ
  pub back : List ℕ
  pub split : bytes ≡ front ++ back
  pub appended : Appends old new front

-- `Ok` appends the piece, `Failed` a front of it, and `NoMemory` nothing.
pub record Takes (old new : Option (List ℕ)) (piece : List ℕ) (result : Result Unit SinkFault) : Type 0 where
  pub done : OnOk result (Appends old new piece)
  pub failed : IsErrOf result Failed → AppendsFront old new piece
  pub wanted : IsErrOf result NoMemory → Keeps old new
