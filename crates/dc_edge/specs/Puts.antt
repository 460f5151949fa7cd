-- What several puts into a sink do, one after another.
use Rattle.std.specs.Prelude.{◌≡◌, ℕ, List, ◌++◌, Option, Result, OnOk, OnErr}
use Rattle.std.specs.Io.KnownBytes.{Appends, Keeps}
use Rattle.dc_edge.specs.declared.sink.SinkFault.{SinkFault}
use Rattle.dc_edge.specs.Sink.{AppendsFront}

-- `Ok` appends all of it, and a fault a front of it
pub record Prints (old new : Option (List ℕ)) (whole : List ℕ) (result : Result Unit SinkFault) : Type 0 where
  pub done : OnOk result (Appends old new whole)
  pub front : OnErr result (AppendsFront old new whole)

-- of the whole, all but the rest is appended
pub record Went (first now : Option (List ℕ)) (rest whole : List ℕ) : Type 0 where
  pub written : List ℕ
  pub appended : Appends first now written
  pub together : written ++ rest ≡ whole
