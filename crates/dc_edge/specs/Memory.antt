-- Objects in memory.
use Rattle.std.specs.Prelude.{◌≡◌, ℕ, ◌+◌, ◌-◌, ◌^◌, ◌<◌, List, [], ◌∷◌, Option, Some, None, if◌then◌else◌}
use Rattle.std.specs.List.{Contains}
use Rattle.std.specs.Str.{bytes_eq}
use Rattle.dc_types.specs.declared.file.File.{File}

-- the bytes of the first file with that path, in a list
abbrev pub find_file : List ℕ → List File → Option (List ℕ)
find_file path [] = None
find_file path (file ∷ files) = if bytes_eq path file.path then Some file.bytes else find_file path files

abbrev pub bytes_of : Option File → Option (List ℕ)
bytes_of None = None
bytes_of (Some file) = Some file.bytes

-- The call after this number of calls is one of those that fail. From the type's end on, none does.
pub record FailsNext (fails : List ℕ) (calls : ℕ) : Type 0 where
  pub counted : calls < 2 ^ 64 - 1
  pub listed : Contains fails (calls + 1)
