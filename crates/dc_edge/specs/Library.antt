-- What a read of a library answers.
use Rattle.std.specs.Prelude.{◌≡◌, ℕ, List, ◌∷◌, map, Option, Some, None, Result, Ok, Err, IfOk}
use Rattle.std.specs.Ordering.{nat_cmp}
use Rattle.std.specs.Cmp.Lexicographic.{slice_cmp}
use Rattle.std.specs.Result.{IsErrOf}
use Rattle.std.specs.FinMap.{FinMap, from_entries, get}
use Rattle.dc_types.specs.declared.file.File.{File}
use Rattle.dc_edge.specs.declared.library.LibFault.{LibFault}
use Rattle.dc_edge.specs.declared.library.LibFault.TheVariants.{Missing}

-- from the path of a file to its bytes
abbrev pub FileMap : Type 0
FileMap = FinMap (slice_cmp nat_cmp) (List ℕ)

-- the map of a list of files, where the first of two with one path counts
abbrev pub file_map : List File → FileMap
file_map files = from_entries (map (λ file. (file.path, file.bytes)) files)

-- the files are told, and there is none with this path
abbrev pub Lacks : Option FileMap → List ℕ → Type 0
Lacks None path = ⊥
Lacks (Some files) path = get files path ≡ None

-- This may be the text of the file: it is, where the files are told.
abbrev pub MayHold : Option FileMap → List ℕ → List ℕ → Type 0
MayHold None path text = Unit {0}
MayHold (Some files) path text = get files path ≡ Some text

-- what a read answers: the file's bytes, and `Missing` only where the files are told and have no such path
pub record Reads (told : Option FileMap) (path : List ℕ) (result : Result (List ℕ) LibFault) : Type 0 where
  pub text : IfOk result (λ text. MayHold told path text)
  pub missing : IsErrOf result Missing → Lacks told path
