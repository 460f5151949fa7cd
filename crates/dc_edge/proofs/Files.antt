-- A scan of a list of files finds what its map holds.
use Rattle.std.proofs.Common.{◌≡◌, ℕ, List, [], ◌∷◌, ap, sym, ◌∙◌, refl, Bool, cond}
use Rattle.std.specs.Prelude.{map, Option, Some, None}
use Rattle.std.specs.Str.{bytes_eq}
use Rattle.std.specs.Ordering.{nat_cmp}
use Rattle.std.specs.Cmp.Lexicographic.{slice_cmp, texts_ties, nat_list_cmp_total}
use Rattle.std.specs.FinMap.{get, find, get-from_entries}
use Rattle.dc_types.specs.declared.file.File.{File}
use Rattle.dc_edge.specs.Library.{file_map}
use Rattle.dc_edge.specs.Memory.{find_file}

abbrev entry_of : File → List ℕ × List ℕ
entry_of file = (file.path, file.bytes)

scanned : (path : List ℕ) (files : List File) → find (slice_cmp nat_cmp) path (map entry_of files) ≡ find_file path files
scanned path [] = refl
scanned path (file ∷ files) =
    ap (λ (b : Bool). cond b (Some file.bytes) (find (slice_cmp nat_cmp) path (map entry_of files))) (sym (texts_ties path file.path))
    ∙ ap (λ (o : Option (List ℕ)). cond (bytes_eq path file.path) (Some file.bytes) o) (scanned path files)

pub get_file_map : (path : List ℕ) (files : List File) → get (file_map files) path ≡ find_file path files
get_file_map path files = get-from_entries nat_list_cmp_total _ path ∙ scanned path files
