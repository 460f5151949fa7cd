-- Names of modules (D specification, "Modules", "Module Declaration").
use Rattle.std.specs.Prelude.{ℕ, ◌-◌, suc, Bool, ◌==◌, List, [], ◌∷◌, length, take, if◌then◌else◌}
use Rattle.std.specs.List.{list_any}

-- the byte stands in the list
abbrev pub has : ℕ → List ℕ → Bool
has mark bytes = list_any (λ b. b == mark) bytes

-- what stands behind the last byte of this value, or all where there is none
abbrev pub behind_last : ℕ → List ℕ → List ℕ
behind_last mark [] = []
behind_last mark (b ∷ bs) = if has mark bs then behind_last mark bs else (if b == mark then bs else b ∷ bs)

-- what stands before the last byte of this value, or all where there is none
abbrev pub before_last : ℕ → List ℕ → List ℕ
before_last mark bytes = if has mark bytes then take (length bytes - suc (length (behind_last mark bytes))) bytes else bytes

-- A file's module is named as the file, without its folder (up to the last `/`) and its last extension (from the last `.`).
abbrev pub default_name : List ℕ → List ℕ
default_name path = before_last 46 (behind_last 47 path)
