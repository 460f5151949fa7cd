-- What names stand for.
use Rattle.std.specs.Prelude.{◌≡◌, ℕ, Bool, List, [], ◌∷◌, Option, Some, None, option_map, nat_eq, if◌then◌else◌}
use Rattle.std.specs.List.{slice_get}
use Rattle.std.specs.Str.{bytes_eq}
use Rattle.std.specs.Map.{lookup}
use Rattle.core_front.specs.declared.scope.Local.{Local}
use Rattle.core_front.specs.declared.built.Function.{Function}

-- The table has the number of each, by its key. So no two have one key.
abbrev pub Numbers : {K A : Type 0} → (K → K → Bool) → (A → K) → List (K × ℕ) → List A → Type 0
Numbers {A = A} same key table xs = (i : ℕ) → (x : A) → slice_get xs i ≡ Some x → lookup (same (key x)) table ≡ Some i

-- the first of these that has the key
abbrev pub find : {K A : Type 0} → (K → K → Bool) → (A → K) → K → List A → Option A
find same key q [] = None
find same key q (x ∷ xs) = if same (key x) q then Some x else find same key q xs

abbrev pub kept : {K A : Type 0} → (K → K → Bool) → (A → K) → K → Option A → Option A
kept same key q None = None
kept same key q (Some x) = if same (key x) q then Some x else None

-- the one with the number, where it has the key
abbrev pub by_number : {K A : Type 0} → (K → K → Bool) → (A → K) → K → List A → Option ℕ → Option A
by_number same key q xs None = None
by_number same key q xs (Some i) = kept same key q (slice_get xs i)

abbrev pub name_of_local : Local → List ℕ
name_of_local l = l.name

-- Where the variable is declared that a name stands for. No variable hides another, so at most one has the name.
abbrev pub visible : List ℕ → List Local → Option ℕ
visible q locals = option_map (λ l. l.at) (find bytes_eq name_of_local q locals)

abbrev pub name_of : Function → List ℕ
name_of f = f.name.spelling

abbrev pub place_of : Function → ℕ
place_of f = f.at

-- the function that a name stands for
abbrev pub named : List ℕ → List Function → Option Function
named q functions = find bytes_eq name_of q functions

-- the function that is declared at an offset
abbrev pub function_at : ℕ → List Function → Option Function
function_at at functions = find nat_eq place_of at functions

-- no two functions are declared at one offset
abbrev pub Apart : List Function → Type 0
Apart functions = (i j : ℕ) (f g : Function) → slice_get functions i ≡ Some f → slice_get functions j ≡ Some g → f.at ≡ g.at → i ≡ j
