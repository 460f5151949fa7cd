-- Numbers of places, of which the first counts.
use Rattle.std.specs.Prelude.{ℕ, Option, Some, None}

abbrev pub else_found : Option ℕ → Option ℕ → Option ℕ
else_found None other = other
else_found (Some n) other = Some n
