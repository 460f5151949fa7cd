-- How commands end.
use Rattle.std.specs.Prelude.{◌≡◌, ◌⊎◌}
use Rattle.dc_types.specs.declared.status.Status.{Status}
use Rattle.dc_types.specs.declared.status.Status.TheVariants as status

-- It is no status of faults of the outside.
abbrev pub IsCalm : Status → Type 0
IsCalm s = (s ≡ status.WriteFault → ⊥) × (s ≡ status.ReadFault → ⊥)

-- The result is this one, unless a put failed or memory was wanted.
abbrev pub IsOrFails : Status → Status → Type 0
IsOrFails wanted result = (result ≡ wanted) ⊎ ((result ≡ status.WriteFault) ⊎ (result ≡ status.NoMemory))
