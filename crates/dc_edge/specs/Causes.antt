-- Counts of faults.
use Rattle.std.specs.Prelude.{◌≡◌, ℕ, ◌+◌, ◌-◌, ◌^◌, ◌≤◌, min, max}

-- The count rose by one at least, or it stands at its type's end. It didn't fall.
abbrev pub Rose : ℕ → ℕ → Type 0
Rose before now = max before (min (before + 1) (2 ^ 64 - 1)) ≤ now

-- The count rises where this fails, and stays everywhere else.
pub record CountsFaults (before now : ℕ) (Fails : Type 0) : Type 0 where
  pub rose : Fails → Rose before now
  pub kept : (Fails → ⊥) → now ≡ before
