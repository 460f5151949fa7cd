-- Laws of the words.
use Rattle.std.specs.Prelude.{◌≡◌, ℕ, ◌≤◌, List, Some}
use Rattle.std.specs.Fmt.{decimal}
use Rattle.dc_top.specs.Words.{count_of}

-- A word writes a number exactly where it is the decimal of that number, and the number is at most 10 ^ 18.
pub record WritesDecimal (word : List ℕ) (n : ℕ) : Type 0 where
  pub spelled : count_of word ≡ Some n → word ≡ decimal n
  pub within : count_of word ≡ Some n → n ≤ 1000000000000000000
  pub read : word ≡ decimal n → n ≤ 1000000000000000000 → count_of word ≡ Some n

abbrev pub CountsAreDecimals : Type 0
CountsAreDecimals = (word : List ℕ) (n : ℕ) → WritesDecimal word n
