-- The words of a command line.
use Rattle.std.specs.Prelude.{ℕ, ◌+◌, ◌-◌, ◌*◌, Bool, false, not, ◌&&◌, ◌==◌, nat_le, List, [], ◌∷◌, map, Option, Some, None, String, string_bytes, if◌then◌else◌, codes}
use Rattle.std.specs.declared.alloc.Global.{Global}
use Rattle.std.specs.Str.{bytes_eq}
use Rattle.std.specs.Char.{is_ascii_digit}

-- the bytes of each word
abbrev pub texts_of : List (String Global) → List (List ℕ)
texts_of words = map string_bytes words

-- a file's word isn't empty and doesn't begin with `-`
abbrev pub is_file : List ℕ → Bool
is_file [] = false
is_file (b ∷ bs) = not (b == 45)

-- what digits write behind a number, where it is at most 10 ^ 18
abbrev pub count_from : ℕ → List ℕ → Option ℕ
count_from value [] = Some value
count_from value (b ∷ bs) =
    if is_ascii_digit b && nat_le (value * 10 + (b - 48)) 1000000000000000000 then count_from (value * 10 + (b - 48)) bs else None

-- The number that a word writes in decimal: at most 10 ^ 18, and without a needless 0 in front.
unfoldable pub count_of : List ℕ → Option ℕ
count_of [] = None
count_of (b ∷ []) = count_from 0 (b ∷ [])
count_of (b ∷ c ∷ bs) = if b == 48 then None else count_from 0 (b ∷ c ∷ bs)

-- a file that is to be run, and the most ticks of the run
pub record Job : Type 0 where
  pub file : List ℕ
  pub ticks : ℕ

-- the job of this file, where the word is a file's
abbrev pub run_of : List ℕ → ℕ → Option Job
run_of file ticks = if is_file file then Some (record { file = file; ticks = ticks }) else None

-- the same behind a number of ticks, where there is one
abbrev pub run_within : List ℕ → Option ℕ → Option Job
run_within file None = None
run_within file (Some ticks) = run_of file ticks

-- The job of the words `run FILE` is to run that file in at most 100,000,000 ticks, and that of `run --ticks N FILE` to
-- run it in at most N. All other words are no job.
abbrev pub job_of : List (List ℕ) → Option Job
job_of (command ∷ file ∷ []) = if bytes_eq command (codes "run") then run_of file 100000000 else None
job_of (command ∷ option ∷ count ∷ file ∷ []) =
    if bytes_eq command (codes "run") && bytes_eq option (codes "--ticks") then run_within file (count_of count) else None
job_of other = None
