-- Four hexadecimal digits.
use Rattle.std.proofs.Common.{◌≡◌, ℕ, ◌+◌, true, ◌&&◌, get_or}
use Rattle.std.proofs.lemmas.Bool.{and_parts}
use Rattle.dc_token.specs.Balance.{Bytes}
use Rattle.dc_token.specs.Bytes.{is_hex}
use Rattle.dc_token.specs.Escapes.{four_hex}

pub third_hex : (t : Bytes) (at : ℕ) → four_hex t at ≡ true → is_hex (get_or t (at + 2) 0) ≡ true
unfolding four_hex
third_hex t at h = (and_parts (is_hex (get_or t at 0) && is_hex (get_or t (at + 1) 0)) (is_hex (get_or t (at + 2) 0)) (and_parts (is_hex (get_or t at 0) && is_hex (get_or t (at + 1) 0) && is_hex (get_or t (at + 2) 0)) (is_hex (get_or t (at + 3) 0)) h).0).1

pub fourth_hex : (t : Bytes) (at : ℕ) → four_hex t at ≡ true → is_hex (get_or t (at + 3) 0) ≡ true
unfolding four_hex
fourth_hex t at h = (and_parts (is_hex (get_or t at 0) && is_hex (get_or t (at + 1) 0) && is_hex (get_or t (at + 2) 0)) (is_hex (get_or t (at + 3) 0)) h).1
