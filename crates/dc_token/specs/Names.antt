-- Identifiers (D specification, "Lexical", "Identifiers"), by the XID classes of Unicode.
use Rattle.std.specs.Prelude.{◌≡◌, ℕ, true, List, ◌∷◌}
use Rattle.std.specs.List.{list_all}
use Rattle.std.specs.Str.{encode_utf8_all, all_scalars}
use Rattle.unicode_ident.specs.Ident.{is_xid_continue}
use Rattle.dc_token.specs.Balance.{Bytes}
use Rattle.dc_token.specs.Vocabulary.{starts_name}

-- The UTF-8 of a character that starts a name, and of characters that continue one.
pub record IsName (w : Bytes) : Type 0 where
  pub first : ℕ
  pub more : List ℕ
  pub parts : w ≡ encode_utf8_all (first ∷ more)
  pub scalars : all_scalars (first ∷ more) ≡ true
  pub begins : starts_name first ≡ true
  pub goes : list_all is_xid_continue more ≡ true
