-- What stands at an offset in a text.
use Rattle.std.specs.Prelude.{◌≡◌, List, ◌++◌, drop}
use Rattle.std.specs.List.{Contains}
use Rattle.dc_token.specs.declared.token.Token.{Token}
use Rattle.dc_token.specs.Balance.{Bytes}
use Rattle.dc_token.specs.Text.{IsTokens}
use Rattle.core_front.specs.Front.{spelling_at}

-- At the offset of a token of a text it is that token's spelling, and the text goes on with it there.
pub record StandsThere (text : Bytes) (tokens : List Token) (token : Token) : Type 0 where
  pub spelled : spelling_at tokens token.start ≡ token.spelling
  pub stands : drop token.start text ≡ token.spelling ++ drop token.end text

abbrev pub SpellsEach : Type 0
SpellsEach = (text : Bytes) (tokens : List Token) (token : Token) → IsTokens text tokens → Contains tokens token → StandsThere text tokens token
