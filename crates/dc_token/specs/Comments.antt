-- Comments (D specification, "Lexical", "Comments").
use Rattle.std.specs.Prelude.{◌≡◌, true, [], ◌∷◌}
use Rattle.std.specs.List.{list_all}
use Rattle.dc_token.specs.Balance.{Bytes, Stands, Never, ByteApart, Enclosed}
use Rattle.dc_token.specs.Bytes.{Opened, is_not_line_feed}

abbrev pub slash_star : Bytes
slash_star = 47 ∷ 42 ∷ []

abbrev pub star_slash : Bytes
star_slash = 42 ∷ 47 ∷ []

abbrev pub slash_plus : Bytes
slash_plus = 47 ∷ 43 ∷ []

abbrev pub plus_slash : Bytes
plus_slash = 43 ∷ 47 ∷ []

-- `//` and what stands before the next LF
abbrev pub IsLine : Bytes → Type 0
IsLine = Opened 47 47 (λ v. list_all is_not_line_feed v ≡ true)

-- `/*` up to the first `*/`
abbrev pub IsBlock : Bytes → Bytes → Type 0
IsBlock = Enclosed slash_star star_slash Never (ByteApart Never (Stands star_slash))

-- `/+`, a text in which the pairs `/+` and `+/` balance, and `+/`; a byte stands alone only where neither pair stands
abbrev pub IsNested : Bytes → Bytes → Type 0
IsNested = Enclosed slash_plus plus_slash (Stands slash_plus) (ByteApart (Stands slash_plus) (Stands plus_slash))
