-- What the first byte of an item can begin.
use Rattle.std.specs.Prelude.{◌≡◌, ◌≢◌, ℕ, Bool, true, false, if◌then◌else◌, ◌==◌}
use Rattle.std.specs.Char.{is_ascii_digit}
use Rattle.dc_token.specs.Bytes.{is_blank, is_letter}
use Rattle.dc_token.specs.declared.item.Item.{Item}
use Rattle.dc_token.specs.declared.item.Item.TheVariants as item
use Rattle.dc_lexer.specs.declared.lead.Lead.{Lead}
use Rattle.dc_lexer.specs.declared.lead.Lead.TheVariants as lead_is

abbrev pub lead : ℕ → Lead
lead b =
    if is_blank b then lead_is.Blank
    else (if is_letter b then lead_is.Letter
    else (if is_ascii_digit b then lead_is.Digit
    else (if b == 47 then lead_is.Slash
    else (if b == 34 then lead_is.Quote
    else (if b == 96 then lead_is.Backquote
    else (if b == 39 then lead_is.Apostrophe
    else (if b == 46 then lead_is.Point
    else lead_is.Other)))))))

-- what is known of such a byte
abbrev pub Means : Lead → ℕ → Type 0
Means lead_is.Blank b = is_blank b ≡ true
Means lead_is.Letter b = is_letter b ≡ true
Means lead_is.Digit b = is_ascii_digit b ≡ true
Means lead_is.Slash b = b ≡ 47
Means lead_is.Quote b = b ≡ 34
Means lead_is.Backquote b = b ≡ 96
Means lead_is.Apostrophe b = b ≡ 39
Means lead_is.Point b = b ≡ 46
Means lead_is.Other b = b ≢ 47

abbrev pub can_begin : Lead → Item → Bool
can_begin lead_is.Blank item.Blank = true
can_begin lead_is.Letter item.Name = true
can_begin lead_is.Letter item.TokenString = true
can_begin lead_is.Letter item.Raw = true
can_begin lead_is.Letter item.Delimited = true
can_begin lead_is.Letter item.HexString = true
can_begin lead_is.Digit item.Decimal = true
can_begin lead_is.Digit item.Hexadecimal = true
can_begin lead_is.Digit item.Binary = true
can_begin lead_is.Digit item.Float = true
can_begin lead_is.Digit item.HexFloat = true
can_begin lead_is.Slash item.LineComment = true
can_begin lead_is.Slash item.BlockComment = true
can_begin lead_is.Slash item.NestedComment = true
can_begin lead_is.Slash item.Sign = true
can_begin lead_is.Quote item.Quoted = true
can_begin lead_is.Backquote item.Backquoted = true
can_begin lead_is.Apostrophe item.Character = true
can_begin lead_is.Point item.Sign = true
can_begin lead_is.Point item.PointFloat = true
can_begin lead_is.Other item.Sign = true
can_begin c other = false
