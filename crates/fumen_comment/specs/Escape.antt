-- Text as ECMAScript's `escape` writes it (Annex B), from units of 16 bits.
use Rattle.std.specs.Prelude.{ℕ, ◌/◌, ◌%◌, ◌^◌, ◌<◌, ◌≤◌, All, Option, List, [], ◌∷◌, ◌++◌, Bool, ◌==◌, nat_lt, if◌then◌else◌, slice_index, codes}
use Rattle.std.specs.List.{list_any, flat_map}
use Rattle.std.specs.Option.{ForSome}

-- a character from the blank to `~`
abbrev pub IsPrintable : ℕ → Type 0
IsPrintable c = (32 ≤ c) × (c ≤ 126)

-- the characters that stay: letters, digits and seven marks
unfoldable pub stays : ℕ → Bool
stays byte = list_any (λ c. c == byte) (codes "ABCDEFGHIJKLMNOPQRSTUVWXYZabcdefghijklmnopqrstuvwxyz0123456789@*_+-./")

-- a hexadecimal digit, with capitals
unfoldable pub hex_digit : ℕ → ℕ
hex_digit value = slice_index (codes "0123456789ABCDEF") value

-- the two hexadecimal digits of a byte, the high one first
abbrev pub hex_byte : ℕ → List ℕ
hex_byte byte = hex_digit (byte / 16) ∷ hex_digit (byte % 16) ∷ []

-- a unit below 256 stays, or is `%` and two hexadecimal digits; another one is `%u` and four
abbrev pub escaped_unit : ℕ → List ℕ
escaped_unit unit =
    if nat_lt unit 256 then (if stays unit then unit ∷ [] else 37 ∷ hex_byte unit)
    else 37 ∷ 117 ∷ hex_byte (unit / 256) ++ hex_byte (unit % 256)

-- the escaped text of some units
unfoldable pub escaped : List ℕ → List ℕ
escaped units = flat_map escaped_unit units

-- the units of a comment, if there is one, have 16 bits
abbrev pub HasUnits : Option (List ℕ) → Type 0
HasUnits comment = ForSome comment (λ units. All (λ unit. unit < 2 ^ 16) units)
