-- Text as ECMAScript's `unescape` reads it (Annex B), as units of 16 bits.
use Rattle.std.specs.Prelude.{ℕ, zero, suc, ◌+◌, ◌*◌, List, [], ◌∷◌, drop, Option, Some, None, ◌==◌, if◌then◌else◌, position, codes, option_and_then}
use Rattle.std.specs.Option.{option_or, option_map_or}

-- the value of a hexadecimal digit of either case
unfoldable pub hex_value : ℕ → Option ℕ
hex_value c =
    option_or (position (λ d. d == c) (codes "0123456789ABCDEF")) (position (λ d. d == c) (codes "0123456789abcdef"))

-- the number of the two hexadecimal digits that a text begins with
unfoldable pub hex_byte_at : List ℕ → Option ℕ
hex_byte_at [] = None
hex_byte_at (high ∷ []) = None
hex_byte_at (high ∷ low ∷ rest) =
    option_and_then (λ h. option_and_then (λ l. Some (16 * h + l)) (hex_value low)) (hex_value high)

-- the number of the four hexadecimal digits behind the `u` that a text begins with
unfoldable pub hex_unit_at : List ℕ → Option ℕ
hex_unit_at [] = None
hex_unit_at (u ∷ rest) =
    if u == 117 then option_and_then (λ h. option_and_then (λ l. Some (256 * h + l)) (hex_byte_at (drop 2 rest)))
    (hex_byte_at rest)
    else None

-- The unit that a character stands for, and how many of the characters behind it belong to it. A `%` that
-- is neither `%u` and four hexadecimal digits nor `%` and two stands for itself.
unfoldable pub unit_of : ℕ → List ℕ → ℕ × ℕ
unit_of c rest =
    if c == 37 then option_map_or (λ unit. (unit, 5)) (hex_unit_at rest)
    (option_map_or (λ unit. (unit, 2)) (hex_byte_at rest) (37, 0))
    else (c, 0)

-- the units of a text behind so many characters that belong to the unit before
unfoldable pub unescaped_behind : ℕ → List ℕ → List ℕ
unescaped_behind passed [] = []
unescaped_behind (suc passed) (c ∷ rest) = unescaped_behind passed rest
unescaped_behind zero (c ∷ rest) = (unit_of c rest).0 ∷ unescaped_behind (unit_of c rest).1 rest

abbrev pub unescaped : List ℕ → List ℕ
unescaped text = unescaped_behind 0 text
