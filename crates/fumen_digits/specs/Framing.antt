-- The text round the digits: the prefix, the line breaks, and the end.
use Rattle.std.specs.Prelude.{ℕ, ◌-◌, ◌%◌, List, [], ◌∷◌, ◌++◌, drop, filter, Option, Some, None, Bool, false, not, ◌&&◌, ◌||◌, ◌==◌, nat_eq, nat_le, if◌then◌else◌, codes}
use Rattle.std.specs.List.{list_any, starts_with, take_while, flat_map, enumerate_from}
use Rattle.std.specs.Option.{option_map_or}
use Rattle.fumen_digits.specs.declared.dialect.Dialect.{Dialect}
use Rattle.fumen_digits.specs.declared.dialect.Dialect.TheVariants.{V110, V115}

-- what stands behind the letter of a prefix
abbrev pub version : Dialect → List ℕ
version V110 = codes "110@"
version V115 = codes "115@"

-- whether a text begins with a prefix of this dialect: a letter `v`, `m` or `d`, and the version
abbrev pub has_prefix : Dialect → List ℕ → Bool
has_prefix dialect [] = false
has_prefix dialect (letter ∷ rest) =
    list_any (λ l. l == letter) (codes "vmd") && starts_with nat_eq rest (version dialect)

-- the dialect of the prefix that a text begins with
abbrev pub dialect_at : List ℕ → Option Dialect
dialect_at text = if has_prefix V110 text then Some V110 else (if has_prefix V115 text then Some V115 else None)

-- tabs, line breaks, blanks and `?` are no part of the digits
abbrev pub is_dropped : ℕ → Bool
is_dropped byte = (nat_le 9 byte && nat_le byte 13) || (byte == 32) || (byte == 63)

-- the digits of the text behind a prefix, which goes to the first `&`, or to the end
unfoldable pub digits_behind : List ℕ → List ℕ
digits_behind text = filter (λ byte. not (is_dropped byte)) (take_while (λ byte. not (byte == 38)) text)

-- the dialect and the digits of a text by the first prefix in it, and nothing where none stands there
unfoldable pub digits_in : List ℕ → Option (Dialect × List ℕ)
digits_in [] = None
digits_in (byte ∷ rest) =
    option_map_or (λ dialect. Some (dialect, digits_behind (drop 5 (byte ∷ rest)))) (dialect_at (byte ∷ rest))
    (digits_in rest)

-- a line begins at the digit 42, and at every 47th after it
abbrev pub begins_line : ℕ → Bool
begins_line place = nat_le 42 place && ((place - 42) % 47 == 0)

-- a digit with its place, and a `?` before it where it begins a line
abbrev pub broken_digit : ℕ × ℕ → List ℕ
broken_digit (place, byte) = if begins_line place then 63 ∷ byte ∷ [] else byte ∷ []

-- the text that is written for some digits: a prefix, and the digits in lines
unfoldable pub broken : Dialect → List ℕ → List ℕ
broken dialect ds = (118 ∷ version dialect) ++ flat_map broken_digit (enumerate_from 0 ds)
