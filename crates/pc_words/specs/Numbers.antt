-- Numbers in the words: one to ten decimal digits.
use Rattle.std.specs.Prelude.{ℕ, ◌+◌, ◌-◌, ◌*◌, Bool, ◌&&◌, nat_le, nat_lt, if◌then◌else◌, List, length, fold, Option, Some, None}
use Rattle.std.specs.List.{list_all}
use Rattle.std.specs.Char.{is_ascii_digit}

abbrev pub is_digits : List ℕ → Bool
is_digits bytes = list_all is_ascii_digit bytes

-- the number that digits spell, the first one counting most
unfoldable pub digits_value : List ℕ → ℕ
digits_value digits = fold (λ value digit. 10 * value + (digit - 48)) 0 digits

-- one to ten digits
abbrev pub is_number : List ℕ → Bool
is_number bytes = nat_lt 0 (length bytes) && (nat_le (length bytes) 10 && is_digits bytes)

-- the number of a text, where it is in a range
abbrev pub number_in : ℕ → ℕ → List ℕ → Option ℕ
number_in least most bytes =
    if is_number bytes && (nat_le least (digits_value bytes) && nat_le (digits_value bytes) most)
    then Some (digits_value bytes) else None
