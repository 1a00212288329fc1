-- Lists of numbers, as sets.
use Rattle.std.specs.Prelude.{ℕ, ◌==◌, Bool, List}
use Rattle.std.specs.List.{list_any}

-- whether a list has a number
unfoldable pub has_number : List ℕ → ℕ → Bool
has_number xs number = list_any (λ x. x == number) xs
