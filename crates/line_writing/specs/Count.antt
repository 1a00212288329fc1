-- The line of a count.
use Rattle.std.specs.Prelude.{ℕ, List, [], ◌∷◌, ◌++◌, decimal}

-- a name with its blank, and a count, as `good 12`
unfoldable pub count_form : List ℕ → ℕ → List ℕ
count_form name count = name ++ decimal count ++ 10 ∷ []
