-- The lines that `selfrun` writes.
use Rattle.std.specs.Prelude.{ℕ, Bool, true, false, List, [], ◌∷◌, ◌++◌, codes, decimal}

abbrev pub yes_or_no : Bool → List ℕ
yes_or_no true = codes "yes"
yes_or_no false = codes "no"

-- the line of what has a name, as `pages 12`
unfoldable pub named_line : List ℕ → List ℕ → List ℕ
named_line name text = name ++ 32 ∷ text ++ 10 ∷ []

-- How many pages there are, how many bytes their fumen text has, whether it reads as them, the column, and how many
-- solutions its problem has.
unfoldable pub selfrun_form : ℕ → ℕ → Bool → ℕ → ℕ → List ℕ
selfrun_form pages bytes same column solutions =
    named_line (codes "pages") (decimal pages)
    ++ (named_line (codes "bytes") (decimal bytes)
    ++ (named_line (codes "same") (yes_or_no same)
    ++ (named_line (codes "column") (decimal column)
    ++ named_line (codes "solutions") (decimal solutions))))
