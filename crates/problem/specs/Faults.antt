-- The first thing that keeps a problem from being fit.
use Rattle.std.specs.Prelude.{◌≡◌, ℕ, ◌%◌, ◌<◌, ◌⊎◌, Some, None}
use Rattle.lane_board.specs.Field.{Field}
use Rattle.well.specs.Well.{filled}
use Rattle.well.specs.Counts.{lowest_full, lowest_filled_from}
use Rattle.problem.specs.declared.problem.Problem.{Problem}
use Rattle.problem.specs.declared.fault.ProblemFault.{ProblemFault}
use Rattle.problem.specs.declared.fault.ProblemFault.TheVariants.{BadHeight, FieldTooHigh, FullRow, TooFewPieces}
use Rattle.problem.specs.Problem.{IsFitField, IsFitHeight, empties_of, needed_of, pieces_at_hand}

-- of a field and a height: the height, else the lowest row with a cell at or above it, else the lowest full row
abbrev pub IsFieldFault : Field → ℕ → ProblemFault → Type 0
IsFieldFault F height (BadHeight bad) = (bad ≡ height) × ((height < 1) ⊎ (8 < height))
IsFieldFault F height (FieldTooHigh row) = IsFitHeight height × (lowest_filled_from F height ≡ Some row)
IsFieldFault F height (FullRow row) =
    IsFitHeight height × (lowest_filled_from F height ≡ None) × (lowest_full F ≡ Some row)
IsFieldFault F height (TooFewPieces have need) = ⊥

-- of a problem: what is wrong with its field and height, and where nothing is, that the pieces at hand are fewer than
-- a quarter of the empty cells, where these are a multiple of four
abbrev pub IsFirstFault : Problem → ProblemFault → Type 0
IsFirstFault problem (TooFewPieces have need) = IsFitField (filled problem.well) problem.height
    × (have ≡ pieces_at_hand problem) × (need ≡ needed_of problem)
    × (empties_of problem % 4 ≡ 0) × (have < need)
IsFirstFault problem fault = IsFieldFault (filled problem.well) problem.height fault
