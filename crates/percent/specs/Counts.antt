-- Counts of the pieces of a hand, with a piece more, and counts as a supply.
use Rattle.std.specs.Prelude.{ℕ, ◌+◌, ◌==◌, if◌then◌else◌, List, slice_index}
use Rattle.srs.specs.declared.piece.Piece.{Piece}
use Rattle.srs.specs.Piece.{piece_code}
use Rattle.prune.specs.Tiling.{Supply}
use Rattle.percent.specs.Fitting.{codes_in}

-- how many of the first so many pieces of a hand, and of one piece more, have a code
unfoldable pub codes_with : Piece → ℕ → ℕ → ℕ → ℕ
codes_with piece count hand code = (if piece_code piece == code then 1 else 0) + codes_in count hand code

-- the supply whose entries stand at the codes
unfoldable pub supply_by : List ℕ → Supply
supply_by counts piece = slice_index counts (piece_code piece)
