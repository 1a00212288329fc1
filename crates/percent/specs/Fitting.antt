-- How many pieces of each kind a hand has.
use Rattle.std.specs.Prelude.{ℕ, zero, suc, ◌+◌, ◌/◌, ◌%◌, ◌==◌, if◌then◌else◌}
use Rattle.srs.specs.Piece.{piece_code}
use Rattle.prune.specs.Tiling.{Supply}

-- how many of the first so many pieces of a hand have a code
unfoldable pub codes_in : ℕ → ℕ → ℕ → ℕ
codes_in zero hand code = 0
codes_in (suc count) hand code = (if hand % 8 == code then 1 else 0) + codes_in count (hand / 8) code

-- the supply of the first so many pieces of a hand
unfoldable pub supply_at : ℕ → ℕ → Supply
supply_at count hand piece = codes_in count hand (piece_code piece)
