-- The bits of the shape, moved, or none where the pivot lies too far off.
use Rattle.std.proofs.Common.{rules}
use Rattle.lane_board.proofs.CallerLemmas.{has_bit-zero}
use Rattle.empty_cells.proofs.PlacedBits.{none_placed, placed_bit}
use Rattle.empty_cells.proofs.placed.bits_of.Goals as goal
use Rattle.empty_cells.proofs.placed.bits_of.Goals.{then-x-gt11-via-then-x-gt11, then-x-gt11-via-else-x-gt11+then-y-gt9}

pub returns-then-x-gt11 : goal.returns-then-x-gt11
returns-then-x-gt11 c = search (rules, has_bit-zero, none_placed)

pub returns : goal.returns
returns c = search (rules, placed_bit)
