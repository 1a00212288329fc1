-- By nine rows from the frame, else by eight rows at most.
use Rattle.std.proofs.Common.{rules}
use Rattle.std.proofs.lemmas.Int.{to_z-of_z}
use Rattle.lane_board.proofs.board.shifts.moved_rows.Goals as goal

pub returns : goal.returns
returns g c = search (rules, to_z-of_z)
