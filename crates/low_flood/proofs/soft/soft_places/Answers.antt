-- A board for each rotation.
use Rattle.std.proofs.Common.{rules}
use Rattle.lane_board.specs.Board.{field_of}
use Rattle.lane_board.proofs.CallerLemmas.{field_of-within}
use Rattle.low_flood.specs.SoftLanes.{soft_board}
use Rattle.place_sets.specs.States.{states_of}
use Rattle.low_flood.proofs.SoftPlaces.{many_rows, soft_by}
use Rattle.low_flood.proofs.LanePlaceLemmas.{each_cut}
use Rattle.low_flood.proofs.soft.soft_places.Goals as goal

pub returns : goal.returns
unfolding states_of
returns g c =
    search (rules, (soft_by (field_of c.args.filled.now) g.row.N g.row.M c.args.piece (states_of c.free_boards-free.result) (states_of c.flood-reached.result)), (many_rows g.row.N c.args.filled.now.lane_count), (field_of-within c.args.filled.now), (each_cut g.row.M (soft_board c.args.piece g.row.N (states_of c.free_boards-free.result) (states_of c.flood-reached.result))))
