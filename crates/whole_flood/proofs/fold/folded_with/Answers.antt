-- The canonical pivot is near.
use Rattle.std.proofs.Common.{rules}
use Rattle.lane_board.proofs.CallerLemmas.{few_rows}
use Rattle.srs.proofs.CallerLemmas.{near_within, canonical_move_near}
use Rattle.whole_flood.proofs.fold.folded_with.Goals as goal

pub moved-moved-requires : goal.moved-moved-requires
moved-moved-requires g c = search (rules, few_rows, near_within, canonical_move_near)
