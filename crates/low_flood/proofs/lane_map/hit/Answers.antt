-- The offset is near.
use Rattle.std.proofs.Common.{rules}
use Rattle.lane_board.proofs.CallerLemmas.{few_rows}
use Rattle.low_flood.proofs.LaneMaps.{near_lane}
use Rattle.low_flood.proofs.lane_map.hit.Goals as goal

pub moved-requires : goal.moved-requires
moved-requires g c = search (rules, few_rows, near_lane)
