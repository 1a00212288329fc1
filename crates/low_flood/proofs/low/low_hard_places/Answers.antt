-- The field lies on the lanes.
use Rattle.std.proofs.Common.{rules}
use Rattle.lane_board.proofs.CallerLemmas.{field_of-within}
use Rattle.low_flood.proofs.LowLemmas.{hard_by}
use Rattle.low_flood.proofs.low.low_hard_places.Goals as goal

pub returns-then-is_clear_from : goal.returns-then-is_clear_from
returns-then-is_clear_from g c = search (rules, hard_by, field_of-within)

pub returns : goal.returns
returns g c = search (rules, hard_by, field_of-within)
