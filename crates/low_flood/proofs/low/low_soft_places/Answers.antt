-- The field lies on the lanes.
use Rattle.std.proofs.Common.{rules}
use Rattle.lane_board.proofs.CallerLemmas.{field_of-within}
use Rattle.low_flood.proofs.LowLemmas.{lanes_clear, soft_places_by}
use Rattle.low_flood.proofs.low.low_soft_places.Goals as goal

pub soft_copies-requires : goal.soft_copies-requires
soft_copies-requires g c = search (rules, lanes_clear, field_of-within)

pub soft_copies-requires-2 : goal.soft_copies-requires-2
soft_copies-requires-2 g c = search (rules, lanes_clear, field_of-within)

pub returns-then-is_clear_from : goal.returns-then-is_clear_from
returns-then-is_clear_from g c = search (rules, soft_places_by, field_of-within)

pub returns : goal.returns
returns g c = search (rules, soft_places_by, field_of-within)
