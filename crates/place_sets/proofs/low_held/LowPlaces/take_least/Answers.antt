-- The lowest bit of the first word that has one is taken out.
use Rattle.std.proofs.Common.{rules}
use Rattle.place_sets.specs.LowPlaces.{piece_of}
use Rattle.place_sets.proofs.LowPlaceLemmas.{low_least, low_rest}
use Rattle.place_sets.proofs.low_held.LowPlaces.take_least.Goals as goal

pub returns-in-Some-clause-least : goal.returns-in-Some-clause-least
unfolding piece_of
returns-in-Some-clause-least c =
    search (rules, (low_least c.args.self.now c.in-Some.at c.lowest_bit.result c.in-Some.ensures.0 c.lowest_bit.ensures.below c.in-Some.ensures.2 c.lowest_bit.ensures.lowest c.placement_at.result))

pub returns-in-Some-clause-rest : goal.returns-in-Some-clause-rest
unfolding piece_of
returns-in-Some-clause-rest c =
    search (rules, (low_rest c.args.self.now c.in-Some.at c.lowest_bit.result c.in-Some.ensures.0 c.lowest_bit.ensures.below c.in-Some.ensures.2 c.lowest_bit.ensures.lowest c.placement_at.result), (c.without_lowest.ensures.bits c.lowest_bit.result))
