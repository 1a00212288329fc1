-- What leaves no tiling has nothing to do, and what leaves one leads on.
use Rattle.std.proofs.Common.{subst, arith, rules}
use Rattle.std.proofs.lemmas.Bool.{and_parts, ltb-true}
use Rattle.srs.proofs.CallerLemmas.{some_same, placements_of-list}
use Rattle.lane_board.specs.Words.{cells_of_words}
use Rattle.well.specs.Well.{filled}
use Rattle.well.proofs.CallerLemmas.{free_pivot_inside}
use Rattle.place_sets.specs.LowPlaces.{holds, piece_of}
use Rattle.enumerate.specs.Setups.{IsSupplyAfter}
use Rattle.enumerate.proofs.DeadPlaces.{dead_found, live_found}
use Rattle.enumerate.proofs.PlaceLaws.{lockable_free, lockable-listed, lockable-piece}
use Rattle.enumerate.proofs.frame.Frame.dead_pivots.Goals as goal

pub dead_pivots-requires-clause-listed : goal.dead_pivots-requires-clause-listed
dead_pivots-requires-clause-listed c = λ q is.
    ((placements_of-list (piece_of c.in-Some.places)).members q).1 (lockable-listed (filled c.args.self.now.setup.well) (piece_of c.in-Some.places) q (c.args.self.now.lockable c.in-Some.places c.in-Some.is q is))

pub dead_pivots-requires-clause-inside : goal.dead_pivots-requires-clause-inside
unfolding holds cells_of_words
dead_pivots-requires-clause-inside c =
    search (rules, free_pivot_inside, lockable_free, and_parts, lockable-piece, ltb-true)

pub returns-in-Some-clause-dead : goal.returns-in-Some-clause-dead
returns-in-Some-clause-dead c =
    dead_found c.args.self.now.setup c.args.piece (omega arith) c.args.self.now.next_supply.supply (subst (λ piece. IsSupplyAfter c.args.self.now.setup piece c.args.self.now.next_supply) (c.requires c.in-Some.places c.in-Some.is) (c.args.self.now.supplied c.in-Some.places c.in-Some.is)).supplied c.dead_pivots.result c.dead_pivots.ensures.dead

pub returns-in-Some-clause-live : goal.returns-in-Some-clause-live
returns-in-Some-clause-live c = search (rules, some_same, live_found, lockable-piece)
