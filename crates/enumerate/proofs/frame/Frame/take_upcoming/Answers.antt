-- The next held placement is the first of those that are left.
use Rattle.std.proofs.Common.{refl, rules}
use Rattle.srs.proofs.CallerLemmas.{placements_of-list, some_same}
use Rattle.well.specs.Well.{filled}
use Rattle.place_sets.specs.LowPlaces.{piece_of}
use Rattle.enumerate.specs.Frames.{places_left}
use Rattle.enumerate.proofs.PlaceLaws.{lockable-listed}
use Rattle.enumerate.proofs.Taken.{upcoming-taken}
use Rattle.enumerate.proofs.frame.Frame.take_upcoming.Goals as goal

pub take_above-requires : goal.take_above-requires
take_above-requires c = λ q is.
    ((placements_of-list (piece_of c.in-Some.places)).members q).1 (lockable-listed (filled c.args.self.now.setup.well) (piece_of c.in-Some.places) q (c.args.self.now.lockable c.in-Some.places c.in-Some.is q is))

pub returns-in-None-clause-next : goal.returns-in-None-clause-next
unfolding places_left
returns-in-None-clause-next c = (rw c.in-None.is refl, rw c.in-None.is refl)

pub returns-in-Some-clause-next : goal.returns-in-Some-clause-next
returns-in-Some-clause-next c =
    upcoming-taken c.args.self.now c.in-Some.places c.take_above.new.places c.in-Some.is c.take_above.ensures.piece c.take_above.result c.take_above.ensures.next

pub invariant_of-self-in-Some-clause-same_piece : goal.invariant_of-self-in-Some-clause-same_piece
invariant_of-self-in-Some-clause-same_piece c = search (rules, (c.args.self.now.same_piece c.in-Some.places c.in-Some.is), some_same)
