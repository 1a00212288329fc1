-- The numbers of a state's tails are put behind the others.
use Rattle.std.proofs.Common.{Some, refl, set}
use Rattle.tails.proofs.ListingSteps.{below-count, listing-done, listing-more, past-count}
use Rattle.tails.proofs.lists.Lists.list.Goals as goal

pub number-next-requires-clause-there : goal.number-next-requires-clause-there
number-next-requires-clause-there c =
    below-count c.args.states.now c.from.result c.args.state_number c.loop-place.place _ c.from.ensures c.requires.within c.loop-place-test.true

pub loop-place-preserved : goal.loop-place-preserved
loop-place-preserved c = λ elements listing.
    let so_far = c.loop-place.invariant elements listing in
    listing-more elements c.args.states.now _ _ c.args.state_number c.len-start.result c.loop-place.place c.number-next.result so_far refl c.in_ok-push.ensures.items
    (c.number-next.ensures elements so_far.listing)

pub returns : goal.returns
returns c = λ elements listing.
    let so_far = c.loop-place.invariant elements listing in
    let past = past-count c.args.states.now c.from.result c.args.state_number c.loop-place.place _ c.from.ensures c.requires.within c.loop-place-test.false in
    listing-done elements c.args.states.now _ _ c.args.state_number c.len-start.result c.loop-place.place so_far c.requires.within past
    (λ i. set c.loop-place.self.starts.items (c.from-2.ensures i) (Some c.len-start.result)) refl
