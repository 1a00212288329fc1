-- What the loop of `Lists::list` keeps.
use Rattle.std.proofs.Common.{List}
use Rattle.queue_pattern.specs.declared.element.Element.{Element}
use Rattle.tails.specs.Listings.{IsListing}
use Rattle.tails.proofs.ListingSteps.{Listing}
use Rattle.tails.proofs.lists.Lists.list.Given as goal

abbrev pub invariant-loop-place : goal.invariant-loop-place
invariant-loop-place l = (elements : List Element) → IsListing elements l.states l.fn.self
    → Listing elements l.states l.self l.state_number l.start l.place
