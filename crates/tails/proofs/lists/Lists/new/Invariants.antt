-- What the loops of `Lists::new` keep.
use Rattle.std.proofs.Common.{List}
use Rattle.queue_pattern.specs.declared.element.Element.{Element}
use Rattle.tails.specs.Listings.{AreShort, IsListing}
use Rattle.tails.proofs.lists.Lists.new.Given as goal

abbrev pub invariant-loop-index : goal.invariant-loop-index
invariant-loop-index l = (elements : List Element) → AreShort elements l.states → IsListing elements l.states l.lists

abbrev pub invariant-loop-set : goal.invariant-loop-set
invariant-loop-set l = (elements : List Element) → AreShort elements l.states → IsListing elements l.states l.lists
