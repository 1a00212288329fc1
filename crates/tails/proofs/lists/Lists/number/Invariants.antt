-- What the loop of `Lists::number` keeps.
use Rattle.std.proofs.Common.{List}
use Rattle.queue_pattern.specs.declared.element.Element.{Element}
use Rattle.tails.specs.Listings.{IsListing}
use Rattle.tails.specs.Lists.{number_at}
use Rattle.tails.specs.States.{state_at}
use Rattle.tails.proofs.ListLemmas.{Reading}
use Rattle.tails.proofs.lists.Lists.number.Given as goal

abbrev pub invariant-loop : goal.invariant-loop
invariant-loop l = (elements : List Element) → IsListing elements l.states l.self
    → Reading elements l.states (number_at elements (state_at l.states l.fn.state_number) l.fn.place) l.state_number l.place l.counter l.unit l.sum
