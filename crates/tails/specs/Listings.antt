-- Listing the tails of states.
use Rattle.std.specs.Prelude.{◌≤◌, List}
use Rattle.queue_pattern.specs.declared.element.Element.{Element}
use Rattle.queue_pattern.specs.Queues.{queue_len}
use Rattle.tails.specs.declared.lists.Lists.{Lists}
use Rattle.tails.specs.declared.states.State.{State}
use Rattle.tails.specs.Lists.{AreListed}
use Rattle.tails.specs.Trees.{AreStates}

-- The states are those of a pattern whose queues have at most 21 pieces.
pub record AreShort (elements : List Element) (states : List State) : Type 0 where
  pub short : queue_len elements ≤ 21
  pub are : AreStates elements states

-- What is listed of them is right.
pub record IsListing (elements : List Element) (states : List State) (lists : Lists) : Type 0 where
  pub are : AreShort elements states
  pub listed : AreListed elements states lists
