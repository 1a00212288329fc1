-- What the loops of `Pattern::parse` keep.
use Rattle.std.proofs.Common.{◌≡◌, ◌≤◌, ◌-◌, List, length}
use Rattle.queue_pattern.specs.declared.element.Element.{Element}
use Rattle.queue_pattern.specs.Builder.{Holds}
use Rattle.queue_pattern.proofs.ParseLemmas.{ReadsOn}
use Rattle.queue_pattern.proofs.pattern.Pattern.parse.Given as goal

abbrev pub invariant-loop-element : goal.invariant-loop-element
invariant-loop-element l = (l.bytes ≡ l.text) × (l.place ≤ length l.bytes) × (front : List Element) × Holds l.builder front × ReadsOn l.text front l.place

abbrev pub decreases-loop-element : goal.decreases-loop-element
decreases-loop-element l = length l.bytes - l.place
