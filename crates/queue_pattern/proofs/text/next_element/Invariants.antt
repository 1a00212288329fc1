-- What the loops of `next_element` keep.
use Rattle.std.proofs.Common.{◌≡◌}
use Rattle.queue_pattern.specs.Grammar.{read_at, outside}
use Rattle.queue_pattern.proofs.text.next_element.Given as goal

abbrev pub invariant-loop-start : goal.invariant-loop-start
invariant-loop-start l = read_at l.text outside l.fn.place ≡ read_at l.text outside l.start
