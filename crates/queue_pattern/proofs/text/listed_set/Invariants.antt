-- What the loops of `listed_set` keep.
use Rattle.std.proofs.Common.{◌≡◌, ◌<◌}
use Rattle.queue_pattern.specs.Grammar.{read_at, listing}
use Rattle.queue_pattern.proofs.text.listed_set.Given as goal

abbrev pub invariant-loop-place : goal.invariant-loop-place
invariant-loop-place l =
    (l.listed < 128) × (read_at l.text (listing l.start l.except 0) l.fn.place ≡ read_at l.text (listing l.start l.except l.listed) l.place)
