-- What the loop of `is_part` keeps.
use Rattle.std.proofs.Common.{◌≡◌, ℕ, ◌<◌, get_or, true}
use Rattle.srs.specs.declared.piece.Piece.TheVariants.{I}
use Rattle.srs.specs.Piece.{all_pieces}
use Rattle.queue_pattern.specs.Queues.{is_in}
use Rattle.tails.proofs.states.is_part.Given as goal

abbrev pub invariant-loop-piece : goal.invariant-loop-piece
invariant-loop-piece l = (k : ℕ) → k < l.piece-index → is_in (get_or all_pieces k I) l.set ≡ true → is_in (get_or all_pieces k I) l.whole ≡ true
