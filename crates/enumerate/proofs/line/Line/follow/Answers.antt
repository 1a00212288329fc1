-- The line of the queues after the piece.
use Rattle.enumerate.specs.SearchState.{may_play}
use Rattle.enumerate.proofs.TryLemmas.{line-permits}
use Rattle.enumerate.proofs.line.Line.follow.Goals as goal

pub follow-self-requires : goal.follow-self-requires
follow-self-requires c = line-permits _ c.args.piece c.requires

pub invariant_of-self : goal.invariant_of-self
unfolding may_play
invariant_of-self c = record { coming = c.follow-self.ensures.coming }
