use Rattle.std.proofs.Common.{refl}
use Rattle.tails.specs.States.{no_state}
use Rattle.tails.proofs.states.State.none.Goals as goal

pub returns : goal.returns
unfolding no_state
returns c = refl
