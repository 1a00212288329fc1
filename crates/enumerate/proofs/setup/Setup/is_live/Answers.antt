-- The supply of the queues is that of their line.
use Rattle.std.proofs.Common.{rules}
use Rattle.enumerate.specs.Setups.{state_of}
use Rattle.enumerate.specs.SearchState.{can_be_tiled, is_live}
use Rattle.enumerate.proofs.setup.Setup.is_live.Goals as goal

pub returns : goal.returns
unfolding is_live can_be_tiled state_of
returns c = search rules
