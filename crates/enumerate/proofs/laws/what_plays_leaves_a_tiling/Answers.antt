-- What plays to the end clears all rows.
use Rattle.prune.proofs.CallerLemmas.{cleared_is_tiled}
use Rattle.enumerate.proofs.TilingLaws.{plays-clears}
use Rattle.enumerate.proofs.laws.what_plays_leaves_a_tiling.Goals as goal

pub returns : goal.returns
returns c = λ table mode F height sequence within below plays. cleared_is_tiled F height sequence within below (plays-clears table mode F height sequence plays)
