-- The rows of the word that are left, if there are any.
use Rattle.std.proofs.Common.{rules}
use Rattle.place_sets.proofs.low_held.rows_under.Goals as goal

pub returns : goal.returns
returns g c = search rules
