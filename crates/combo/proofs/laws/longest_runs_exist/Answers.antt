-- The best of all permitted runs.
use Rattle.combo.proofs.LongestExists.{longest-exists}
use Rattle.combo.proofs.laws.longest_runs_exist.Goals as goal

pub returns : goal.returns
returns c = longest-exists
