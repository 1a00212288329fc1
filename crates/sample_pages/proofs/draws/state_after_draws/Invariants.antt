-- So many draws were made.
use Rattle.std.proofs.Common.{◌≡◌}
use Rattle.sample_pages.specs.Draws.{state_after_draws}
use Rattle.sample_pages.proofs.draws.state_after_draws.Given as goal

abbrev pub invariant-loop : goal.invariant-loop
invariant-loop l = l.after ≡ state_after_draws l.counter l.state
