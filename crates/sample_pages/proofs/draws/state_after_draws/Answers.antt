-- One draw more.
use Rattle.std.proofs.Common.{◌∙◌, refl}
use Rattle.sample_pages.specs.Draws.{state_after_draws}
use Rattle.sample_pages.proofs.PageLemmas.{draw_more}
use Rattle.sample_pages.proofs.draws.state_after_draws.Goals as goal

pub loop-init : goal.loop-init
unfolding state_after_draws
loop-init c = refl

pub loop-preserved : goal.loop-preserved
loop-preserved c = c.next_state-after.ensures ∙ draw_more c.loop.after c.loop.counter c.args.state c.loop.invariant
