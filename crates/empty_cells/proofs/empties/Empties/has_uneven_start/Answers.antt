-- The columns up to a wall are an uneven part.
use Rattle.std.proofs.Common.{ap, ◌%◌, ◌∙◌}
use Rattle.empty_cells.proofs.RefusalLemmas.{start_untiled}
use Rattle.empty_cells.proofs.empties.Empties.has_uneven_start.Goals as goal

pub returns-then-up_to-ne0-clause-none : goal.returns-then-up_to-ne0-clause-none
returns-then-up_to-ne0-clause-none c = λ _ supply. start_untiled _ supply (record {
  last = c.loop-last.last;
  near = c.loop-last-test.true;
  wall = c.is_walled.ensures.0 c.if-is_walled.true;
  uneven = λ even. c.if-up_to-ne0.true (ap (λ n. n % 4) c.up_to.ensures ∙ even);
})
