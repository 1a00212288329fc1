-- Each piece that may be drawn lies inside.
use Rattle.sample_pages.proofs.PageLemmas.{drawn_inside}
use Rattle.sample_pages.proofs.pages.operation_drawn.Goals as goal

pub returns-clause-inside : goal.returns-clause-inside
returns-clause-inside c = drawn_inside _ _ c.draw-3.result c.draw-4.result c.draw-3.ensures.within c.draw-4.ensures.within
