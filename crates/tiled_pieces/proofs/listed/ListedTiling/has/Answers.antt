-- Each index is tried.
use Rattle.std.proofs.Common.{refl, arith}
use Rattle.std.proofs.lemmas.Bool.{false≢true}
use Rattle.empty_cells.specs.Empties.{empty_cells}
use Rattle.tiled_pieces.proofs.ListedLemmas.{none_at_all, none_first, none_next}
use Rattle.tiled_pieces.proofs.listed.ListedTiling.has.Goals as goal

pub loop-index-init : goal.loop-index-init
loop-index-init c = none_first c.args.self.now (record { piece = c.args.piece; cells = empty_cells c.args.cells.now })

pub loop-index-preserved : goal.loop-index-preserved
loop-index-preserved c = none_next c.args.self.now (record { piece = c.args.piece; cells = empty_cells c.args.cells.now }) c.loop-index.index c.has_at.result c.loop-index.invariant c.has_at.ensures c.if-has_at.false

pub returns-then-has_at : goal.returns-then-has_at
returns-then-has_at c = (λ _. record { index = c.loop-index.index; known = c.loop-index-test.true; there = c.has_at.ensures.0 c.if-has_at.true }, λ _. refl)

pub returns : goal.returns
returns c = (λ yes. absurd (false≢true yes), λ has. absurd (none_at_all c.args.self.now (record { piece = c.args.piece; cells = empty_cells c.args.cells.now }) c.loop-index.index c.loop-index.invariant (omega (arith, c.loop-index-test.false)) has))
