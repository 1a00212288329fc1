-- No cell, and none outside.
use Rattle.std.proofs.lemmas.Bool.{eq-eqb, eqb-true, false≢true}
use Rattle.empty_cells.specs.Empties.{cells_by_column}
use Rattle.tiled_pieces.proofs.PieceLemmas.{lies_back, lies_from, lies_none}
use Rattle.tiled_pieces.proofs.hands.lies_in.Goals as goal

pub returns-then-piece-eq0 : goal.returns-then-piece-eq0
returns-then-piece-eq0 c = ((λ e. absurd (false≢true e)), (λ lies. absurd (lies_none c.args.piece (cells_by_column c.args.cells) c.requires c.if-piece-eq0.true lies)))

pub returns : goal.returns
returns c = (
  (λ is. lies_from c.args.piece c.args.cells c.without.result c.requires c.without.ensures.bits c.if-piece-eq0.false (eqb-true c.without.result 0 is)),
  (λ lies. eq-eqb c.without.result 0 (lies_back c.args.piece c.args.cells c.without.result c.requires c.without.ensures.bits lies)),
)
