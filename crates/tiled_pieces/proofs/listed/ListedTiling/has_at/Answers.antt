-- The kind and the cells are compared.
use Rattle.std.proofs.Common.{arith, sym, ◌∙◌, ◌==◌}
use Rattle.std.proofs.lemmas.Bool.{ne_eqb}
use Rattle.empty_cells.specs.Empties.{empty_cells}
use Rattle.tiled_pieces.proofs.ListedLemmas.{laid_other, laid_same}
use Rattle.tiled_pieces.proofs.listed.ListedTiling.has_at.Goals as goal

pub returns-then-code : goal.returns-then-code
returns-then-code c =
    laid_same c.args.self.now c.args.index c.index-self-index.result c.args.piece (empty_cells c.args.cells.now) c.is_equal.result (omega arith) (sym c.code.ensures ∙ c.if-code.true ∙ c.code-2.ensures) c.is_equal.ensures

pub returns-else-code : goal.returns-else-code
returns-else-code c =
    laid_other c.args.self.now c.args.index c.args.piece (empty_cells c.args.cells.now) (c.code.result == c.code-2.result) (λ same. c.if-code.false (c.code.ensures ∙ same ∙ sym c.code-2.ensures)) (ne_eqb c.code.result c.code-2.result c.if-code.false)
