-- No hand, no cell left, and one more piece.
use Rattle.std.proofs.Common.{sym, ap, subst, ◌∙◌}
use Rattle.empty_cells.specs.Spans.{HasNoCell}
use Rattle.empty_cells.specs.Empties.{cells_by_column}
use Rattle.tiled_pieces.proofs.WalkLemmas.{empty_cells_of, some_cell, visit_carried, visit_found, visit_none}
use Rattle.tiled_pieces.proofs.walk.visit.Goals as goal

pub returns-then-hands-eq0 : goal.returns-then-hands-eq0
returns-then-hands-eq0 c = visit_none c.args.pieces.now c.args.drops c.args.allowed.now (cells_by_column c.args.cells) c.args.set c.args.table.now c.if-hands-eq0.true

pub returns-then-left-eq0 : goal.returns-then-left-eq0
returns-then-left-eq0 c = visit_found c.args.pieces.now c.args.drops c.args.allowed.now (cells_by_column c.args.cells) c.args.set c.args.table.now
    (subst HasNoCell c.after-left.ensures.left (empty_cells_of c.after-left.result.0 c.if-left-eq0.true))

pub returns : goal.returns
returns c = visit_carried c.args.pieces.now c.args.drops c.args.allowed.now (cells_by_column c.args.cells) c.args.set c.args.table.now c.carry.new.table
    c.new.result.drops (cells_by_column c.new.result.cells) c.after-left.result.1 c.new.ensures.drops (ap cells_by_column c.new.ensures.cells ∙ c.after-left.ensures.left) c.after-left.ensures.number
    (subst (λ n. HasNoCell (cells_by_column n) → ⊥) (sym c.new.ensures.cells) (some_cell c.after-left.result.0 c.if-left-eq0.false)) c.carry.ensures
