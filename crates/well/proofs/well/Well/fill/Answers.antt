-- The four cells of a free placement lie in the well.
use Rattle.std.proofs.Common.{◌≡◌, ℕ, ◌<◌, true, get_or, pos, ap, ◌∙◌, arith, rules}
use Rattle.srs.specs.declared.placement.Placement.{Placement}
use Rattle.srs.specs.Cells.{Cell, in_well, cells_of}
use Rattle.srs.proofs.CallerLemmas.{list_all_each, cells_length}
use Rattle.lane_board.specs.Field.{Field}
use Rattle.std.specs.Prelude.{List}
use Rattle.well.specs.Free.{is_free}
use Rattle.well.specs.Lock.{with_cell_at}
use Rattle.well.specs.Well.{filled}
use Rattle.well.proofs.FreeLemmas.{free_inside, free_pivot_inside}
use Rattle.well.proofs.LockLemmas.{together_of}
use Rattle.well.proofs.well.Well.fill.Goals as goal

each_in_well : (F : Field) (q : Placement) (cells : List Cell) (k : ℕ) → cells ≡ cells_of q → is_free F q ≡ true → k < 4 → in_well (get_or cells k (pos 0, pos 0)) ≡ true
each_in_well F q cells k e free below = search (rules, list_all_each, free_inside, cells_length)

pub cells-requires-clause-column : goal.cells-requires-clause-column
cells-requires-clause-column c = omega (arith, (free_pivot_inside _ c.args.placement.now c.requires).in_columns)

pub cells-requires-clause-row : goal.cells-requires-clause-row
cells-requires-clause-row c = omega (arith, (free_pivot_inside _ c.args.placement.now c.requires).in_rows)

pub fill_cell-requires : goal.fill_cell-requires
fill_cell-requires c = each_in_well _ c.args.placement.now c.cells.result 0 c.cells.ensures c.requires (omega arith)

pub fill_cell-requires-2 : goal.fill_cell-requires-2
fill_cell-requires-2 c = each_in_well _ c.args.placement.now c.cells.result 1 c.cells.ensures c.requires (omega arith)

pub fill_cell-requires-3 : goal.fill_cell-requires-3
fill_cell-requires-3 c = each_in_well _ c.args.placement.now c.cells.result 2 c.cells.ensures c.requires (omega arith)

pub fill_cell-requires-4 : goal.fill_cell-requires-4
fill_cell-requires-4 c = each_in_well _ c.args.placement.now c.cells.result 3 c.cells.ensures c.requires (omega arith)

pub returns : goal.returns
returns c =
    c.fill_cell-4.ensures
    ∙ ap (λ F. with_cell_at F (get_or c.cells.result 3 (pos 0, pos 0))) (c.fill_cell-3.ensures
    ∙ ap (λ F. with_cell_at F (get_or c.cells.result 2 (pos 0, pos 0))) (c.fill_cell-2.ensures
    ∙ ap (λ F. with_cell_at F (get_or c.cells.result 1 (pos 0, pos 0))) c.fill_cell.ensures))
    ∙ together_of (filled c.args.self.now) c.args.placement.now c.cells.result (pos 0, pos 0) c.cells.ensures
