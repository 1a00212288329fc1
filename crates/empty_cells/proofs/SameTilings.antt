-- A tiling of the empty cells below some rows is one of the set of these cells.
use Rattle.std.proofs.Common.{◌≡◌, ℕ, ◌≤◌, ◌↔◌, pos, rules}
use Rattle.std.proofs.Math.Path.{fun_ext}
use Rattle.std.proofs.lemmas.Bool.{false≢true, and_right, lt-ltb, ltb-true}
use Rattle.lane_board.specs.Field.{Field, rows_below, difference}
use Rattle.srs.specs.Cells.{Cell, cells_of}
use Rattle.prune.specs.Tiling.{is_empty_below, Tiling, Supply}
use Rattle.prune.proofs.CallerLemmas.{same_tiling}
use Rattle.srs.specs.declared.placement.Placement.{Placement}
use Rattle.srs.specs.SameCells.{is_among}
use Rattle.well.specs.Lock.{with_cells, together}
use Rattle.empty_cells.specs.Empties.{all_but, without_placement}
use Rattle.empty_cells.proofs.StackLemmas.{apart}

empties_same : (F : Field) (rows height : ℕ) → rows ≤ height → (cell : Cell) → is_empty_below (all_but (difference (rows_below rows) F)) height cell ≡ is_empty_below F rows cell
unfolding is_empty_below all_but difference rows_below
empties_same F rows height few h4 = search (rules, lt-ltb, ltb-true, and_right, false≢true)

-- the empty cells of rows 0 to rows - 1, as a set
pub tiling_below : (F : Field) (rows height : ℕ) (supply : Supply) → rows ≤ height → Tiling (all_but (difference (rows_below rows) F)) height supply ↔ Tiling F rows supply
tiling_below F rows height supply few = search (rules, same_tiling, empties_same)

-- what a placement leaves of the empty cells
pub left_by_placement : (F : Field) (rows : ℕ) (q : Placement) → without_placement (difference (rows_below rows) F) q ≡ difference (rows_below rows) (together F q)
unfolding without_placement difference together with_cells
left_by_placement F rows q = fun_ext (λ x. fun_ext (λ y. apart (rows_below rows x y) (F x y) (is_among (cells_of q) (pos x, pos y))))
