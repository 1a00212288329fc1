-- Both sets have cells in rows 0 to 7 alone.
use Rattle.std.proofs.Common.{◌≡◌, ◌+◌, ◌*◌, Bool, not, ◌&&◌, nat_lt, ◌∙◌, rules}
use Rattle.std.proofs.Math.Path.{fun_ext}
use Rattle.lane_board.specs.Field.{difference}
use Rattle.lane_board.specs.Lanes.{has_bit}
use Rattle.empty_cells.specs.Empties.{cells_by_column, empty_cells}
use Rattle.empty_cells.proofs.empties.Empties.without_cells.Goals as goal

in_rows : (low here taken : Bool) → ((low && here) && not taken) ≡ ((low && here) && not (low && taken))
in_rows low here taken = search rules

pub returns : goal.returns
unfolding difference empty_cells cells_by_column
returns c = fun_ext (λ x. fun_ext (λ y. c.without_bits.ensures x y ∙ in_rows (nat_lt y 8) (has_bit c.args.self.now.cells (8 * x + y)) (has_bit c.args.taken.now.cells (8 * x + y))))
