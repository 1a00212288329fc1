-- No bit is set.
use Rattle.std.proofs.Common.{◌+◌, ◌*◌, nat_lt}
use Rattle.std.proofs.Math.Path.{fun_ext}
use Rattle.std.proofs.lemmas.Bool.{and_right}
use Rattle.lane_board.specs.Field.{empty_field}
use Rattle.lane_board.proofs.CallerLemmas.{has_bit-zero}
use Rattle.empty_cells.specs.Empties.{cells_by_column, empty_cells}
use Rattle.empty_cells.proofs.empties.Empties.empty.Goals as goal

pub returns : goal.returns
unfolding empty_cells cells_by_column empty_field
returns c = fun_ext (λ x. fun_ext (λ y. and_right (nat_lt y 8) _ (has_bit-zero (8 * x + y))))
