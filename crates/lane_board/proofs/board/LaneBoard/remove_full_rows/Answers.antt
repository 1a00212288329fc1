-- Where no row is full the board stays.
use Rattle.std.proofs.Common.{ℕ, Bool, sym, ap, ◌∙◌}
use Rattle.lane_board.specs.Board.{field_of}
use Rattle.lane_board.specs.Lanes.{has_bit, cells_of_bits}
use Rattle.lane_board.proofs.BoardRows.{cell_within}
use Rattle.lane_board.proofs.Removal.{without_full_rows-none}
use Rattle.lane_board.proofs.RowBits.{has_bit-zero}
use Rattle.lane_board.proofs.board.LaneBoard.remove_full_rows.Goals as goal

pub returns-then-full-eq0-clause-cells : goal.returns-then-full-eq0-clause-cells
unfolding field_of
returns-then-full-eq0-clause-cells g c =
    let b = c.args.self.now in
    let none = λ (y : ℕ). sym (ap (λ (full : ℕ → Bool). full y) c.full_rows-full.ensures.rows) ∙ ap (λ mask. has_bit mask y) c.if-full-eq0.true ∙ has_bit-zero y in
    without_full_rows-none (cells_of_bits b.rows) g.row.N (λ x y filled. (cell_within g.row.N b.rows x y b.size b.in_columns filled).1) none
