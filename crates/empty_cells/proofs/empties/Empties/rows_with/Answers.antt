-- The lowest eight bits of the shifted set.
use Rattle.std.proofs.Common.{ℕ, ◌+◌, ◌*◌, ◌<◌, ◌≡◌, ◌&&◌, nat_lt, List, ◌∙◌, ◌/◌, ◌^◌, rules}
use Rattle.std.specs.List.{list_all}
use Rattle.std.proofs.lemmas.Bool.{lt-ltb}
use Rattle.lane_board.specs.Lanes.{has_bit}
use Rattle.lane_board.proofs.CallerLemmas.{and_true, has_bit-and, has_bit-shifted_right}
use Rattle.empty_cells.specs.Empties.{cells_by_column, empty_cells}
use Rattle.empty_cells.specs.Spans.{columns_of, has_span}
use Rattle.empty_cells.proofs.RowLemmas.{ones}
use Rattle.empty_cells.proofs.empties.Empties.rows_with.Goals as goal

each_column : (columns : List ℕ) (n x y : ℕ) → y < 8 → list_all (λ c. has_bit (n / 2 ^ (8 * x)) (8 * c + y)) columns ≡ list_all (λ c. nat_lt y 8 && has_bit n (8 * (x + c) + y)) columns
each_column columns n x y low = search (rules, has_bit-shifted_right, lt-ltb)

pub returns : goal.returns
unfolding empty_cells cells_by_column has_span
returns c = λ y low.
    has_bit-and c.starts.result 255 y ∙ and_true _ _ (ones y low)
    ∙ c.starts.ensures y ∙ each_column (columns_of c.args.span) c.args.self.now.cells c.args.x y low
