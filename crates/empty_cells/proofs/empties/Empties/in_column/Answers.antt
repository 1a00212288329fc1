-- The column's cells are the bits of its rows.
use Rattle.std.proofs.Common.{◌≡◌, ℕ, ◌<◌, ◌^◌, not, ◌+◌, count_ones, ap, ◌∙◌, arith, sym}
use Rattle.std.proofs.Math.Bool.{and-true, not-not}
use Rattle.lane_board.specs.Field.{Field}
use Rattle.lane_board.specs.Lanes.{has_bit}
use Rattle.prune.specs.Counts.{column_empties}
use Rattle.prune.proofs.CallerLemmas.{column_empties-le}
use Rattle.empty_cells.specs.declared.span.Span.TheVariants.{First}
use Rattle.empty_cells.specs.Empties.{all_but, empty_cells}
use Rattle.empty_cells.specs.Spans.{has_span}
use Rattle.empty_cells.proofs.ColumnBits.{ones_column}
use Rattle.empty_cells.proofs.empties.Empties.in_column.Goals as goal

counted : (E : Field) (x rows : ℕ) → rows < 2 ^ 8 → ((y : ℕ) → y < 8 → has_bit rows y ≡ has_span E x First y) → count_ones rows ≡ column_empties (all_but E) 8 x
unfolding all_but has_span
counted E x rows small told = ones_column (all_but E) x 8 rows small (λ y low. told y low ∙ and-true (E (x + 0) y) ∙ sym (not-not (E (x + 0) y)) ∙ ap (λ x. not (not (E x y))) {x = x + 0} (omega arith))

pub returns-clause-number : goal.returns-clause-number
returns-clause-number c = counted (empty_cells c.args.self.now) c.args.x c.rows_with.result c.rows_with.type_inv c.rows_with.ensures

pub returns-clause-small : goal.returns-clause-small
returns-clause-small c = omega (arith, counted (empty_cells c.args.self.now) c.args.x c.rows_with.result c.rows_with.type_inv c.rows_with.ensures, column_empties-le (all_but (empty_cells c.args.self.now)) 8 c.args.x)
