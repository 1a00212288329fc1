-- The top row is empty before, so that the full rows are those below it, and after.
use Rattle.std.proofs.Common.{ap, ◌∙◌, arith}
use Rattle.std.proofs.lemmas.Int.{ints}
use Rattle.lane_board.specs.Board.{field_of}
use Rattle.lane_board.proofs.CallerLemmas.{full_below-le}
use Rattle.well.specs.Well.{filled}
use Rattle.well.proofs.WellFields.{removal_below_top, full_below_top, top_stays_empty}
use Rattle.well.proofs.well.Well.remove_full_rows.Goals as goal

pub invariant_of-self : goal.invariant_of-self
invariant_of-self c = record { top_is_empty = λ x. ap (λ F. F x 23) c.remove_full_rows.ensures.cells ∙ top_stays_empty _ c.args.self.now.top_is_empty x }

pub returns-clause-field : goal.returns-clause-field
unfolding filled
returns-clause-field c = c.remove_full_rows.ensures.cells ∙ removal_below_top _ c.args.self.now.top_is_empty

pub returns-clause-removed : goal.returns-clause-removed
unfolding filled
returns-clause-removed c = c.remove_full_rows.ensures.number ∙ full_below_top _ c.args.self.now.top_is_empty

pub overflow_cast-result : goal.overflow_cast-result
overflow_cast-result c = omega (arith, ints, c.remove_full_rows.ensures.number, full_below-le (field_of c.args.self.now.board) 24)
