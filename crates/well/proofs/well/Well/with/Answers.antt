-- A cell below the top row leaves that row empty.
use Rattle.std.proofs.Common.{ap, ◌∙◌, arith}
use Rattle.well.specs.Well.{filled}
use Rattle.well.proofs.WellFields.{with_cell-other_row}
use Rattle.well.proofs.well.Well.with.Goals as goal

pub invariant_of-result : goal.invariant_of-result
invariant_of-result c = record {
  top_is_empty = λ x. ap (λ F. F x 23) c.with.ensures ∙ with_cell-other_row _ c.args.x c.args.y x 23 (λ e. omega (arith, e, c.requires.row)) (c.args.self.now.top_is_empty x);
}

pub returns : goal.returns
unfolding filled
returns c = c.with.ensures
