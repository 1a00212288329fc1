-- The character's cell lies in row 0.
use Rattle.std.proofs.Common.{ap, ◌∙◌, arith}
use Rattle.well.specs.Well.{filled}
use Rattle.well.proofs.WellFields.{with_cell-other_row}
use Rattle.well.proofs.reader.RowsReader.next_character.Goals as goal
use Rattle.well.proofs.reader.RowsReader.next_character.Goals.{then-is_filled, else-is_filled}

pub invariant_of-result-clause-low : goal.invariant_of-result-clause-low
invariant_of-result-clause-low c = λ x y above. elim c.if-is_filled.branch [
  | then-is_filled w ↦ ap (λ well. filled well x y) w.well-is ∙ ap (λ F. F x y) w.with-well.ensures ∙ with_cell-other_row _ c.args.self.now.characters 0 x y (λ e. omega (arith, c.args.self.now.first)) (c.args.self.now.low x y above)
  | else-is_filled w ↦ ap (λ well. filled well x y) w.well-is ∙ c.args.self.now.low x y above
]
