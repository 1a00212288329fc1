-- The marks so far are true.
use Rattle.std.proofs.Common.{◌≡◌, All}
use Rattle.empty_cells.specs.Empties.{empty_cells}
use Rattle.percent.specs.Marks.{IsTrueMark}
use Rattle.percent.proofs.listed.marks_of.Given as goal

abbrev pub invariant-loop-counts : goal.invariant-loop-counts
invariant-loop-counts l = record {
  position : l.marks.position ≡ l.position;
  game : l.marks.game ≡ l.game;
  are_true : All (IsTrueMark (empty_cells l.marks.cells)) l.marks.known.items;
}
