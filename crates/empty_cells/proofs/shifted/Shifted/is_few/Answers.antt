-- The columns counted from there are those of the set inside.
use Rattle.std.proofs.Common.{◌↔◌, ◌≤◌, IsTrue, subst, sym}
use Rattle.lane_board.specs.Field.{Field}
use Rattle.prune.specs.Counts.{run_empties}
use Rattle.empty_cells.specs.Empties.{all_but, empty_cells}
use Rattle.empty_cells.proofs.ShiftedLemmas.{back_from}
use Rattle.empty_cells.proofs.shifted.Shifted.is_few.Goals as goal

pub returns : goal.returns
returns c = subst (λ (E : Field). IsTrue c.is_few.result ↔ (run_empties (all_but E) 8 0 9 ≤ 4)) (sym (back_from c.args.self.now.x (empty_cells c.args.self.now.cells))) c.is_few.ensures
