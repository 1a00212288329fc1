-- Walls show that there is no tiling.
use Rattle.std.proofs.Common.{subst}
use Rattle.lane_board.specs.Field.{Field}
use Rattle.prune.specs.Tiling.{Supply, Tiling}
use Rattle.empty_cells.specs.Empties.{all_but}
use Rattle.percent.proofs.marks.Marks.leaves_uneven_part.Goals as goal

pub returns : goal.returns
returns c = λ uneven.
    subst (λ (E : Field). (supply : Supply) → Tiling (all_but E) 8 supply → ⊥) (c.without_cells.ensures) (c.has_uneven_part.ensures.none uneven)
