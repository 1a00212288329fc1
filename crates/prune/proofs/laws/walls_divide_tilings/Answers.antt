-- The laws are lemmas.
use Rattle.prune.proofs.RefusalLemmas.{no_uneven_part}
use Rattle.prune.proofs.WallLemmas.{no_cells_on_both_sides}
use Rattle.prune.proofs.laws.walls_divide_tilings.Goals as goal

pub returns-clause-pieces : goal.returns-clause-pieces
returns-clause-pieces c = λ F rows wall part is empty is_wall. no_cells_on_both_sides F rows part is empty wall is_wall

pub returns-clause-parts : goal.returns-clause-parts
returns-clause-parts c = λ F rows supply uneven tiling. no_uneven_part F rows supply tiling uneven
