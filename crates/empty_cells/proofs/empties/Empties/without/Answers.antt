-- A cell of the set is left where its bit is not taken.
use Rattle.std.proofs.Common.{rules}
use Rattle.std.proofs.Math.Path.{fun_ext}
use Rattle.empty_cells.specs.Empties.{without_placement}
use Rattle.empty_cells.proofs.EmptiesLemmas.{same_left}
use Rattle.empty_cells.proofs.empties.Empties.without.Goals as goal

pub returns : goal.returns
unfolding without_placement
returns c = search (rules, fun_ext, same_left)
