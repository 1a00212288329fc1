-- Pieces and spans are used up; what was tried failed, and what is left may be taken.
use Rattle.std.proofs.Common.{◌+◌, ◌*◌, [], ◌∷◌}
use Rattle.empty_cells.specs.Empties.{empty_cells}
use Rattle.empty_cells.specs.SupplyWords.{supply_of}
use Rattle.empty_cells.proofs.CallerLemmas.{total}
use Rattle.packing.proofs.SearchLemmas.{Tried}
use Rattle.packing.proofs.search.+search.Given as goal

abbrev pub decreases-decide : goal.decreases-decide
decreases-decide l = 11 * total (supply_of l.supply) + 3

abbrev pub decreases-recall : goal.decreases-recall
decreases-recall l = 11 * total (supply_of l.supply) + 2

abbrev pub decreases-covers : goal.decreases-covers
decreases-covers l = 11 * total (supply_of l.supply) + 1

abbrev pub decreases-takes : goal.decreases-takes
decreases-takes l = 11 * total (supply_of l.supply)

abbrev pub decreases-stacks_piece : goal.decreases-stacks_piece
decreases-stacks_piece l = 11 * total (supply_of l.supply) + 10

abbrev pub decreases-stacks_i : goal.decreases-stacks_i
decreases-stacks_i l = 11 * total (supply_of l.supply) + 9

abbrev pub decreases-stacks_l : goal.decreases-stacks_l
decreases-stacks_l l = 11 * total (supply_of l.supply) + 9

abbrev pub decreases-stacks_o : goal.decreases-stacks_o
decreases-stacks_o l = 11 * total (supply_of l.supply) + 9

abbrev pub decreases-stacks_z : goal.decreases-stacks_z
decreases-stacks_z l = 11 * total (supply_of l.supply) + 9

abbrev pub decreases-stacks_t : goal.decreases-stacks_t
decreases-stacks_t l = 11 * total (supply_of l.supply) + 9

abbrev pub decreases-stacks_j : goal.decreases-stacks_j
decreases-stacks_j l = 11 * total (supply_of l.supply) + 9

abbrev pub decreases-stacks_s : goal.decreases-stacks_s
decreases-stacks_s l = 11 * total (supply_of l.supply) + 9

abbrev pub decreases-stacks_one : goal.decreases-stacks_one
decreases-stacks_one l = 11 * total (supply_of l.supply) + 5

abbrev pub decreases-stacks_two : goal.decreases-stacks_two
decreases-stacks_two l = 11 * total (supply_of l.supply) + 6

abbrev pub decreases-stacks_three : goal.decreases-stacks_three
decreases-stacks_three l = 11 * total (supply_of l.supply) + 7

abbrev pub decreases-first_one : goal.decreases-first_one
decreases-first_one l = 11 * total (supply_of l.supply) + 8

abbrev pub decreases-first_two : goal.decreases-first_two
decreases-first_two l = 11 * total (supply_of l.supply) + 8

abbrev pub decreases-first_three : goal.decreases-first_three
decreases-first_three l = 11 * total (supply_of l.supply) + 8

abbrev pub decreases-first_four : goal.decreases-first_four
decreases-first_four l = 11 * total (supply_of l.supply) + 8

abbrev pub invariant-stacks_one-loop-rows : goal.invariant-stacks_one-loop-rows
invariant-stacks_one-loop-rows l = Tried (supply_of l.supply) (empty_cells l.cells) 0 l.y l.floor l.a [] l.rows

abbrev pub decreases-stacks_one-loop-rows : goal.decreases-stacks_one-loop-rows
decreases-stacks_one-loop-rows l = l.rows

abbrev pub invariant-stacks_two-loop-rows : goal.invariant-stacks_two-loop-rows
invariant-stacks_two-loop-rows l = Tried (supply_of l.supply) (empty_cells l.cells) 0 l.y l.floor l.a (l.b ∷ []) l.rows

abbrev pub decreases-stacks_two-loop-rows : goal.decreases-stacks_two-loop-rows
decreases-stacks_two-loop-rows l = l.rows

abbrev pub invariant-stacks_three-loop-rows : goal.invariant-stacks_three-loop-rows
invariant-stacks_three-loop-rows l = Tried (supply_of l.supply) (empty_cells l.cells) 0 l.y l.floor l.a (l.b ∷ l.c ∷ []) l.rows

abbrev pub decreases-stacks_three-loop-rows : goal.decreases-stacks_three-loop-rows
decreases-stacks_three-loop-rows l = l.rows
