-- Pieces and spans are used up.
use Rattle.std.proofs.Common.{◌+◌, ◌*◌, [], ◌∷◌}
use Rattle.empty_cells.specs.ShiftedCells.{shifted_cells}
use Rattle.empty_cells.specs.SupplyWords.{supply_of}
use Rattle.empty_cells.proofs.CallerLemmas.{total}
use Rattle.tiled_pieces.specs.Listings.{GoesOnWith, HasFirst, IsAny}
use Rattle.tiled_pieces.proofs.AddsLemmas.{RowsGone}
use Rattle.tiled_pieces.proofs.lister.Lister.+walk.Given as goal

abbrev pub decreases-search : goal.decreases-search
decreases-search l = 20 * total (supply_of l.supply) + 4

abbrev pub decreases-asks : goal.decreases-asks
decreases-asks l = 20 * total (supply_of l.supply) + 3

abbrev pub decreases-covers : goal.decreases-covers
decreases-covers l = 20 * total (supply_of l.supply) + 2

abbrev pub decreases-takes : goal.decreases-takes
decreases-takes l = 20 * total (supply_of l.supply) + 1

abbrev pub decreases-forms : goal.decreases-forms
decreases-forms l = 20 * total (supply_of l.cover.now.supply) + 20

abbrev pub decreases-stacks_four : goal.decreases-stacks_four
decreases-stacks_four l = 20 * total (supply_of l.cover.now.supply) + 9

abbrev pub decreases-stacks_three : goal.decreases-stacks_three
decreases-stacks_three l = 20 * total (supply_of l.cover.now.supply) + 8

abbrev pub decreases-stacks_two : goal.decreases-stacks_two
decreases-stacks_two l = 20 * total (supply_of l.cover.now.supply) + 7

abbrev pub decreases-stacks_one : goal.decreases-stacks_one
decreases-stacks_one l = 20 * total (supply_of l.cover.now.supply) + 6

abbrev pub decreases-leaves : goal.decreases-leaves
decreases-leaves l = 20 * total (supply_of l.cover.now.supply) + 5

abbrev pub invariant-stacks_one-loop-rows : goal.invariant-stacks_one-loop-rows
invariant-stacks_one-loop-rows l = RowsGone (GoesOnWith HasFirst (supply_of l.cover.supply) (shifted_cells l.cover.cells) l.piece) (GoesOnWith IsAny (supply_of l.cover.supply) (shifted_cells l.cover.cells) l.piece) (shifted_cells l.cells) l.cells.x l.cover.y l.floor l.a [] l.rows l.initial.self.listing l.self.listing

abbrev pub decreases-stacks_one-loop-rows : goal.decreases-stacks_one-loop-rows
decreases-stacks_one-loop-rows l = l.rows

abbrev pub invariant-stacks_two-loop-rows : goal.invariant-stacks_two-loop-rows
invariant-stacks_two-loop-rows l = RowsGone (GoesOnWith HasFirst (supply_of l.cover.supply) (shifted_cells l.cover.cells) l.piece) (GoesOnWith IsAny (supply_of l.cover.supply) (shifted_cells l.cover.cells) l.piece) (shifted_cells l.cells) l.cells.x l.cover.y l.floor l.a (l.b ∷ []) l.rows l.initial.self.listing l.self.listing

abbrev pub decreases-stacks_two-loop-rows : goal.decreases-stacks_two-loop-rows
decreases-stacks_two-loop-rows l = l.rows

abbrev pub invariant-stacks_three-loop-rows : goal.invariant-stacks_three-loop-rows
invariant-stacks_three-loop-rows l = RowsGone (GoesOnWith HasFirst (supply_of l.cover.supply) (shifted_cells l.cover.cells) l.piece) (GoesOnWith IsAny (supply_of l.cover.supply) (shifted_cells l.cover.cells) l.piece) (shifted_cells l.cells) l.cells.x l.cover.y l.floor l.a (l.b ∷ l.c ∷ []) l.rows l.initial.self.listing l.self.listing

abbrev pub decreases-stacks_three-loop-rows : goal.decreases-stacks_three-loop-rows
decreases-stacks_three-loop-rows l = l.rows

abbrev pub invariant-stacks_four-loop-rows : goal.invariant-stacks_four-loop-rows
invariant-stacks_four-loop-rows l = RowsGone (GoesOnWith HasFirst (supply_of l.cover.supply) (shifted_cells l.cover.cells) l.piece) (GoesOnWith IsAny (supply_of l.cover.supply) (shifted_cells l.cover.cells) l.piece) (shifted_cells l.cells) l.cells.x l.cover.y l.floor l.a (l.b ∷ l.c ∷ l.d ∷ []) l.rows l.initial.self.listing l.self.listing

abbrev pub decreases-stacks_four-loop-rows : goal.decreases-stacks_four-loop-rows
decreases-stacks_four-loop-rows l = l.rows
