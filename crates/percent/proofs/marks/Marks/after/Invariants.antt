-- The marks so far list the tilings by which the hands are built.
use Rattle.std.proofs.Common.{◌≡◌, ℕ, true, All}
use Rattle.empty_cells.specs.Empties.{empty_cells}
use Rattle.hands.specs.Numbers.{has_number}
use Rattle.percent.specs.ListedHands.{ListsHand}
use Rattle.percent.proofs.marks.Marks.after.Given as goal

abbrev pub invariant-loop-hand : goal.invariant-loop-hand
invariant-loop-hand l =
    (rest : ℕ) → has_number l.hands rest ≡ true → All (ListsHand (empty_cells l.cells) l.self.drops l.self.game.hold l.left rest) l.known.items
