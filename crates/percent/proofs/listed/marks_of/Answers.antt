-- True marks list the tilings by which any hand is built.
use Rattle.std.proofs.Common.{◌≡◌, ℕ, Bool, All, [], subst, sym}
use Rattle.std.proofs.lemmas.List.Elements.{All-nil, All-weaker}
use Rattle.empty_cells.specs.Empties.{empty_cells}
use Rattle.empty_cells.proofs.CallerLemmas.{cells_small}
use Rattle.percent.specs.declared.marks.Marks.{Marks}
use Rattle.percent.specs.ListedHands.{AreMarksOf, ListsHand}
use Rattle.percent.specs.Marks.{IsTrueMark}
use Rattle.percent.proofs.MarkLemmas.{true-lists}
use Rattle.percent.proofs.listed.marks_of.Goals as goal

none-true : (marks : Marks) → marks.known.items ≡ [] → All (IsTrueMark (empty_cells marks.cells)) marks.known.items
none-true marks none = subst (All (IsTrueMark (empty_cells marks.cells))) (sym none) (All-nil (IsTrueMark (empty_cells marks.cells)))

all-list : (marks : Marks) → All (IsTrueMark (empty_cells marks.cells)) marks.known.items → (left : ℕ) (hands : ℕ → Bool) → AreMarksOf marks left hands
all-list marks are left hands = record {
  each = λ hand there. All-weaker (IsTrueMark (empty_cells marks.cells)) (ListsHand (empty_cells marks.cells) marks.drops marks.game.hold left hand)
      (λ mark is. true-lists (empty_cells marks.cells) marks.drops marks.game.hold left hand mark (cells_small marks.cells) is) marks.known.items are;
}

pub loop-counts-init : goal.loop-counts-init
loop-counts-init c = record { position = c.new-marks.ensures.position; game = c.new-marks.ensures.game; are_true = none-true c.new-marks.result c.new-marks.ensures.none }

pub returns-clause-all : goal.returns-clause-all
returns-clause-all c = all-list c.loop-counts.marks c.loop-counts.invariant.are_true
