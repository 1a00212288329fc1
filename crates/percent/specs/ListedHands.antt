-- Marks that list all tilings by which some hands are built. Those that serve no such hand they need not list.
use Rattle.std.specs.Prelude.{◌≡◌, ℕ, suc, ◌==◌, Bool, true, All}
use Rattle.lane_board.specs.Field.{Field}
use Rattle.srs.specs.declared.piece.Piece.{Piece}
use Rattle.srs.specs.Piece.{piece_code}
use Rattle.hold_queue.specs.declared.hold.Hold.{Hold}
use Rattle.hands.specs.Hands.{takes}
use Rattle.hands.specs.Numbers.{has_number}
use Rattle.tails.specs.declared.tree.TailTree.{TailTree}
use Rattle.tails.specs.Tails.{AreHandsAt, AreTails, hand_at}
use Rattle.empty_cells.specs.Empties.{empty_cells}
use Rattle.tiled_pieces.specs.TilingLists.{HasParts}
use Rattle.percent.specs.declared.marks.Asked.{Asked}
use Rattle.percent.specs.declared.marks.Mark.{Mark}
use Rattle.percent.specs.declared.marks.Marks.{Marks}
use Rattle.percent.specs.BuiltHands.{IsBuiltBy}
use Rattle.percent.specs.Marks.{AreIndexes, HasCounts}

-- If a mark is of the pieces of a hand, each tiling by which the hand is built is listed. This too can't be refuted.
pub record ListsHand (E : Field) (drops : Bool) (hold : Hold) (left hand : ℕ) (mark : Mark) : Type 0 where
  pub each : HasCounts mark.counts left hand → (built : IsBuiltBy E drops hold left hand)
      → (HasParts mark.tilings.tilings.items built.tiling.parts → ⊥) → ⊥

-- so it is for each of some marks
abbrev pub AllListHand : Marks → ℕ → ℕ → Type 0
AllListHand marks left hand =
    All (ListsHand (empty_cells marks.cells) marks.drops marks.game.hold left hand) marks.known.items

-- and for each of these hands, with so many placements to come
pub record AreMarksOf (marks : Marks) (left : ℕ) (hands : ℕ → Bool) : Type 0 where
  pub each : (hand : ℕ) → hands hand ≡ true → AllListHand marks left hand

-- and for the hand of each of these tails
pub record AreMarksOfTails (tree : TailTree) (marks : Marks) (left : ℕ) (tails : ℕ → Bool) : Type 0 where
  pub are_tails : AreTails tree tails
  pub each : (tail : ℕ) → tails tail ≡ true → AllListHand marks left (hand_at tree tail)

-- a rest is what is left of such a hand when a piece is taken
pub record IsRestAt (marks : Marks) (piece : Piece) (left rest : ℕ) : Type 0 where
  pub hand : ℕ
  pub taken : takes marks.game.hold (piece_code piece) (λ other. other == rest) hand ≡ true
  pub lists : AllListHand marks (suc left) hand

-- so is each of these rests
pub record AreRestsAt (marks : Marks) (piece : Piece) (left : ℕ) (rests : ℕ → Bool) : Type 0 where
  pub each : (rest : ℕ) → rests rest ≡ true → IsRestAt marks piece left rest

-- so is the hand of each of these tails
pub record AreRestsOfTails (tree : TailTree) (marks : Marks) (piece : Piece) (left : ℕ) (rests : ℕ → Bool) : Type 0 where
  pub are_tails : AreTails tree rests
  pub each : (rest : ℕ) → rests rest ≡ true → IsRestAt marks piece left (hand_at tree rest)

-- what is asked about a piece, with so many placements to come
pub record IsAbout (piece : Piece) (left : ℕ) (asked : Asked) : Type 0 where
  pub kind : asked.piece ≡ piece
  pub to_come : asked.left ≡ left

-- for each rest asked about the index of the mark of its pieces and this one, if there is one
abbrev pub HasIndexes : Marks → Asked → Type 0
HasIndexes marks asked =
    AreIndexes marks.known.items asked.piece asked.left asked.hands.items asked.indexes.items

-- what is asked about has the hands of the rests
abbrev pub HasHands : TailTree → Asked → Type 0
HasHands tree asked = AreHandsAt tree asked.tails.items asked.hands.items

-- there are these indexes, and the rests are what is left of hands whose tilings the marks list
pub record IsAskedAt (marks : Marks) (asked : Asked) : Type 0 where
  pub indexes : HasIndexes marks asked
  pub rests : AreRestsAt marks asked.piece asked.left (has_number asked.hands.items)
