-- Hands that no listed tiling of their mark serves, and tilings that serve no hand.
use Rattle.std.specs.Prelude.{◌≡◌, ℕ, ◌<◌, Bool, true, false, All, List, Some, [], length, slice_get, slice_index, slice_index_or}
use Rattle.std.specs.List.{Contains}
use Rattle.well.specs.Well.{filled}
use Rattle.empty_cells.specs.Empties.{empty_cells}
use Rattle.tiled_pieces.specs.declared.listed.ListedTiling.{ListedTiling}
use Rattle.tiled_pieces.specs.Served.{IsServed}
use Rattle.tiled_pieces.specs.TilingLists.{HasPiece, laid_part}
use Rattle.percent.specs.declared.game.Game.{Game}
use Rattle.percent.specs.declared.marks.Mark.{Mark}
use Rattle.percent.specs.declared.marks.Marks.{Marks}
use Rattle.percent.specs.declared.position.Position.{Position}
use Rattle.percent.specs.BuiltHands.{IsBuiltBy}
use Rattle.percent.specs.GoodHands.{is_good}
use Rattle.percent.specs.ListedHands.{AreMarksOf}
use Rattle.percent.specs.Marks.{HasCounts}
use Rattle.hands.specs.Numbers.{has_number}
use Rattle.hands.specs.Weights.{AllowsTaken}

-- no listed tiling of a mark serves a hand
pub record IsRefused (marks : Marks) (left : ℕ) (mark : Mark) (hand : ℕ) : Type 0 where
  pub weights : List ℕ
  pub allowed : List ℕ
  pub bit : ℕ
  pub allows : AllowsTaken marks.game.hold left hand weights allowed bit
  pub none : (tiling : ListedTiling) → Contains mark.tilings.tilings.items tiling
      → IsServed tiling (empty_cells marks.cells) marks.drops weights allowed bit → ⊥

-- a listed tiling is used that has all parts of one by which a hand is built
pub record IsUsedBy (marks : Marks) (left : ℕ) (list : List ListedTiling) (used : List Bool) (hand : ℕ) : Type 0 where
  pub each : (built : IsBuiltBy (empty_cells marks.cells) marks.drops marks.game.hold left hand) (j : ℕ) (tiling : ListedTiling)
      → slice_get list j ≡ Some tiling → All (λ part. HasPiece tiling (laid_part part)) built.tiling.parts
      → slice_index_or used j false ≡ true

-- of the tilings of a mark those are used that serve one of some hands with its pieces
pub record IsUsedByAll (marks : Marks) (left : ℕ) (hands : List ℕ) (mark : Mark) (used : List Bool) : Type 0 where
  pub size : length used ≡ length mark.tilings.tilings.items
  pub each : (hand : ℕ) → has_number hands hand ≡ true → HasCounts mark.counts left hand
      → IsUsedBy marks left mark.tilings.tilings.items used hand

-- what is used stays so
pub record StaysUsed (old new : List Bool) : Type 0 where
  pub size : length new ≡ length old
  pub each : (j : ℕ) → slice_index_or old j false ≡ true → slice_index_or new j false ≡ true

-- the counts of each hand
pub record AreCountsOf (left : ℕ) (hands : List ℕ) (counts : List (List ℕ)) : Type 0 where
  pub size : length counts ≡ length hands
  pub each : (k : ℕ) → k < length hands → HasCounts (slice_index_or counts k []) left (slice_index hands k)

-- a hand with these counts, and its index among all
pub record IsOwn (wanted : List ℕ) (left : ℕ) (hands : List ℕ) (hand index : ℕ) : Type 0 where
  pub within : index < length hands
  pub there : slice_index hands index ≡ hand
  pub counts : HasCounts wanted left hand

-- so is each of these, at its place
pub record AreOwn (wanted : List ℕ) (left : ℕ) (hands own indexes : List ℕ) : Type 0 where
  pub size : length indexes ≡ length own
  pub each : (k : ℕ) → k < length own → IsOwn wanted left hands (slice_index own k) (slice_index indexes k)

-- and all hands with these counts are there
pub record HasOwn (wanted : List ℕ) (left : ℕ) (hands own : List ℕ) : Type 0 where
  pub each : (hand : ℕ) → has_number hands hand ≡ true → HasCounts wanted left hand → has_number own hand ≡ true

-- hands that are not among those that may be good are bad
pub record AreTested (game : Game) (p : Position) (left : ℕ) (hands : List ℕ) (may : List Bool) : Type 0 where
  pub size : length may ≡ length hands
  pub each : (k : ℕ) → k < length hands → slice_index_or may k true ≡ false
      → is_good game (filled p.well) p.rows left (slice_index hands k) ≡ false

-- what was tested of all hands stays so if some of them are tested, which have these counts and indexes
pub record Tests (marks : Marks) (wanted : List ℕ) (left : ℕ) (own indexes : List ℕ) (old new : List Bool) : Type 0 where
  pub size : length new ≡ length old
  pub each : (hands : List ℕ) → AreOwn wanted left hands own indexes → AreMarksOf marks left (has_number hands)
      → AreTested marks.game marks.position left hands old → AreTested marks.game marks.position left hands new

-- the mark at an index has the counts that it had
pub record KeepsCounts (old new : Marks) (index : ℕ) : Type 0 where
  pub same : (before after : Mark) → slice_get old.known.items index ≡ Some before
      → slice_get new.known.items index ≡ Some after → after.counts ≡ before.counts

-- marks with fewer tilings, which still list those by which the hands are built
pub record AreNarrowed (old new : Marks) (left : ℕ) (hands : List ℕ) : Type 0 where
  pub position : new.position ≡ old.position
  pub game : new.game ≡ old.game
  pub size : length new.known.items ≡ length old.known.items
  pub lists : AreMarksOf new left (has_number hands)
