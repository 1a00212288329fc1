-- Answers that are kept are true.
use Rattle.std.specs.Prelude.{◌≡◌, ℕ, ◌+◌, ◌&&◌, not, true, false, Contains, List, sum_by}
use Rattle.lane_board.specs.Field.{Field}
use Rattle.tails.specs.declared.tail_set.TailSet.{TailSet}
use Rattle.tails.specs.declared.tree.TailTree.{TailTree}
use Rattle.tails.specs.TailSets.{block_count, has}
use Rattle.well.specs.CellBits.{cells_in_bits}
use Rattle.percent.specs.declared.game.Game.{Game}
use Rattle.percent.specs.declared.kept.Slot.{Slot}
use Rattle.percent.specs.GoodTails.{is_good_tail}

-- the found tails are good at the slot's position, and the missed ones are not
pub record IsTrueSlot (tree : TailTree) (game : Game) (slot : Slot) : Type 0 where
  pub found_true : (tail : ℕ) → has slot.found tail ≡ true
      → is_good_tail tree game (cells_in_bits slot.cells) slot.rows slot.left tail ≡ true
  pub missed_true : (tail : ℕ) → has slot.missed tail ≡ true
      → is_good_tail tree game (cells_in_bits slot.cells) slot.rows slot.left tail ≡ false

-- an entry says of tails at a position that they are good, and of others that they are not
pub record Keeps (slots : List Slot) (F : Field) (rows left : ℕ) (found missed : TailSet) : Type 0 where
  pub slot : Slot
  pub among : Contains slots slot
  pub field : cells_in_bits slot.cells ≡ F
  pub height : slot.rows ≡ rows
  pub to_come : slot.left ≡ left
  pub good : (tail : ℕ) → has found tail ≡ true → has slot.found tail ≡ true
  pub bad : (tail : ℕ) → has missed tail ≡ true → has slot.missed tail ≡ true

-- of some tails those that are good with so many rows left and so many placements to come, and those that are not
pub record AreAnswered (tree : TailTree) (game : Game) (F : Field) (rows left : ℕ)
    (tails good bad : TailSet) : Type 0 where
  pub goods : (tail : ℕ) → has good tail ≡ (has tails tail && is_good_tail tree game F rows left tail)
  pub bads : (tail : ℕ) → has bad tail ≡ (has tails tail && not (is_good_tail tree game F rows left tail))

-- how many blocks of answers a slot has, and how many there are in all
unfoldable pub blocks_of : Slot → ℕ
blocks_of slot = block_count slot.found + block_count slot.missed

unfoldable pub blocks_in : List Slot → ℕ
blocks_in slots = sum_by blocks_of slots
