-- Blocks: 64 tails side by side, one bit each.
use Rattle.std.specs.Prelude.{◌≡◌, ℕ, ◌/◌, ◌%◌, ◌^◌, ◌<◌, ◌≤◌, ◌==◌, ◌&&◌, Bool, List, length, map, slice_index}
use Rattle.std.specs.List.{list_any}
use Rattle.lane_board.specs.Lanes.{has_bit}
use Rattle.tails.specs.declared.block.Block.{Block}

-- whether a tail is in a block
unfoldable pub in_block : Block → ℕ → Bool
in_block block tail = (block.key == tail / 64) && has_bit block.bits (tail % 64)

-- whether some block has a key and a bit
unfoldable pub have_parts : List Block → ℕ → ℕ → Bool
have_parts blocks key bit = list_any (λ block. (block.key == key) && has_bit block.bits bit) blocks

-- a block of some tails, whose numbers have 64 bits
pub record IsBlock (block : Block) : Type 0 where
  pub fits : block.key < 2 ^ 58
  pub few : block.bits < 2 ^ 64
  pub some : block.bits ≡ 0 → ⊥

unfoldable pub keys_of : List Block → List ℕ
keys_of blocks = map (λ (block : Block). block.key) blocks

-- each number is below each later one
abbrev pub IsRising : List ℕ → Type 0
IsRising xs = (i j : ℕ) → i < j → j < length xs → slice_index xs i < slice_index xs j

-- the keys rise
abbrev pub KeysRise : List Block → Type 0
KeysRise blocks = IsRising (keys_of blocks)

-- the index of the first block whose key is not below this one
pub record IsPlace (blocks : List Block) (key place : ℕ) : Type 0 where
  pub within : place ≤ length blocks
  pub before : (k : ℕ) → k < place → slice_index (keys_of blocks) k < key
  pub behind : (k : ℕ) → place ≤ k → k < length blocks → key ≤ slice_index (keys_of blocks) k
