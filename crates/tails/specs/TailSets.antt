-- Sets of tails.
use Rattle.std.specs.Prelude.{◌≡◌, ℕ, Bool, true, ◌==◌, length, ◌/◌, ◌%◌}
use Rattle.tails.specs.declared.tail_set.TailSet.{TailSet}
use Rattle.tails.specs.declared.tree.TailTree.{TailTree}
use Rattle.tails.specs.Blocks.{have_parts}
use Rattle.tails.specs.Tails.{AreTails, leads}

-- whether a set has a tail: some block has its key and its bit
unfoldable pub has : TailSet → ℕ → Bool
has tails tail = have_parts tails.blocks.items (tail / 64) (tail % 64)

-- how many blocks a set has
unfoldable pub block_count : TailSet → ℕ
block_count tails = length tails.blocks.items

-- What is left of tails from which a piece with this code is taken: all of it, and nothing else.
pub record AreRests (tree : TailTree) (code : ℕ) (tails rests : ℕ → Bool) : Type 0 where
  pub are_tails : AreTails tree rests
  pub all : (tail rest : ℕ) → tails tail ≡ true → leads tree code (λ r. r == rest) tail ≡ true → rests rest ≡ true
  pub only : (rest : ℕ) → rests rest ≡ true
      → (tail : ℕ) × (tails tail ≡ true) × (leads tree code (λ r. r == rest) tail ≡ true)
