-- Runs of tails from which a piece can be taken.
use Rattle.std.specs.Prelude.{◌≡◌, ℕ, ◌+◌, ◌-◌, ◌*◌, ◌/◌, ◌%◌, ◌^◌, ◌<◌, ◌≤◌, Bool, ◌&&◌, ◌==◌, if◌then◌else◌, nat_le, nat_lt, All, List, [], ◌∷◌, ◌++◌, slice_index}
use Rattle.std.specs.List.{list_any}
use Rattle.srs.specs.declared.piece.Piece.{Piece}
use Rattle.srs.specs.Piece.{piece_code}
use Rattle.tails.specs.declared.block.Block.{Block}
use Rattle.tails.specs.declared.rests.LastTakings.{LastTakings}
use Rattle.tails.specs.declared.states.State.{State}
use Rattle.tails.specs.declared.takings.Taking.{Taking}
use Rattle.tails.specs.declared.tree.TailTree.{TailTree}
use Rattle.tails.specs.Blocks.{in_block}
use Rattle.tails.specs.Numbers.{held_of, place_of, state_of, tail_number}
use Rattle.tails.specs.Tails.{IsTail, leads}

-- The run of the tails that begin with a letter. What is left of them stands behind a held piece.
abbrev pub run_at : State → ℕ → Piece → ℕ → Taking
run_at state first letter held =
    record { first = first; count = state.each; base = tail_number (slice_index state.next (piece_code letter)) held 0 }

-- a tail is in the run
unfoldable pub in_run : Taking → ℕ → Bool
in_run taking tail = nat_le taking.first (place_of tail) && nat_lt (place_of tail - taking.first) taking.count

-- what is left of it
unfoldable pub left_of : Taking → ℕ → ℕ
left_of taking tail = taking.base + (place_of tail - taking.first)

-- the tail with the first place among those of a block's state
unfoldable pub front_of : Block → ℕ
front_of block = block.key / 2 ^ 26 * 2 ^ 32

-- a tail is what is left of one in a block that is in the run
unfoldable pub is_sent : Block → Taking → ℕ → Bool
is_sent block taking tail =
    nat_le taking.base tail && (nat_lt (tail - taking.base) taking.count
    && in_block block (front_of block + (taking.first + (tail - taking.base))))

-- the runs of the tails of a state that begin with a letter, which stand from a place on
unfoldable pub taken_at : State → ℕ → ℕ → ℕ → Piece → List Taking
taken_at state first held code letter =
    (if held == code then run_at state first letter (piece_code letter) ∷ [] else [])
    ++ (if piece_code letter == code then run_at state first letter held ∷ [] else [])

-- a run has what is left of the tail at a place, and a test passes of it
unfoldable pub runs_to : (ℕ → Bool) → ℕ → Taking → Bool
runs_to goes_on place taking =
    nat_le taking.first place && (nat_lt (place - taking.first) taking.count
    && goes_on (taking.base + (place - taking.first)))

-- a tail is in some block
unfoldable pub in_some : List Block → ℕ → Bool
in_some blocks tail = list_any (λ block. in_block block tail) blocks

-- where runs stand: what is left begins at a state's first tail, and all places lie within ten million
pub record IsTaking (taking : Taking) : Type 0 where
  pub begins : place_of taking.base ≡ 0
  pub fits : taking.base < 2 ^ 51
  pub few : taking.first + taking.count ≤ 10000000

-- These are all ways to take a piece with this code from the tails of a state behind a held piece.
pub record AreTakings (tree : TailTree) (state held code : ℕ) (takings : List Taking) : Type 0 where
  pub are : All IsTaking takings
  pub all : (tail : ℕ) (goes_on : ℕ → Bool) → IsTail tree tail → state_of tail ≡ state → held_of tail ≡ held
      → leads tree code goes_on tail ≡ list_any (λ taking. in_run taking tail && goes_on (left_of taking tail)) takings

-- the ways in which a piece is taken from the tails of the last state
pub record AreLastTakings (tree : TailTree) (code : ℕ) (last : LastTakings) : Type 0 where
  pub takings : AreTakings tree (last.front / 8) (last.front % 8) code last.takings.items
