-- Which problems have a meaning, and how many placements each solution of one has.
use Rattle.std.specs.Prelude.{◌≡◌, ℕ, ◌+◌, ◌/◌, ◌%◌, ◌≤◌, None}
use Rattle.lane_board.specs.Field.{Field}
use Rattle.well.specs.Well.{filled}
use Rattle.well.specs.Counts.{empties_below, lowest_full, lowest_filled_from}
use Rattle.queue_pattern.specs.Pattern.{elements_of}
use Rattle.queue_pattern.specs.Queues.{queue_len}
use Rattle.hold_queue.specs.AtHand.{count_held, playable}
use Rattle.problem.specs.declared.problem.Problem.{Problem}

-- the pieces of a queue and, where it may be played, the held one
abbrev pub pieces_at_hand : Problem → ℕ
pieces_at_hand problem = queue_len (elements_of problem.pattern) + count_held (playable problem.hold problem.held)

-- the empty cells below the height
abbrev pub empties_of : Problem → ℕ
empties_of problem = empties_below (filled problem.well) problem.height

-- a quarter of them, rounded down
abbrev pub needed_of : Problem → ℕ
needed_of problem = empties_of problem / 4

-- The height is 1 to 8.
pub record IsFitHeight (height : ℕ) : Type 0 where
  pub some : 1 ≤ height
  pub low : height ≤ 8

-- The height is 1 to 8, no cell lies at or above it, and no row is full.
pub record IsFitField (F : Field) (height : ℕ) : Type 0 where
  pub fit : IsFitHeight height
  pub below : lowest_filled_from F height ≡ None
  pub open_rows : lowest_full F ≡ None

-- The height and the field are fit, and where the empty cells are a multiple of four there are enough pieces.
pub record IsFit (problem : Problem) : Type 0 where
  pub field : IsFitField (filled problem.well) problem.height
  pub enough : empties_of problem % 4 ≡ 0 → needed_of problem ≤ pieces_at_hand problem
