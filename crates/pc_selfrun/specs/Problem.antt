-- The problem of a column.
use Rattle.std.specs.Prelude.{◌≡◌, ℕ, ◌+◌, Bool, not, ◌&&◌, nat_le, codes, None, Ok}
use Rattle.lane_board.specs.Field.{Field, rows_below}
use Rattle.srs.specs.Kick.{srs_table}
use Rattle.srs.specs.Rules.{table_of}
use Rattle.well.specs.Well.{filled}
use Rattle.queue_pattern.specs.Grammar.{elements, limited}
use Rattle.queue_pattern.specs.Pattern.{elements_of}
use Rattle.hold_queue.specs.declared.hold.Hold.TheVariants.{Allowed}
use Rattle.moves.specs.declared.key.DropMode.TheVariants.{Soft}
use Rattle.problem.specs.declared.problem.Problem.{Problem}

-- the four columns from this one on
unfoldable pub is_left_open : ℕ → ℕ → Bool
is_left_open column x = nat_le column x && nat_le x (column + 3)

-- rows 0 to 3 are filled but for these four columns
unfoldable pub column_field : ℕ → Field
column_field column x y = rows_below 4 x y && not (is_left_open column x)

-- These four rows are to be removed, with the queues of `*p5`, by the rules of SRS, with hold and soft drop, and with
-- no piece held at the start.
pub record IsColumnProblem (column : ℕ) (problem : Problem) : Type 0 where
  pub field : filled problem.well ≡ column_field column
  pub height : problem.height ≡ 4
  pub queues : Ok (elements_of problem.pattern) ≡ limited (elements (codes "*p5"))
  pub hold : problem.hold ≡ Allowed
  pub held : problem.held ≡ None
  pub drop : problem.drop_mode ≡ Soft
  pub rules : table_of problem.rules ≡ srs_table
