-- Why a question that has no tiling needs no second search.
use Rattle.std.specs.Prelude.{◌≡◌, ℕ, Bool, true, List, Contains}
use Rattle.lane_board.specs.Field.{Field}
use Rattle.prune.specs.Counts.{IsRefusedByCounts}
use Rattle.prune.specs.Tiling.{supply_in}
use Rattle.dead_memo.specs.Question.{Question, question}

-- counts refuse it; it is kept; or memory for what is kept was refused
pub data IsSettled (F : Field) (rows : ℕ) (supply : List ℕ) (kept : List Question) (refused : Bool) : Type 0 where
  by_counts : IsRefusedByCounts F rows (supply_in supply) → IsSettled F rows supply kept refused
  by_memory : Contains kept (question F rows supply) → IsSettled F rows supply kept refused
  no_memory : refused ≡ true → IsSettled F rows supply kept refused
