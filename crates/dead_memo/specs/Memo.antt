-- How a store is seen: as what it keeps, and how much that may be.
use Rattle.std.specs.Prelude.{ℕ, List}
use Rattle.dead_memo.specs.Question.{Question}
use Rattle.dead_memo.specs.Keys.{kept_in}
use Rattle.dead_memo.specs.declared.memo.DeadMemo.{DeadMemo}

-- the questions that are kept, the one that was used last first
unfoldable pub kept : DeadMemo → List Question
kept memo = kept_in memo.cache

-- how many questions are kept at most
unfoldable pub capacity_of : DeadMemo → ℕ
capacity_of memo = memo.cache.cap
