-- How keys are seen: as questions.
use Rattle.std.specs.Prelude.{List, map, All}
use Rattle.lru.specs.LruCache.{LruCache}
use Rattle.well.specs.CellBits.{cells_in_bits}
use Rattle.dead_memo.specs.Question.{Question, HasNoTiling}
use Rattle.dead_memo.specs.declared.key.Key.{Key}

-- the question of a key
unfoldable pub question_of : Key → Question
question_of key = record { field = cells_in_bits key.cells; rows = key.rows_left; supply = key.supply }

-- the questions that are kept, the one that was used last first
unfoldable pub kept_in : LruCache Key (Unit {0}) → List Question
kept_in cache = map (λ entry. question_of entry.0) cache.entries

-- none of them has a tiling
abbrev pub AreDead : LruCache Key (Unit {0}) → Type 0
AreDead cache = All HasNoTiling (kept_in cache)
