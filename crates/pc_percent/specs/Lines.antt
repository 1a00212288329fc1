-- The lines that `percent` writes, by a test of which queues are good.
use Rattle.std.specs.Prelude.{ℕ, Bool, not, List, ◌++◌, codes, count_by, filter, length, take}
use Rattle.std.specs.List.{flat_map}
use Rattle.srs.specs.declared.piece.Piece.{Piece}
use Rattle.queue_lines.specs.Lines.{numbers_form, queue_form}

-- the line of a queue that failed, as `failed TI`
unfoldable pub failed_form : List Piece → List ℕ
failed_form queue = codes "failed " ++ queue_form queue

-- the lines of the first queues that aren't good, at most so many
unfoldable pub failed_lines : (List Piece → Bool) → ℕ → List (List Piece) → List ℕ
failed_lines is_good limit queues = flat_map failed_form (take limit (filter (λ queue. not (is_good queue)) queues))

-- the queues that failed, up to the limit, and then the numbers of all
unfoldable pub percent_form : (List Piece → Bool) → ℕ → List (List Piece) → List ℕ
percent_form is_good limit queues =
    failed_lines is_good limit queues ++ numbers_form (length queues) (count_by is_good queues)
