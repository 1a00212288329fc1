-- The lines that `cover` writes, by the numbers of the covered queues.
use Rattle.std.specs.Prelude.{ℕ, List, [], ◌++◌, length, slice_index_or}
use Rattle.std.specs.List.{flat_map}
use Rattle.srs.specs.declared.piece.Piece.{Piece}
use Rattle.queue_lines.specs.Lines.{numbers_form, queue_form}

-- the lines of the queues with these numbers
unfoldable pub queues_form : List (List Piece) → List ℕ → List ℕ
queues_form queues numbers = flat_map (λ number. queue_form (slice_index_or queues number [])) numbers

-- the covered queues, and then how many queues there are, how many of them are covered, and the rate
unfoldable pub cover_form : List (List Piece) → List ℕ → List ℕ
cover_form queues numbers = queues_form queues numbers ++ numbers_form (length queues) (length numbers)
