-- The lines that commands about queues write.
use Rattle.std.specs.Prelude.{ℕ, ◌*◌, ◌/◌, List, [], ◌∷◌, ◌++◌, codes, map}
use Rattle.line_writing.specs.Count.{count_form}
use Rattle.srs.specs.declared.piece.Piece.{Piece}
use Rattle.srs.specs.Piece.{piece_letter}

-- the line of a queue: its letters
unfoldable pub queue_form : List Piece → List ℕ
queue_form queue = map piece_letter queue ++ 10 ∷ []

-- 10,000 times the good ones divided by all, rounded down
abbrev pub rate_of : ℕ → ℕ → ℕ
rate_of good all = 10000 * good / all

-- how many queues there are, how many of them are good, and the rate
unfoldable pub numbers_form : ℕ → ℕ → List ℕ
numbers_form all good =
    count_form (codes "queues ") all
    ++ (count_form (codes "good ") good ++ count_form (codes "rate ") (rate_of good all))
