-- The columns of a well, one after the other.
use Rattle.std.proofs.Common.{◌≡◌, ℕ, ◌+◌, ◌<◌, ◌∷◌, [], ◌++◌, take, ap, ◌∙◌}
use Rattle.std.proofs.lemmas.List.{take_more}
use Rattle.lane_board.specs.FullRows.{columns}
use Rattle.lane_board.proofs.CallerLemmas.{column_is}

pub columns_more : (x : ℕ) → x < 10 → take (x + 1) columns ≡ take x columns ++ x ∷ []
columns_more x column = take_more columns x 0 column ∙ ap (λ c. take x columns ++ c ∷ []) (column_is x column)
