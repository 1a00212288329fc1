-- The words so far keep the bits of these rows, and the others have none.
use Rattle.std.proofs.Common.{◌≡◌, ℕ, ◌%◌, ◌<◌, ◌≤◌, get_or, length}
use Rattle.place_sets.proofs.NumberLemmas.{KeepsRows}
use Rattle.place_sets.proofs.numbers.Numbers.in_rows_below.Given as goal

abbrev pub invariant-loop-at : goal.invariant-loop-at
invariant-loop-at l =
    (length l.words ≡ 24)
    × ((w : ℕ) → w < 24 → w % 6 < l.at → KeepsRows l.self l.rows w (get_or l.words w 0))
    × ((w : ℕ) → w < 24 → l.at ≤ w % 6 → get_or l.words w 0 ≡ 0)
