-- The words that are not left have no bit.
use Rattle.std.proofs.Common.{◌≡◌, ℕ, ◌<◌, true, false, get_or}
use Rattle.lane_board.specs.Lanes.{has_bit}
use Rattle.place_sets.proofs.numbers.Numbers.first_word.Given as goal

abbrev pub invariant-words : goal.invariant-words
invariant-words l =
    ((w : ℕ) → w < 64 → has_bit l.left w ≡ true → has_bit l.among w ≡ true)
    × ((w : ℕ) → w < 64 → has_bit l.among w ≡ true → has_bit l.left w ≡ false → get_or l.self.words w 0 ≡ 0)

abbrev pub decreases-words : goal.decreases-words
decreases-words l = l.left
