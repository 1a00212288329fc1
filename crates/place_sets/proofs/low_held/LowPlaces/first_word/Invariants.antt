-- The words so far have no bit.
use Rattle.std.proofs.Common.{◌≡◌, ℕ, ◌<◌, get_or}
use Rattle.place_sets.proofs.low_held.LowPlaces.first_word.Given as goal

abbrev pub invariant-loop-at : goal.invariant-loop-at
invariant-loop-at l = (w : ℕ) → w < l.at → get_or l.self.words w 0 ≡ 0
