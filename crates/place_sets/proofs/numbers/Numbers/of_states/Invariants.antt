-- The words so far have the rows of the boards.
use Rattle.std.proofs.Common.{◌≡◌, ℕ, ◌%◌, ◌<◌, get_or, length}
use Rattle.place_sets.specs.States.{states_of}
use Rattle.place_sets.proofs.NumberLemmas.{HasRows}
use Rattle.place_sets.proofs.numbers.Numbers.of_states.Given as goal

abbrev pub invariant-loop-at : goal.invariant-loop-at
invariant-loop-at l = (length l.words ≡ 24) × ((w : ℕ) → w < 24 → w % 6 < l.at → HasRows (states_of l.states) w (get_or l.words w 0))
