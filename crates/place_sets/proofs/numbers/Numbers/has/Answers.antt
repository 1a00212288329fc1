-- The number of a state is a bit of the words.
use Rattle.std.proofs.Common.{◌≡◌, Bool, true, false, ◌&&◌, rules}
use Rattle.std.proofs.lemmas.Bool.{lt-ltb}
use Rattle.place_sets.specs.Numbers.{has_number, states_in}
use Rattle.place_sets.specs.States.{has_state}
use Rattle.place_sets.proofs.PlaceNumbers.{number-within}
use Rattle.place_sets.proofs.numbers.Numbers.has.Goals as goal
use Rattle.place_sets.proofs.numbers.Numbers.has.Goals.{then-state-ge16-via-then-state-ge16, then-state-ge16-via-else-state-ge16+then-state-ge24}

outside : (b : Bool) → (b ≡ true → ⊥) → false ≡ b
outside b none = search rules

pub returns-then-state-ge16 : goal.returns-then-state-ge16
unfolding has_state
returns-then-state-ge16 c = search (rules, outside, number-within)

all_true : (a b c : Bool) → a ≡ true → b ≡ true → c ≡ ((a && b) && c)
all_true a b c s t = search rules

pub returns : goal.returns
unfolding has_state states_in has_number
returns c = search (rules, all_true, lt-ltb)
