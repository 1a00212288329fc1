-- The parts of a tail's number.
use Rattle.std.proofs.Common.{◌≡◌, ℕ, ◌+◌, ◌*◌, ◌/◌, ◌%◌, ◌^◌, ◌<◌, ap, ◌∙◌, arith}
use Rattle.tails.specs.Numbers.{held_of, place_of, state_of, tail_number}

front-is : (state held place : ℕ) → place < 2 ^ 32 → tail_number state held place / 2 ^ 32 ≡ state * 8 + held
unfolding tail_number
front-is state held place few = omega (arith, few)

pub state_of-number : (state held place : ℕ) → held < 8 → place < 2 ^ 32 → state_of (tail_number state held place) ≡ state
unfolding state_of
state_of-number state held place small few = ap (λ n. n / 8) (front-is state held place few) ∙ omega (arith, small)

pub held_of-number : (state held place : ℕ) → held < 8 → place < 2 ^ 32 → held_of (tail_number state held place) ≡ held
unfolding held_of
held_of-number state held place small few = ap (λ n. n % 8) (front-is state held place few) ∙ omega (arith, small)

pub place_of-number : (state held place : ℕ) → place < 2 ^ 32 → place_of (tail_number state held place) ≡ place
unfolding place_of tail_number
place_of-number state held place few = omega (arith, few)

pub number-parts : (tail : ℕ) → tail_number (state_of tail) (held_of tail) (place_of tail) ≡ tail
unfolding tail_number state_of held_of place_of
number-parts tail = omega arith

pub held_of-small : (tail : ℕ) → held_of tail < 8
unfolding held_of
held_of-small tail = omega arith

pub place_of-small : (tail : ℕ) → place_of tail < 2 ^ 32
unfolding place_of
place_of-small tail = omega arith

-- the number of a tail of one of so many states has 51 bits
pub number-fits : (state held place : ℕ) → state < 2 ^ 16 → held < 8 → place < 2 ^ 32 → tail_number state held place < 2 ^ 51
unfolding tail_number
number-fits state held place within small few = omega (arith, within, small, few)
