-- Tails with the state that they follow and the piece that is held, as numbers.
use Rattle.std.specs.Prelude.{ℕ, ◌+◌, ◌*◌, ◌/◌, ◌%◌, ◌^◌}

-- A tail's number tells its state, the code of the held piece (0 if none is held) and its place among the state's tails.
unfoldable pub tail_number : ℕ → ℕ → ℕ → ℕ
tail_number state held place = (state * 8 + held) * 2 ^ 32 + place

unfoldable pub state_of : ℕ → ℕ
state_of tail = tail / 2 ^ 32 / 8

unfoldable pub held_of : ℕ → ℕ
held_of tail = tail / 2 ^ 32 % 8

unfoldable pub place_of : ℕ → ℕ
place_of tail = tail % 2 ^ 32
