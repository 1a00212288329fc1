-- Numbers that are drawn from a state of 64 bits.
use Rattle.std.specs.Prelude.{ℕ, zero, suc, ◌+◌, ◌*◌, ◌/◌, ◌%◌, ◌^◌}

-- the state after one draw
abbrev pub next_state : ℕ → ℕ
next_state state = (state * 6364136223846793005 + 1442695040888963407) % 2 ^ 64

-- the state after so many draws
unfoldable pub state_after_draws : ℕ → ℕ → ℕ
state_after_draws zero state = state
state_after_draws (suc count) state = next_state (state_after_draws count state)

-- the draw with this number, counted from 1, below a bound: the upper 31 bits of the state after it, as a remainder
abbrev pub draw : ℕ → ℕ → ℕ → ℕ
draw state number below = state_after_draws number state / 2 ^ 33 % below
