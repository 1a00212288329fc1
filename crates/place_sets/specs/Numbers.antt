-- A set of numbers below 1,536, one bit each; the number of a state, which rises with the order of states.
use Rattle.std.specs.Prelude.{◌≡◌, ℕ, ◌+◌, ◌*◌, ◌/◌, ◌%◌, ◌<◌, ◌≤◌, Bool, true, false, ◌&&◌, ◌==◌, nat_lt, slice_index, Option, Some, None}
use Rattle.lane_board.specs.Lanes.{has_bit}
use Rattle.srs.specs.Rotation.{rotation_index}
use Rattle.place_sets.specs.declared.numbers.Numbers.{Numbers}
use Rattle.place_sets.specs.States.{States}

-- whether the set has a number
unfoldable pub has_number : Numbers → ℕ → Bool
has_number numbers n = has_bit (slice_index numbers.words (n / 64)) (n % 64)

-- the number of a state, by the index of its rotation: 24 rows for each rotation, 16 numbers for each row
abbrev pub number_of_state : ℕ → ℕ → ℕ → ℕ
number_of_state index y x = index * 384 + (y * 16 + x)

-- the states whose numbers the set has
unfoldable pub states_in : Numbers → States
states_in numbers rotation x y = nat_lt x 16 && nat_lt y 24
    && has_number numbers (number_of_state (rotation_index rotation) y x)

-- the one number that is named, if there is one
abbrev pub is_named : Option ℕ → ℕ → Bool
is_named None n = false
is_named (Some m) n = m == n

pub record IsFirstNumber (numbers : Numbers) (from n : ℕ) : Type 0 where
  pub has : has_number numbers n ≡ true
  pub small : n < 1536
  pub after : from ≤ n
  pub first : (m : ℕ) → m < 1536 → from ≤ m → has_number numbers m ≡ true → n ≤ m

pub record NoNumber (numbers : Numbers) (from : ℕ) : Type 0 where
  pub none : (m : ℕ) → m < 1536 → from ≤ m → has_number numbers m ≡ true → ⊥

-- the least number of the set from one on, or nothing where there is none
abbrev pub IsNumberFrom : Numbers → ℕ → Option ℕ → Type 0
IsNumberFrom numbers from None = NoNumber numbers from
IsNumberFrom numbers from (Some n) = IsFirstNumber numbers from n

pub record IsFirstWord (numbers : Numbers) (among at : ℕ) : Type 0 where
  pub small : at < 24
  pub is_among : has_bit among at ≡ true
  pub has : 0 < slice_index numbers.words at
  pub first : (w : ℕ) → w < at → has_bit among w ≡ true → slice_index numbers.words w ≡ 0

pub record NoWord (numbers : Numbers) (among : ℕ) : Type 0 where
  pub none : (w : ℕ) → w < 24 → has_bit among w ≡ true → slice_index numbers.words w ≡ 0

-- the first word with a bit among those of a mask, or nothing where they have none
abbrev pub IsWordAmong : Numbers → ℕ → Option ℕ → Type 0
IsWordAmong numbers among None = NoWord numbers among
IsWordAmong numbers among (Some at) = IsFirstWord numbers among at
