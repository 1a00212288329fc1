-- Lists of the numbers of tails' pieces.
use Rattle.std.specs.Prelude.{◌≡◌, ℕ, ◌+◌, ◌<◌, List, [], Some, length, slice_get, slice_index, slice_index_or}
use Rattle.queue_pattern.specs.declared.element.Element.{Element}
use Rattle.hands.specs.Hands.{number_of}
use Rattle.tails.specs.declared.lists.Lists.{Lists}
use Rattle.tails.specs.declared.states.State.{State}
use Rattle.tails.specs.States.{state_at, tails_of}

-- the number of the pieces of the tail at a place
unfoldable pub number_at : List Element → State → ℕ → ℕ
number_at elements state place = number_of (slice_index_or (tails_of elements state) place [])

-- where the tails of a state are listed, the numbers of their pieces stand there
pub record AreListed (elements : List Element) (states : List State) (lists : Lists) : Type 0 where
  pub size : length lists.starts.items ≡ length states
  pub each : (number start place : ℕ) → slice_get lists.starts.items number ≡ Some (Some start)
      → place < (state_at states number).count → start + place < length lists.numbers.items
  pub numbers : (number start place : ℕ) → slice_get lists.starts.items number ≡ Some (Some start)
      → place < (state_at states number).count
      → slice_index lists.numbers.items (start + place) ≡ number_at elements (state_at states number) place
