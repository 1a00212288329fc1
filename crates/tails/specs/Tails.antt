-- Tails of a tree: their pieces at hand, what is left when one is taken, and the tails of queues.
use Rattle.std.specs.Prelude.{◌≡◌, ℕ, ◌+◌, ◌*◌, ◌%◌, ◌<◌, ◌≤◌, Bool, Option, Some, None, true, ◌&&◌, ◌||◌, ◌==◌, if◌then◌else◌, List, [], ◌∷◌, length, slice_index, slice_index_or}
use Rattle.srs.specs.declared.piece.Piece.{Piece}
use Rattle.srs.specs.Piece.{piece_code}
use Rattle.queue_pattern.specs.Pattern.{elements_of}
use Rattle.hold_queue.specs.declared.hold.Hold.{Hold}
use Rattle.hold_queue.specs.declared.hold.Hold.TheVariants.{Allowed, Avoided}
use Rattle.hands.specs.Hands.{allows_hold, number_of}
use Rattle.tails.specs.declared.states.State.{State}
use Rattle.tails.specs.declared.tree.TailTree.{TailTree}
use Rattle.tails.specs.Numbers.{held_of, place_of, state_of, tail_number}
use Rattle.tails.specs.States.{state_at, tails_of}

-- the state that a tail follows
unfoldable pub state_before : TailTree → ℕ → State
state_before tree tail = state_at tree.states.items (state_of tail)

-- the pieces that are drawn
unfoldable pub drawn_by : TailTree → ℕ → List Piece
drawn_by tree tail = slice_index_or (tails_of (elements_of tree.pattern) (state_before tree tail)) (place_of tail) []

-- the number of these pieces behind a held one, or of them alone if none is held
unfoldable pub behind_held : ℕ → List Piece → ℕ
behind_held held pieces = if held == 0 then number_of pieces else held + 8 * number_of pieces

-- the number of the pieces at hand: the held one, and those that are drawn
unfoldable pub hand_at : TailTree → ℕ → ℕ
hand_at tree tail = behind_held (held_of tail) (drawn_by tree tail)

-- A tail of a tree. Where hold is allowed, a piece is held as long as one may be drawn; where it is avoided, never. With
-- the held one there are at most 21 pieces.
pub record IsTail (tree : TailTree) (tail : ℕ) : Type 0 where
  pub within : state_of tail < length tree.states.items
  pub there : place_of tail < (state_before tree tail).count
  pub held : allows_hold tree.hold ≡ true → held_of tail ≡ 0 → (state_before tree tail).draws ≡ 0
  pub avoided : tree.hold ≡ Avoided → held_of tail ≡ 0
  pub room : 0 < held_of tail → length (drawn_by tree tail) ≤ 20

abbrev pub AreTails : TailTree → (ℕ → Bool) → Type 0
AreTails tree tails = (tail : ℕ) → tails tail ≡ true → IsTail tree tail

-- the code of the first piece that is drawn, 0 if there is none
unfoldable pub first_code : List Piece → ℕ
first_code [] = 0
first_code (piece ∷ pieces) = piece_code piece

unfoldable pub letter_at : TailTree → ℕ → ℕ
letter_at tree tail = first_code (drawn_by tree tail)

-- a tail behind its first piece, with a held piece
unfoldable pub behind_letter : TailTree → ℕ → ℕ → ℕ
behind_letter tree tail held =
    let state = state_before tree tail in
    if letter_at tree tail == 0 then tail_number (state_of tail) held (place_of tail)
    else tail_number (slice_index state.next (letter_at tree tail)) held (place_of tail % state.each)

-- A piece with this code can be taken so that a test passes of what is left: the held one, for which the first that is
-- drawn is held, or this first one.
unfoldable pub leads : TailTree → ℕ → (ℕ → Bool) → ℕ → Bool
leads tree code goes_on tail =
    ((held_of tail == code) && goes_on (behind_letter tree tail (letter_at tree tail)))
    || ((letter_at tree tail == code) && goes_on (behind_letter tree tail (held_of tail)))

-- The tail of the queue with a number, behind a held piece. Where hold is allowed and none is held, the first piece of
-- the queue is.
unfoldable pub start_with : TailTree → Hold → Option Piece → ℕ → ℕ
start_with tree Allowed (Some piece) number = tail_number tree.first (piece_code piece) number
start_with tree Allowed None number =
    behind_letter tree (tail_number tree.first 0 number) (letter_at tree (tail_number tree.first 0 number))
start_with tree Avoided held number = tail_number tree.first 0 number

unfoldable pub start_tail : TailTree → Option Piece → ℕ → ℕ
start_tail tree held number = start_with tree tree.hold held number

-- these are the hands of some tails, in the same order
pub record AreHandsAt (tree : TailTree) (tails hands : List ℕ) : Type 0 where
  pub size : length hands ≡ length tails
  pub each : (k : ℕ) → k < length tails → slice_index hands k ≡ hand_at tree (slice_index tails k)
