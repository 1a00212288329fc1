-- The states of a pattern: what is left of its elements when some pieces are drawn.
use Rattle.std.specs.Prelude.{ℕ, List, drop, slice_index_or, replicate}
use Rattle.srs.specs.declared.piece.Piece.{Piece}
use Rattle.queue_pattern.specs.declared.element.Element.{Element}
use Rattle.queue_pattern.specs.Queues.{pieces_in, tails}
use Rattle.tails.specs.declared.states.State.{State}

-- the tails of a state: what may still be drawn, in rising order
unfoldable pub tails_of : List Element → State → List (List Piece)
tails_of elements state = tails (pieces_in state.set) state.draws (drop state.behind elements)

-- a state without tails
unfoldable pub no_state : State
no_state = record { set = 0; draws = 0; behind = 0; count = 0; each = 0; next = replicate 8 0 }

-- the state with a number
unfoldable pub state_at : List State → ℕ → State
state_at states number = slice_index_or states number no_state
