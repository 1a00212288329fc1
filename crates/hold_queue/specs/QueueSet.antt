-- What contracts see of a queue set: its elements, hold rule, the piece held at the start, and the played pieces.
use Rattle.std.specs.Prelude.{Bool, Option, List, take}
use Rattle.srs.specs.declared.piece.Piece.{Piece}
use Rattle.queue_pattern.specs.declared.element.Element.{Element}
use Rattle.queue_pattern.specs.Pattern.{elements_of}
use Rattle.queue_pattern.specs.Queues.{queues}
use Rattle.hold_queue.specs.declared.hold.Hold.{Hold}
use Rattle.hold_queue.specs.declared.set.QueueSet.{QueueSet}
use Rattle.hold_queue.specs.Permits.{SomePermits, some_permits}

pub record QueuesInPlay : Type 0 where
  pub elements : List Element
  pub hold : Hold
  pub held : Option Piece
  pub played : List Piece

unfoldable pub queues_in_play : QueueSet → QueuesInPlay
queues_in_play set =
    record { elements = elements_of set.pattern; hold = set.states.hold; held = set.held; played = take set.number set.played }

-- one of the queues permits these pieces from the start
abbrev pub QueuesPermit : QueuesInPlay → List Piece → Type 0
QueuesPermit line pieces = SomePermits line.hold (queues line.elements) line.held pieces

-- the test of `QueuesPermit`
abbrev pub queues_permit : QueuesInPlay → List Piece → Bool
queues_permit line pieces = some_permits line.hold (queues line.elements) line.held pieces
