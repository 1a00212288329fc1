-- How many pieces of each kind may still be played.
use Rattle.std.specs.Prelude.{ℕ, ◌+◌, ◌-◌, ◌==◌, if◌then◌else◌, min, Option, Some, List, map, count_by}
use Rattle.srs.specs.declared.piece.Piece.{Piece}
use Rattle.srs.specs.Piece.{all_pieces, piece_code}
use Rattle.queue_pattern.specs.Queues.{is_in}
use Rattle.hold_queue.specs.declared.hold.Hold.{Hold}
use Rattle.hold_queue.specs.declared.hold.Hold.TheVariants.{Allowed}
use Rattle.hold_queue.specs.QueueSet.{QueuesInPlay}

-- one where hold is allowed and this piece is held at the start
abbrev pub from_hold : Hold → Option Piece → Piece → ℕ
from_hold Allowed (Some held) piece = if piece_code held == piece_code piece then 1 else 0
from_hold _ _ piece = 0

-- the smaller of the pieces left to play and of the elements whose set has this piece, with one that is held at the
-- start, less those that were played
abbrev pub supply_in_play : QueuesInPlay → ℕ → Piece → ℕ
supply_in_play line left piece =
    min left (count_by (λ element. is_in piece element.set) line.elements
    + from_hold line.hold line.held piece
    - count_by (λ played. piece_code played == piece_code piece) line.played)

-- the entries in the order of codes
abbrev pub supplies : QueuesInPlay → ℕ → List ℕ
supplies line left = map (supply_in_play line left) all_pieces
