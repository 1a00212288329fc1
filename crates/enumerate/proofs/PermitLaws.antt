-- What is permitted begins with what is permitted, and a list with an entry for each piece.
use Rattle.std.proofs.Common.{◌≡◌, ◌-◌, Bool, false, List, [], ◌∷◌, ◌++◌, map, get_or, rules}
use Rattle.std.specs.Prelude.{Option}
use Rattle.srs.specs.declared.piece.Piece.{Piece}
use Rattle.srs.specs.Piece.{all_pieces, piece_code}
use Rattle.hold_queue.specs.declared.hold.Hold.{Hold}
use Rattle.hold_queue.specs.Permits.{Permits}
use Rattle.hold_queue.specs.QueueSet.{QueuesInPlay, QueuesPermit}

permits-front : (hold : Hold) (queue : List Piece) (held : Option Piece) (front rest : List Piece) → Permits hold queue held (front ++ rest) → Permits hold queue held front
permits-front hold queue held [] rest permitted = tt
permits-front hold queue held (piece ∷ front) rest permitted = search (rules, (permits-front hold permitted.0 permitted.1 front rest permitted.3))

pub line_permits-front : (line : QueuesInPlay) (front rest : List Piece) → QueuesPermit line (front ++ rest) → QueuesPermit line front
line_permits-front line front rest permitted = (permitted.0, permitted.1, permits-front line.hold permitted.0 line.held front rest permitted.2)

-- the entry of a piece in a list with one for each
pub entry_of : (f : Piece → Bool) (entries : List Bool) → entries ≡ map f all_pieces → (piece : Piece) → get_or entries (piece_code piece - 1) false ≡ f piece
entry_of f entries is h3 = search rules
