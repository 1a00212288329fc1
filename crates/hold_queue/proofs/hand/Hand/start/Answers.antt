-- A held piece stands in front where hold is allowed.
use Rattle.std.proofs.Common.{◌∙◌, ap}
use Rattle.std.specs.Prelude.{Option}
use Rattle.srs.specs.declared.piece.Piece.{Piece}
use Rattle.hold_queue.specs.Hand.{pieces_at}
use Rattle.hold_queue.proofs.HandLemmas.{start-playable}
use Rattle.hold_queue.proofs.hand.Hand.start.Goals as goal

pub returns-clause-at : goal.returns-clause-at
returns-clause-at c queue =
    ap (λ (held : Option Piece). pieces_at queue (record { held = held; drawn = 0 })) c.playable.ensures
    ∙ start-playable c.args.hold c.args.held queue
