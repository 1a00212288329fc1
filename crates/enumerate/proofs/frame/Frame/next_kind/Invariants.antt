-- At the kinds that were passed by there is nothing to do.
use Rattle.std.proofs.Common.{◌≡◌, List, [], drop, length}
use Rattle.srs.specs.declared.placement.Placement.{Placement}
use Rattle.srs.specs.Piece.{all_pieces}
use Rattle.srs.specs.Kick.{Table}
use Rattle.moves.specs.declared.key.DropMode.{DropMode}
use Rattle.enumerate.specs.Frames.{events_of, places_left}
use Rattle.enumerate.proofs.frame.Frame.next_kind.Given as goal

abbrev pub invariant-loop-piece : goal.invariant-loop-piece
invariant-loop-piece l = record {
  same : l.self.setup ≡ l.initial.self.setup;
  none : places_left l.self.places l.self.entered ≡ [];
  goes : (table : Table) (mode : DropMode) (prefix : List Placement) → events_of table mode prefix l.initial.self ≡ events_of table mode prefix l.self;
}

abbrev pub decreases-loop-piece : goal.decreases-loop-piece
decreases-loop-piece l = length (drop l.self.tried all_pieces)
