-- The placements that were passed have nothing to do.
use Rattle.std.proofs.Common.{◌≡◌, List, length}
use Rattle.srs.specs.declared.placement.Placement.{Placement}
use Rattle.srs.specs.Kick.{Table}
use Rattle.moves.specs.declared.key.DropMode.{DropMode}
use Rattle.enumerate.specs.Frames.{events_of, places_left}
use Rattle.enumerate.proofs.frame.Frame.take_worth.Given as goal

abbrev pub invariant-loop-placement : goal.invariant-loop-placement
invariant-loop-placement l = record {
  same : l.self.setup ≡ l.initial.self.setup;
  tried : l.self.tried ≡ l.initial.self.tried;
  goes : (table : Table) (mode : DropMode) (prefix : List Placement) → events_of table mode prefix l.initial.self ≡ events_of table mode prefix l.self;
}

abbrev pub decreases-loop-placement : goal.decreases-loop-placement
decreases-loop-placement l = length (places_left l.self.places l.self.entered)
