-- The placement is among those that are left just where it was at the start.
use Rattle.std.proofs.Common.{◌↔◌, length}
use Rattle.std.specs.Prelude.{Contains}
use Rattle.enumerate.specs.Frames.{places_left}
use Rattle.enumerate.proofs.frame.Frame.reaches.Given as goal

abbrev pub invariant-loop-placement : goal.invariant-loop-placement
invariant-loop-placement l = record {
  same : Contains (places_left l.probe.places l.probe.entered) l.target ↔ Contains (places_left l.self.places l.self.entered) l.target;
}

abbrev pub decreases-loop-placement : goal.decreases-loop-placement
decreases-loop-placement l = length (places_left l.probe.places l.probe.entered)
