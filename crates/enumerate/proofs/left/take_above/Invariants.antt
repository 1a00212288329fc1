-- What is left above the bound is what was left at the start.
use Rattle.std.proofs.Common.{◌≡◌, length}
use Rattle.std.specs.Prelude.{IsTrue, Some, None}
use Rattle.srs.specs.declared.placement.Placement.{Placement}
use Rattle.place_sets.specs.LowPlaces.{holds, piece_of}
use Rattle.enumerate.specs.Frames.{places_left}
use Rattle.enumerate.proofs.left.take_above.Given as goal

abbrev pub invariant-loop-placement : goal.invariant-loop-placement
invariant-loop-placement l = record {
  piece : piece_of l.places ≡ piece_of l.initial.places;
  held : (q : Placement) → IsTrue (holds l.places q) → IsTrue (holds l.initial.places q);
  same : places_left (Some l.initial.places) l.bound ≡ places_left (Some l.places) l.bound;
}

abbrev pub decreases-loop-placement : goal.decreases-loop-placement
decreases-loop-placement l = length (places_left (Some l.places) None)
