-- Each place is still open, or its answer is added.
use Rattle.std.proofs.Common.{◌≡◌, ◌⊎◌, ◌||◌, length}
use Rattle.std.specs.Prelude.{IsTrue, Some, None}
use Rattle.srs.specs.declared.placement.Placement.{Placement}
use Rattle.place_sets.specs.LowPlaces.{holds, piece_of}
use Rattle.empty_cells.specs.PivotWords.{has_placement}
use Rattle.enumerate.specs.Frames.{places_left}
use Rattle.enumerate.proofs.tilings.Tilings.answer.Given as goal

abbrev pub invariant-loop-placement : goal.invariant-loop-placement
invariant-loop-placement l = record {
  cells : l.answers.cells ≡ l.initial.answers.cells;
  supply : l.answers.supply ≡ l.initial.answers.supply;
  piece : l.answers.piece ≡ l.initial.answers.piece;
  same : piece_of l.open ≡ piece_of l.initial.open;
  held : (q : Placement) → IsTrue (holds l.open q) → IsTrue (holds l.initial.open q);
  kept : (q : Placement) → IsTrue (has_placement l.initial.answers.dead q || has_placement l.initial.answers.live q) → IsTrue (has_placement l.answers.dead q || has_placement l.answers.live q);
  answered : (q : Placement) → IsTrue (holds l.initial.open q) → IsTrue (holds l.open q) ⊎ IsTrue (has_placement l.answers.dead q || has_placement l.answers.live q);
}

abbrev pub decreases-loop-placement : goal.decreases-loop-placement
decreases-loop-placement l = length (places_left (Some l.open) None)
