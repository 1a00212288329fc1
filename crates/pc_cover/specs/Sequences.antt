-- The placements of a sequence.
use Rattle.std.specs.Prelude.{List}
use Rattle.arrayvec.specs.ArrayVec.{ArrayVec}
use Rattle.srs.specs.declared.placement.Placement.{Placement}

abbrev pub listed_placements : ArrayVec Placement → List Placement
listed_placements sequence = sequence.items
