-- Placements that are played one after the other.
use Rattle.std.specs.Prelude.{IsTrue, List, [], ◌∷◌}
use Rattle.lane_board.specs.Field.{Field}
use Rattle.srs.specs.declared.placement.Placement.{Placement}
use Rattle.well.specs.Free.{is_free}
use Rattle.well.specs.Lock.{locked}

-- each placement is free in the field that those before it leave
abbrev pub AreFree : Field → List Placement → Type 0
AreFree F [] = Unit {0}
AreFree F (placement ∷ rest) = IsTrue (is_free F placement) × AreFree (locked F placement) rest
