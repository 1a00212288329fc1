-- The definitions, tried under an overhang: the cells of an L on two rows with a gap of four columns.
use Rattle.std.proofs.Common.{◌≡◌, ◌&&◌, ◌||◌, nat_lt, pos, Some, None, refl}
use Rattle.lane_board.specs.Field.{Field}
use Rattle.srs.specs.declared.piece.Piece.TheVariants.{L}
use Rattle.srs.specs.declared.rotation.Rotation.TheVariants as rotation
use Rattle.srs.specs.declared.placement.Placement.{Placement}
use Rattle.srs.specs.Cells.{cells_of, moved}
use Rattle.srs.specs.Kick.{srs_table}
use Rattle.srs.specs.SameCells.{is_among}
use Rattle.well.specs.Free.{is_open, is_free_at}
use Rattle.moves.specs.declared.key.Key.TheVariants.{Right, Clockwise}
use Rattle.moves.specs.Rest.{rest_from, rest_of}
use Rattle.moves.specs.Step.{first_free, shifted, turned, step_of}

abbrev rows : Field
rows x y = nat_lt x 6 && nat_lt y 2

abbrev overhang : Field
overhang x y = rows x y || is_among (cells_of (record { piece = L; rotation = rotation.Reverse; x = 7; y = 1 })) (pos x, pos y)

abbrev upright : Placement
upright = record { piece = L; rotation = rotation.Left; x = 9; y = 1 }

third_test : step_of srs_table overhang upright Clockwise ≡ Some (record { piece = L; rotation = rotation.Spawn; x = 8; y = 0 })
unfolding turned first_free is_free_at is_open moved is_among
third_test = refl

wall : step_of srs_table overhang upright Right ≡ None
unfolding shifted first_free is_free_at is_open moved is_among
wall = refl

lands_on_the_rows : rest_of rows (record { piece = L; rotation = rotation.Spawn; x = 4; y = 20 }) ≡ record { piece = L; rotation = rotation.Spawn; x = 4; y = 2 }
unfolding rest_from is_free_at is_open moved
lands_on_the_rows = refl
