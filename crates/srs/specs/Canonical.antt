-- The canonical placement, which stands for all placements with its cells: the one with the earliest rotation.
use Rattle.std.specs.Prelude.{ℕ, ◌<◌, Bool, nat_lt, pos}
use Rattle.srs.specs.declared.piece.Piece.{Piece}
use Rattle.srs.specs.declared.piece.Piece.TheVariants.{I, O, Z, S}
use Rattle.srs.specs.declared.rotation.Rotation.{Rotation}
use Rattle.srs.specs.declared.rotation.Rotation.TheVariants.{Spawn, Right, Reverse, Left}
use Rattle.srs.specs.declared.placement.Placement.{Placement}
use Rattle.srs.specs.Cells.{Cell, minus, cells_at, cells_of}
use Rattle.srs.specs.Rotation.{rotation_index}
use Rattle.srs.specs.SameCells.{SameCells}

-- no other rotation, earlier in the order 0, R, 2, L, has the same cells, wherever its pivot is
pub record IsCanonical (placement : Placement) : Type 0 where
  pub earliest : (rotation : Rotation) (pivot : Cell) → rotation_index rotation < rotation_index placement.rotation
      → SameCells (cells_at placement.piece rotation pivot) (cells_of placement) → ⊥

-- how many rotations of a piece have cells of their own: the first so many in the order
abbrev pub rotation_count : Piece → ℕ
rotation_count I = 2
rotation_count O = 1
rotation_count S = 2
rotation_count Z = 2
rotation_count _ = 4

-- the test of `IsCanonical`
abbrev pub is_canonical : Placement → Bool
is_canonical placement = nat_lt (rotation_index placement.rotation) (rotation_count placement.piece)

-- the earliest rotation with the same cells
abbrev pub canonical_rotation : Piece → Rotation → Rotation
canonical_rotation I Reverse = Spawn
canonical_rotation I Left = Right
canonical_rotation O _ = Spawn
canonical_rotation S Reverse = Spawn
canonical_rotation S Left = Right
canonical_rotation Z Reverse = Spawn
canonical_rotation Z Left = Right
canonical_rotation _ rotation = rotation

-- what the pivot moves by where this rotation is taken
abbrev pub canonical_move : Piece → Rotation → Cell
canonical_move I Reverse = (minus 1, pos 0)
canonical_move I Left = (pos 0, pos 1)
canonical_move O Right = (pos 0, minus 1)
canonical_move O Reverse = (minus 1, minus 1)
canonical_move O Left = (minus 1, pos 0)
canonical_move S Reverse = (pos 0, minus 1)
canonical_move S Left = (minus 1, pos 0)
canonical_move Z Reverse = (pos 0, minus 1)
canonical_move Z Left = (minus 1, pos 0)
canonical_move _ _ = (pos 0, pos 0)
