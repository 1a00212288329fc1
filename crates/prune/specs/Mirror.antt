-- A field and a supply seen in a mirror: the columns are counted from the right.
use Rattle.std.specs.Prelude.{◌-◌, ◌+ℤ◌, neg_ℤ, pos}
use Rattle.lane_board.specs.Field.{Field}
use Rattle.srs.specs.declared.piece.Piece.{Piece}
use Rattle.srs.specs.declared.piece.Piece.TheVariants.{I, L, O, Z, T, J, S}
use Rattle.srs.specs.declared.rotation.Rotation.{Rotation}
use Rattle.srs.specs.declared.rotation.Rotation.TheVariants.{Spawn, Right, Reverse, Left}
use Rattle.srs.specs.Cells.{Cell}
use Rattle.prune.specs.Tiling.{Supply}

-- the kind as which a mirror shows a kind
abbrev pub mirror_kind : Piece → Piece
mirror_kind I = I
mirror_kind L = J
mirror_kind O = O
mirror_kind Z = S
mirror_kind T = T
mirror_kind J = L
mirror_kind S = Z

-- the rotation in which it shows it
abbrev pub mirror_rotation : Piece → Rotation → Rotation
mirror_rotation I Spawn = Reverse
mirror_rotation I Right = Right
mirror_rotation I Reverse = Spawn
mirror_rotation I Left = Left
mirror_rotation O Spawn = Left
mirror_rotation O Right = Reverse
mirror_rotation O Reverse = Right
mirror_rotation O Left = Spawn
mirror_rotation _ Spawn = Spawn
mirror_rotation _ Right = Left
mirror_rotation _ Reverse = Reverse
mirror_rotation _ Left = Right

-- an offset on the other side of the pivot
abbrev pub flip : Cell → Cell
flip offset = (neg_ℤ offset.0, offset.1)

-- a cell in its column from the right
unfoldable pub mirror_cell : Cell → Cell
mirror_cell cell = (pos 9 +ℤ neg_ℤ cell.0, cell.1)

unfoldable pub mirrored : Field → Field
mirrored F x y = F (9 - x) y

abbrev pub mirrored_supply : Supply → Supply
mirrored_supply supply piece = supply (mirror_kind piece)
