-- What contracts see of `Rules`: its table of offsets.
use Rattle.std.specs.Prelude.{map, List}
use Rattle.srs.specs.declared.piece.Piece.TheVariants.{I, L, O, Z, T, J, S}
use Rattle.srs.specs.declared.rotation.Rotation.{Rotation}
use Rattle.srs.specs.declared.rotation.Rotation.TheVariants.{Spawn, Right, Reverse, Left}
use Rattle.srs.specs.declared.rules.Rules.{Rules}
use Rattle.srs.specs.declared.rules.PieceOffsets.{PieceOffsets}
use Rattle.srs.specs.Cells.{Cell}
use Rattle.srs.specs.Kick.{Table, pair_of}

-- the offsets of one piece
abbrev pub piece_table : PieceOffsets → Rotation → List Cell
piece_table offsets Spawn = map pair_of offsets.spawn.offsets
piece_table offsets Right = map pair_of offsets.right.offsets
piece_table offsets Reverse = map pair_of offsets.reverse.offsets
piece_table offsets Left = map pair_of offsets.left.offsets

-- the table of these rules
unfoldable pub table_of : Rules → Table
table_of rules I = piece_table rules.i
table_of rules L = piece_table rules.l
table_of rules O = piece_table rules.o
table_of rules Z = piece_table rules.z
table_of rules T = piece_table rules.t
table_of rules J = piece_table rules.j
table_of rules S = piece_table rules.s
