-- Laws of tilings: what placements do to them, parity, and walls.
use Rattle.std.specs.Prelude.{◌≡◌, ℕ, suc, ◌+◌, ◌-◌, ◌*◌, ◌%◌, ◌≤◌, IsTrue, ◌==◌, ◌↔◌, if◌then◌else◌, List, [], ◌∷◌, count_by, sum_by, nat_abs, ◌<◌}
use Rattle.std.specs.List.{list_all}
use Rattle.lane_board.specs.Field.{Field}
use Rattle.srs.specs.declared.piece.Piece.{Piece}
use Rattle.srs.specs.declared.placement.Placement.{Placement}
use Rattle.srs.specs.declared.piece.Piece.TheVariants.{L, T, J}
use Rattle.srs.specs.Cells.{Cell}
use Rattle.srs.specs.SameCells.{is_among}
use Rattle.srs.specs.Piece.{all_pieces, piece_code}
use Rattle.well.specs.Counts.{empties_below}
use Rattle.well.specs.Free.{is_free}
use Rattle.well.specs.Lock.{together, locked, rows_removed}
use Rattle.well.specs.LockLaws.{LiesBelow, is_below}
use Rattle.prune.specs.Counts.{even_column_empties}
use Rattle.prune.specs.Tiling.{Supply, Tiling, Part, IsGeneralized, is_empty_below}
use Rattle.prune.specs.Walls.{IsWall, HasUnevenPart}

-- one more piece of this kind
unfoldable pub with_one : Supply → Piece → Supply
with_one supply piece other = if piece_code piece == piece_code other then suc (supply other) else supply other

-- a tiling of the field after a placement, with the rows left then, gives one of the field before it with one more
-- piece
abbrev pub OnePlacement : Type 0
OnePlacement = (F : Field) (q : Placement) (height : ℕ) (supply : Supply) → height ≤ 23 → LiesBelow F height →
    IsTrue (is_free F q) → IsTrue (is_below height q) →
    Tiling (locked F q) (height - rows_removed F q) supply → Tiling F height (with_one supply q.piece)

-- full rows that still stand change nothing: what is empty then has a tiling exactly where the field after their
-- removal has
abbrev pub FullRowsMayStand : Type 0
FullRowsMayStand = (F : Field) (q : Placement) (height : ℕ) (supply : Supply) → height ≤ 23 → LiesBelow F height →
    IsTrue (is_free F q) → IsTrue (is_below height q) →
    Tiling (together F q) height supply ↔ Tiling (locked F q) (height - rows_removed F q) supply

-- a tiling stays one where there are more pieces
abbrev pub MorePieces : Type 0
MorePieces = (F : Field) (rows : ℕ) (supply more : Supply) → ((piece : Piece) → supply piece ≤ more piece) →
    Tiling F rows supply → Tiling F rows more

-- with so many rows left, each placement is free in the field before it and lies below the rows left there, and after
-- the last one no row is left
abbrev pub ClearsRows : Field → ℕ → List Placement → Type 0
ClearsRows F rows [] = rows ≡ 0
ClearsRows F rows (q ∷ rest) = IsTrue (is_free F q) × IsTrue (is_below rows q)
    × ClearsRows (locked F q) (rows - rows_removed F q) rest

-- as many pieces of each kind as these placements have
unfoldable pub kinds_placed : List Placement → Supply
kinds_placed placements piece = count_by (λ q. piece_code q.piece == piece_code piece) placements

-- where a sequence of placements clears all rows, its placements leave a tiling of the field before it; so it is before
-- each of them, since the rest of the sequence clears the rows that are left
abbrev pub ClearedIsTiled : Type 0
ClearedIsTiled = (F : Field) (rows : ℕ) (placements : List Placement) → rows ≤ 23 → LiesBelow F rows →
    ClearsRows F rows placements → Tiling F rows (kinds_placed placements)

-- Where a tiling uses up a supply without a T, as many empty cells stand in even columns as there are L and J, up to an
-- even number.
abbrev pub EvenColumns : Type 0
EvenColumns = (F : Field) (rows : ℕ) (supply : Supply) → supply T ≡ 0 →
    empties_below F rows ≡ 4 * sum_by supply all_pieces → Tiling F rows supply →
    even_column_empties F rows % 2 ≡ (supply L + supply J) % 2

-- a generalized piece that lies on empty cells has none on both sides of a wall
abbrev pub NoPieceReachesOver : Type 0
NoPieceReachesOver = (F : Field) (rows wall : ℕ) (part : Part) → IsGeneralized part →
    IsTrue (list_all (is_empty_below F rows) part.cells) → IsWall F rows wall → (c d : Cell) →
    IsTrue (is_among part.cells c) → IsTrue (is_among part.cells d) → nat_abs c.0 < wall → wall ≤ nat_abs d.0 → ⊥

-- so what stands between two walls is a multiple of four, where there is a tiling
abbrev pub PartsAreEven : Type 0
PartsAreEven = (F : Field) (rows : ℕ) (supply : Supply) → HasUnevenPart F rows → Tiling F rows supply → ⊥
