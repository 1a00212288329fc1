-- The tests of a turn, one after the other.
use Rattle.std.proofs.Common.{◌≡◌, ℕ, ◌-◌, ◌≤◌, ◌∷◌, drop, List, rules}
use Rattle.lane_board.specs.Field.{Field, union}
use Rattle.srs.specs.declared.piece.Piece.{Piece}
use Rattle.srs.specs.declared.rotation.Rotation.{Rotation}
use Rattle.srs.specs.Cells.{Cell}
use Rattle.srs.specs.Kick.{Table, kick_in, kicks_of}
use Rattle.whole_flood.specs.Kicks.{kicked_to, left_by, turned_from}

-- the tests that are left begin with the one that is due
pub kicks_from : (table : Table) (piece : Piece) (from to : Rotation) (test : ℕ) → 1 ≤ test → test ≤ 5 → drop (test - 1) (kicks_of table piece from to) ≡ kick_in table piece from to test ∷ drop test (kicks_of table piece from to)
kicks_from table piece from to test first last = search rules

-- after one test, the tests that are left go on from what it left
pub turned_step : (F : Field) (N : ℕ) (moves rest : List Cell) (move : Cell) (L R H L' R' whole : Field) → moves ≡ move ∷ rest → H ≡ kicked_to F N move L → R' ≡ union R H → L' ≡ left_by N move H L → turned_from F N moves L R ≡ whole → turned_from F N rest L' R' ≡ whole
unfolding turned_from
turned_step F N moves rest move L R H L' R' whole due hits grown left so_far = search rules
