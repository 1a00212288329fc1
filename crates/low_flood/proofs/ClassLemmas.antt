-- States with the same cells: one board serves them.
use Rattle.std.proofs.Common.{◌≡◌, Bool, pos, ◌+ℤ◌, List, map, refl, sym, ap, ◌∙◌, rules}
use Rattle.std.specs.List.{list_all}
use Rattle.std.specs.Ordering.{int_eq}
use Rattle.std.specs.Cmp.{signed_Decides}
use Rattle.lane_board.specs.Field.{Field}
use Rattle.lane_board.proofs.CallerLemmas.{same_from_both}
use Rattle.srs.specs.declared.piece.Piece.{Piece}
use Rattle.srs.specs.declared.rotation.Rotation.{Rotation}
use Rattle.srs.specs.declared.placement.Placement.{Placement}
use Rattle.srs.specs.Cells.{Cell, minus, moved, shape, cells_at, cells_of, pivot_of}
use Rattle.srs.specs.SameCells.{SameCells, HasSameCells}
use Rattle.srs.specs.Canonical.{canonical_rotation, canonical_move}
use Rattle.srs.proofs.CallerLemmas.{canonical_cells, is_among-all, list_all-from_is_among, map-moved-moved, same_cells-moved, each_state}
use Rattle.well.specs.Free.{is_open, is_free_at, is_free}
use Rattle.moves.specs.Rest.{lowered}
use Rattle.moves.specs.Lanes.{lowest}
use Rattle.moves.specs.Sky.{IsUnderSky}
use Rattle.moves.specs.RestingStates.{IsResting}

-- rotations of one class have one lane
pub class_lane : (p : Piece) (r : Rotation) → lowest (shape p r) ≡ lowest (shape p (canonical_rotation p r)) +ℤ (canonical_move p r).1
class_lane p r = (signed_Decides (lowest (shape p r)) (lowest (shape p (canonical_rotation p r)) +ℤ (canonical_move p r).1)).0 (each_state (λ p r. int_eq (lowest (shape p r)) (lowest (shape p (canonical_rotation p r)) +ℤ (canonical_move p r).1)) refl p r)

same_all : (test : Cell → Bool) (xs ys : List Cell) → SameCells xs ys → list_all test xs ≡ list_all test ys
same_all test xs ys same = search (rules, same_from_both, list_all-from_is_among, is_among-all)

-- and one board of free lane states
pub class_free : (F : Field) (p : Piece) (r : Rotation) (pivot : Cell) → is_free_at F p r pivot ≡ is_free_at F p (canonical_rotation p r) (moved pivot (canonical_move p r))
unfolding is_free_at
class_free F p r pivot = sym (same_all (is_open F) _ _ (canonical_cells p r pivot))

-- what rests or lies under the sky does so by its cells
pub free_same : (F : Field) (s q : Placement) → HasSameCells s q → is_free F s ≡ is_free F q
unfolding is_free_at
free_same F s q same = same_all (is_open F) (cells_of s) (cells_of q) same

lower_pivot : (s : Placement) → moved (pos 0, minus 1) (pivot_of s) ≡ lowered s 1
unfolding moved
lower_pivot s = search rules

lower_cells : (s : Placement) → map (moved (pos 0, minus 1)) (cells_of s) ≡ cells_at s.piece s.rotation (lowered s 1)
lower_cells s = map-moved-moved (pos 0, minus 1) (pivot_of s) (shape s.piece s.rotation) ∙ ap (cells_at s.piece s.rotation) (lower_pivot s)

pub lower_same : (F : Field) (s q : Placement) → HasSameCells s q → is_free_at F s.piece s.rotation (lowered s 1) ≡ is_free_at F q.piece q.rotation (lowered q 1)
unfolding is_free_at
lower_same F s q same = search (rules, lower_cells, same_all, same_cells-moved)

pub rests_same : (F : Field) (s q : Placement) → HasSameCells s q → IsResting F s → IsResting F q
rests_same F s q same rests = record { free = sym (free_same F s q same) ∙ rests.free; blocked = sym (lower_same F s q same) ∙ rests.blocked }

pub sky_same : (F : Field) (s q : Placement) → HasSameCells s q → IsUnderSky F s → IsUnderSky F q
sky_same F s q same sky = search (rules, same_all)
