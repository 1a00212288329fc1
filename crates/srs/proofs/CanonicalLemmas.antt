-- The canonical placement: that there is one with the same cells, which one it is, and that it is the only one.
use Rattle.std.proofs.Common.{◌≡◌, ℕ, ◌<◌, ◌≤◌, true, ltb-true, lt-ltb, eqb-true, pos, negsuc, refl, subst, rules}
use Rattle.std.proofs.lemmas.Bool.{cases_Bool, cases_lt, leb-true}
use Rattle.std.proofs.lemmas.List.Folds.{list_all-map}
use Rattle.srs.specs.declared.piece.Piece.{Piece}
use Rattle.srs.specs.declared.rotation.Rotation.{Rotation}
use Rattle.srs.specs.declared.placement.Placement.{Placement}
use Rattle.srs.specs.Rotation.{rotation_index}
use Rattle.srs.specs.Cells.{Cell, moved, shape, cells_at, pivot_of, in_well, is_inside_of, HasPivotInWell}
use Rattle.srs.specs.SameCells.{is_among, SameCells, HasSameCells}
use Rattle.srs.specs.Canonical.{IsCanonical, is_canonical, canonical_rotation, canonical_move}
use Rattle.srs.proofs.CellLemmas.{apart_differ, is_among-all, moved-origin, origin, map-moved-moved, same_cells-moved, same_cells-sym, still_same}
use Rattle.srs.proofs.CodeLemmas.{piece_code-injective, rotation_index-injective, same_placement}
use Rattle.srs.proofs.BooleanLemmas.{and_first, and_second}
use Rattle.srs.proofs.ShapeLemmas.{canonical_earlier, canonical_move_in_shape, canonical_rotation_own, canonical_shape, kinds_apart, pivot_in_shape, rotations_apart, shape_still}

-- the canonical rotation, with its pivot moved, has the same cells
pub canonical_cells : (piece : Piece) (rotation : Rotation) (pivot : Cell) → SameCells (cells_at piece (canonical_rotation piece rotation) (moved pivot (canonical_move piece rotation))) (cells_at piece rotation pivot)
canonical_cells p r c = search (rules, (map-moved-moved c (canonical_move p r) (shape p (canonical_rotation p r))), (same_cells-moved c), (canonical_shape p r))

-- a placement whose rotation the test takes is canonical
pub IsCanonical-from_test : (s : Placement) → is_canonical s ≡ true → IsCanonical s
IsCanonical-from_test s own = search (rules, apart_differ, pivot_in_shape, rotations_apart, lt-ltb)

-- a canonical placement has a rotation that the test takes
pub is_canonical-from : (s : Placement) → IsCanonical s → is_canonical s ≡ true
is_canonical-from s canonical =
    search (rules, (cases_Bool (is_canonical s)), (canonical.earliest (canonical_rotation s.piece s.rotation) (moved (pivot_of s) (canonical_move s.piece s.rotation))), ltb-true, (canonical_earlier s.piece s.rotation), (canonical_cells s.piece s.rotation (pivot_of s)))

-- two placements with the same cells are of one piece
pub same_cells-piece : (s t : Placement) → HasSameCells s t → s.piece ≡ t.piece
same_cells-piece s t same =
    search (rules, cases_Bool, piece_code-injective, eqb-true, apart_differ, pivot_in_shape, kinds_apart)

earlier_differs : (s t : Placement) → s.piece ≡ t.piece → IsCanonical t → HasSameCells s t → rotation_index s.rotation < rotation_index t.rotation → ⊥
earlier_differs s t kind canonical same earlier = search rules

one_rotation : (s t : Placement) → s.piece ≡ t.piece → IsCanonical s → IsCanonical t → HasSameCells s t → s.rotation ≡ t.rotation
one_rotation s t kind first second same =
    search (rules, rotation_index-injective, earlier_differs, same_cells-sym, cases_lt)

-- one piece and one rotation have the same cells at one pivot only
pub pivot_unique : (piece : Piece) (rotation : Rotation) (c d : Cell) → SameCells (cells_at piece rotation c) (cells_at piece rotation d) → c ≡ d
pivot_unique p r c d = still_same (shape p r) c d (pivot_in_shape p r) (shape_still p r)

-- two canonical placements with the same cells are equal
pub canonical_unique : (s t : Placement) → IsCanonical s → IsCanonical t → HasSameCells s t → s ≡ t
canonical_unique s t first second same = search (rules, same_cells-piece, one_rotation, pivot_unique, same_placement)

-- each cell of a placement that is inside lies in the well
pub inside_cell : (s : Placement) (move : Cell) → is_inside_of s ≡ true → is_among (shape s.piece s.rotation) move ≡ true → in_well (moved (pivot_of s) move) ≡ true
inside_cell s move inside has = search (rules, is_among-all, list_all-map)

-- where a cell of the well lies
pub record LiesAt (cell : Cell) : Type 0 where
  pub x : ℕ
  pub y : ℕ
  pub is : cell ≡ (pos x, pos y)
  pub in_columns : x ≤ 9
  pub in_rows : y ≤ 22

pub in_well-place : (cell : Cell) → in_well cell ≡ true → LiesAt cell
in_well-place (pos x, pos y) h = record { x = x; y = y; is = refl; in_columns = leb-true x 9 (and_first _ _ h); in_rows = leb-true y 22 (and_second _ _ h) }
in_well-place (pos x, negsuc y) h = cc
in_well-place (negsuc x, pos y) h = cc
in_well-place (negsuc x, negsuc y) h = cc

-- the pivot of a placement that is inside lies in the well
pub pivot_inside : (s : Placement) → is_inside_of s ≡ true → HasPivotInWell s
pivot_inside s inside =
    search (rules, (in_well-place (pivot_of s) (subst (λ c. in_well c ≡ true) (moved-origin (pivot_of s)) (inside_cell s origin inside (pivot_in_shape s.piece s.rotation)))))

-- so does the pivot of the canonical placement
pub canonical_pivot : (s : Placement) → is_inside_of s ≡ true → LiesAt (moved (pivot_of s) (canonical_move s.piece s.rotation))
canonical_pivot s inside = in_well-place _ (inside_cell s (canonical_move s.piece s.rotation) inside (canonical_move_in_shape s.piece s.rotation))

-- what is in the canonical rotation, with its pivot moved, has the same cells and is canonical
pub found_cells : (q s : Placement) → q.piece ≡ s.piece → q.rotation ≡ canonical_rotation s.piece s.rotation → pivot_of q ≡ moved (pivot_of s) (canonical_move s.piece s.rotation) → HasSameCells q s
found_cells q s kind turn pivot = search (rules, canonical_cells)

pub found_canonical : (q s : Placement) → q.piece ≡ s.piece → q.rotation ≡ canonical_rotation s.piece s.rotation → IsCanonical q
found_canonical q s kind turn = search (rules, IsCanonical-from_test, canonical_rotation_own)
