-- Facts of the table of shapes, tried at each piece and rotation.
use Rattle.std.proofs.Common.{◌≡◌, nat_lt, Bool, true, false, ◌||◌, ◌==◌, length, map, refl, ◌∙◌, ◌<◌, ◌≤◌, nat_le, rules}
use Rattle.std.specs.List.{list_all}
use Rattle.std.proofs.lemmas.Bool.{eqb-true, and_from, leb-true, ltb-true}
use Rattle.std.proofs.lemmas.List.{length-map}
use Rattle.srs.specs.declared.piece.Piece.{Piece}
use Rattle.srs.specs.declared.rotation.Rotation.{Rotation}
use Rattle.srs.specs.declared.placement.Placement.{Placement}
use Rattle.srs.specs.Piece.{all_pieces, piece_code}
use Rattle.srs.specs.Rotation.{all_rotations, rotation_index}
use Rattle.srs.specs.Cells.{moved, shape, cells_of, pivot_of, is_near}
use Rattle.srs.specs.SameCells.{is_among, SameCells}
use Rattle.srs.specs.Canonical.{canonical_rotation, canonical_move, rotation_count}
use Rattle.srs.proofs.CellLemmas.{origin, fits, is_apart, is_still, same_cells-from}
use Rattle.srs.proofs.BooleanLemmas.{list_all_each, or_second}

-- what is tried of all pieces holds of each
pub each_piece : (test : Piece → Bool) → list_all test all_pieces ≡ true → (piece : Piece) → test piece ≡ true
each_piece test all h2 = search (rules, list_all_each)

-- what is tried of all rotations holds of each
pub each_rotation : (test : Rotation → Bool) → list_all test all_rotations ≡ true → (rotation : Rotation) → test rotation ≡ true
each_rotation test all h2 = search (rules, list_all_each)

-- what is tried of all pieces and rotations holds of each
pub each_state : (test : Piece → Rotation → Bool) → list_all (λ piece. list_all (test piece) all_rotations) all_pieces ≡ true → (piece : Piece) (rotation : Rotation) → test piece rotation ≡ true
each_state test all piece = each_rotation (test piece) (each_piece (λ p. list_all (test p) all_rotations) all piece)

-- codes of pieces and places of rotations are few
pub piece_code-some : (piece : Piece) → 1 ≤ piece_code piece
piece_code-some piece = leb-true _ _ (each_piece (λ p. nat_le 1 (piece_code p)) refl piece)

pub piece_code-small : (piece : Piece) → piece_code piece ≤ 7
piece_code-small piece = leb-true _ _ (each_piece (λ p. nat_le (piece_code p) 7) refl piece)

pub rotation_index-small : (rotation : Rotation) → rotation_index rotation < 4
rotation_index-small rotation = ltb-true _ _ (each_rotation (λ r. nat_lt (rotation_index r) 4) refl rotation)

-- each placement has four cells
pub shape_length : (piece : Piece) (rotation : Rotation) → length (shape piece rotation) ≡ 4
shape_length piece rotation = eqb-true _ _ (each_state (λ p r. length (shape p r) == 4) refl piece rotation)

pub cells_length : (placement : Placement) → length (cells_of placement) ≡ 4
cells_length q = length-map (shape q.piece q.rotation) (moved (pivot_of q)) ∙ shape_length q.piece q.rotation

-- the pivot is a cell
pub pivot_in_shape : (piece : Piece) (rotation : Rotation) → is_among (shape piece rotation) origin ≡ true
unfolding is_among origin
pivot_in_shape = each_state (λ p r. is_among (shape p r) origin) refl

-- the pivot of the canonical placement is a cell
pub canonical_move_in_shape : (piece : Piece) (rotation : Rotation) → is_among (shape piece rotation) (canonical_move piece rotation) ≡ true
unfolding is_among
canonical_move_in_shape = each_state (λ p r. is_among (shape p r) (canonical_move p r)) refl

pub canonical_move_near : (piece : Piece) (rotation : Rotation) → is_near (canonical_move piece rotation) ≡ true
canonical_move_near = each_state (λ p r. is_near (canonical_move p r)) refl

-- the shape of the canonical rotation, moved, has the same cells
pub canonical_shape : (piece : Piece) (rotation : Rotation) → SameCells (map (moved (canonical_move piece rotation)) (shape piece (canonical_rotation piece rotation))) (shape piece rotation)
unfolding is_among moved
canonical_shape p r = search (rules, same_cells-from, each_state)

-- no two kinds of piece have a shape in common, wherever they are
pub kinds_apart : (p : Piece) (r : Rotation) (q : Piece) (s : Rotation) → (piece_code p == piece_code q) ≡ false → is_apart (shape p r) (shape q s) ≡ true
unfolding is_among moved fits is_apart
kinds_apart p r q s other = or_second _ _ other (each_state (λ q s. piece_code p == piece_code q || is_apart (shape p r) (shape q s)) (each_state (λ p r. list_all (λ q. list_all (λ s. piece_code p == piece_code q || is_apart (shape p r) (shape q s)) all_rotations) all_pieces) refl p r) q s)

-- the rotations that a piece has cells of its own in are apart from each earlier one
pub rotations_apart : (p : Piece) (r s : Rotation) → nat_lt (rotation_index s) (rotation_count p) ≡ true → nat_lt (rotation_index r) (rotation_index s) ≡ true → is_apart (shape p r) (shape p s) ≡ true
unfolding is_among moved fits is_apart
rotations_apart p r s own earlier = search (rules, each_rotation, each_state, and_from)

pub shape_still : (p : Piece) (r : Rotation) → is_still (shape p r) ≡ true
unfolding is_among moved fits is_still origin
shape_still = each_state (λ p r. is_still (shape p r)) refl

-- a rotation has cells of its own, or the canonical one is earlier
pub canonical_earlier : (p : Piece) (r : Rotation) → nat_lt (rotation_index r) (rotation_count p) ≡ false → nat_lt (rotation_index (canonical_rotation p r)) (rotation_index r) ≡ true
canonical_earlier p r other = or_second _ _ other (each_state (λ p r. nat_lt (rotation_index r) (rotation_count p) || nat_lt (rotation_index (canonical_rotation p r)) (rotation_index r)) refl p r)

-- the canonical rotation has cells of its own
pub canonical_rotation_own : (p : Piece) (r : Rotation) → nat_lt (rotation_index (canonical_rotation p r)) (rotation_count p) ≡ true
canonical_rotation_own = each_state (λ p r. nat_lt (rotation_index (canonical_rotation p r)) (rotation_count p)) refl

-- no cell is more than two columns or rows from the pivot
pub shape_near : (p : Piece) (r : Rotation) → list_all is_near (shape p r) ≡ true
shape_near = each_state (λ p r. list_all is_near (shape p r)) refl
