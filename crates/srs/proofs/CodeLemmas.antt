-- Codes, places and letters tell pieces and rotations apart, and the parts of placements these.
use Rattle.std.proofs.Common.{◌≡◌, ℕ, ◌==◌, sym, ap, ◌∙◌, rules}
use Rattle.std.specs.Prelude.{Option, Some, unwrap_or, find}
use Rattle.srs.specs.declared.piece.Piece.{Piece}
use Rattle.srs.specs.declared.piece.Piece.TheVariants.{I}
use Rattle.srs.specs.declared.rotation.Rotation.{Rotation}
use Rattle.srs.specs.declared.rotation.Rotation.TheVariants.{Spawn}
use Rattle.srs.specs.Piece.{piece_code, piece_with_code}
use Rattle.srs.specs.declared.placement.Placement.{Placement}
use Rattle.srs.specs.Rotation.{all_rotations, rotation_letter, rotation_index, rotation_with_letter}

-- the piece with a piece's code is that piece
pub piece_with_code-code : (p : Piece) → piece_with_code (piece_code p) ≡ Some p
piece_with_code-code p = search rules

pub piece_code-injective : (p q : Piece) → piece_code p ≡ piece_code q → p ≡ q
piece_code-injective p q e = ap (λ o. unwrap_or o I) (sym (piece_with_code-code p) ∙ ap piece_with_code e ∙ piece_with_code-code q)

-- the rotation with an index
abbrev rotation_at : ℕ → Option Rotation
rotation_at index = find (λ rotation. rotation_index rotation == index) all_rotations

pub rotation_at-index : (r : Rotation) → rotation_at (rotation_index r) ≡ Some r
rotation_at-index r = search rules

pub rotation_index-injective : (r s : Rotation) → rotation_index r ≡ rotation_index s → r ≡ s
rotation_index-injective r s e = ap (λ o. unwrap_or o Spawn) (sym (rotation_at-index r) ∙ ap rotation_at e ∙ rotation_at-index s)

-- the rotation with a rotation's letter is that rotation
pub rotation_with_letter-letter : (r : Rotation) → rotation_with_letter (rotation_letter r) ≡ Some r
rotation_with_letter-letter r = search rules

pub same_placement : (s t : Placement) → s.piece ≡ t.piece → s.rotation ≡ t.rotation → s.x ≡ t.x → s.y ≡ t.y → s ≡ t
same_placement s t p r x y = λ i. record { piece = p i; rotation = r i; x = x i; y = y i }
