-- The text of a placement and its reading agree.
use Rattle.std.proofs.Common.{◌≡◌, ℕ, ◌+◌, ◌&&◌, ◌==◌, true, eqb-true, List, [], ◌∷◌, Option, Some, None, refl, ap, sym, subst, ◌∙◌, ◌↔◌, arith, inl, inr}
use Rattle.std.specs.Prelude.{decimal}
use Rattle.std.proofs.lemmas.Bool.{and_parts, cases_Bool}
use Rattle.std.proofs.lemmas.Fmt.{decimal_digit}
use Rattle.std.proofs.lemmas.Option.{none-some, same_Some, option_and_then_some}
use Rattle.srs.specs.declared.piece.Piece.{Piece}
use Rattle.srs.specs.declared.piece.Piece.TheVariants.{I, L, O, Z, T, J, S}
use Rattle.srs.specs.declared.rotation.Rotation.{Rotation}
use Rattle.srs.specs.declared.placement.Placement.{Placement}
use Rattle.srs.specs.Piece.{piece_letter, all_pieces}
use Rattle.srs.specs.Rotation.{rotation_letter, all_rotations, rotation_with_letter}
use Rattle.srs.proofs.CallerLemmas.{find-Contains, rotation_with_letter-letter}
use Rattle.placement_form.specs.Form.{placement_form, IsPlacementText}
use Rattle.placement_form.specs.Reading.{capital_piece, digit_in, row_in, placement_in}
use Rattle.placement_form.proofs.Digits.{digit_read, digit_only, row_read, row_only}

-- letters
pub piece_read : (piece : Piece) → capital_piece (piece_letter piece) ≡ Some piece
piece_read I = refl
piece_read L = refl
piece_read O = refl
piece_read Z = refl
piece_read T = refl
piece_read J = refl
piece_read S = refl

pub piece_only : (byte : ℕ) (piece : Piece) → capital_piece byte ≡ Some piece → piece_letter piece ≡ byte
piece_only byte piece read = eqb-true (piece_letter piece) byte (find-Contains (λ p. piece_letter p == byte) all_pieces piece read).1

pub rotation_only : (byte : ℕ) (rotation : Rotation) → rotation_with_letter byte ≡ Some rotation → rotation_letter rotation ≡ byte
rotation_only byte rotation read = eqb-true (rotation_letter rotation) byte (find-Contains (λ r. rotation_letter r == byte) all_rotations rotation read).1

-- what is written is read
pub read-from_written : (text : List ℕ) (placement : Placement) → IsPlacementText text placement → placement_in text ≡ Some placement
unfolding placement_form placement_in
read-from_written text placement is =
    let column : decimal placement.x ≡ (48 + placement.x) ∷ [] = decimal_digit placement.x (omega (arith, is.pivot.in_columns)) in
    let parts : text ≡ piece_letter placement.piece ∷ rotation_letter placement.rotation ∷ 58 ∷ (48 + placement.x) ∷ 44 ∷ decimal placement.y = is.written ∙ rw column refl in
    rw (parts, piece_read placement.piece, rotation_with_letter-letter placement.rotation, digit_read placement.x is.pivot.in_columns, row_read placement.y is.pivot.in_rows) refl

-- what is read was written
parts_written : (a b c x d : ℕ) (row : List ℕ) (piece : Piece) (rotation : Rotation) (column y : ℕ) (placement : Placement)
    → capital_piece a ≡ Some piece → rotation_with_letter b ≡ Some rotation → (c == 58 && d == 44) ≡ true → digit_in x ≡ Some column → row_in row ≡ Some y
    → ◌≡◌ {A = Option Placement} (Some (record { piece = piece; rotation = rotation; x = column; y = y })) (Some placement)
    → IsPlacementText (a ∷ b ∷ c ∷ x ∷ d ∷ row) placement
unfolding placement_form
parts_written a b c x d row piece rotation column y placement piece_is rotation_is marks column_is row_is same =
    let signs = and_parts (c == 58) (d == 44) marks in
    let digit = digit_only x column column_is in
    let rows = row_only row y row_is in
    let written : decimal column ≡ x ∷ [] = decimal_digit column (omega (arith, digit.small)) ∙ ap (λ b. b ∷ []) digit.is in
    subst (IsPlacementText (a ∷ b ∷ c ∷ x ∷ d ∷ row)) (same_Some _ placement same) (record {
      pivot = record { in_columns = digit.small; in_rows = rows.within };
      written = rw (written) (λ i. sym (piece_only a piece piece_is) i ∷ sym (rotation_only b rotation rotation_is) i ∷ eqb-true c 58 signs.0 i ∷ x ∷ eqb-true d 44 signs.1 i ∷ rows.is i);
    })

pub written-from_read : (text : List ℕ) (placement : Placement) → placement_in text ≡ Some placement → IsPlacementText text placement
unfolding placement_in
written-from_read [] placement read = absurd (none-some placement read)
written-from_read (a ∷ []) placement read = absurd (none-some placement read)
written-from_read (a ∷ b ∷ []) placement read = absurd (none-some placement read)
written-from_read (a ∷ b ∷ c ∷ []) placement read = absurd (none-some placement read)
written-from_read (a ∷ b ∷ c ∷ x ∷ []) placement read = absurd (none-some placement read)
written-from_read (a ∷ b ∷ c ∷ x ∷ d ∷ row) placement read = elim (cases_Bool (c == 58 && d == 44)) [
  | inl marks ↦
      option_and_then_some _ (capital_piece a) placement (rw marks at read)
      (λ piece piece_is rest. option_and_then_some _ (rotation_with_letter b) placement rest
      (λ rotation rotation_is rest. option_and_then_some _ (digit_in x) placement rest
      (λ column column_is rest. option_and_then_some _ (row_in row) placement rest
      (λ y row_is same. parts_written a b c x d row piece rotation column y placement piece_is rotation_is marks column_is row_is same))))
  | inr others ↦ absurd (none-some placement (rw others at read))
]

pub read_as_written : (text : List ℕ) (placement : Placement) → (placement_in text ≡ Some placement) ↔ IsPlacementText text placement
read_as_written text placement = (written-from_read text placement, read-from_written text placement)

pub none_where_unwritten : (text : List ℕ) → (placement_in text ≡ None) ↔ ((placement : Placement) → IsPlacementText text placement → ⊥)
none_where_unwritten text = (λ none placement is. none-some placement (sym none ∙ read-from_written text placement is), λ unwritten. by (placement_in text) refl unwritten)
  where
    by : (read : Option Placement) → placement_in text ≡ read → ((placement : Placement) → IsPlacementText text placement → ⊥) → placement_in text ≡ None
    by None is unwritten = is
    by (Some placement) is unwritten = absurd (unwritten placement (written-from_read text placement is))

pub one_written : (text : List ℕ) (one other : Placement) → IsPlacementText text one → IsPlacementText text other → one ≡ other
one_written text one other first second = same_Some one other (sym (read-from_written text one first) ∙ read-from_written text other second)
