-- How the text of a placement is read. The law `texts_are_read_as_written` ties it to the form that is written.
use Rattle.std.specs.Prelude.{ℕ, ◌+◌, ◌-◌, ◌*◌, nat_lt, nat_le, List, [], ◌∷◌, ◌&&◌, ◌==◌, if◌then◌else◌, Option, Some, None, find, option_and_then}
use Rattle.srs.specs.declared.piece.Piece.{Piece}
use Rattle.srs.specs.declared.placement.Placement.{Placement}
use Rattle.srs.specs.Piece.{all_pieces, piece_letter}
use Rattle.srs.specs.Rotation.{rotation_with_letter}

-- the piece with this capital letter, if there is one
abbrev pub capital_piece : ℕ → Option Piece
capital_piece letter = find (λ piece. piece_letter piece == letter) all_pieces

-- a digit's value
abbrev pub digit_in : ℕ → Option ℕ
digit_in letter = if nat_le 48 letter && nat_le letter 57 then Some (letter - 48) else None

-- two digits, of which the first isn't 0, make a row up to 22
abbrev pub two_digit_row : ℕ → ℕ → Option ℕ
two_digit_row tens ones = if nat_lt 0 tens && nat_le (10 * tens + ones) 22 then Some (10 * tens + ones) else None

-- a row from 0 to 22: one digit, or two of which the first isn't 0
unfoldable pub row_in : List ℕ → Option ℕ
row_in (digit ∷ []) = digit_in digit
row_in (tens ∷ ones ∷ []) =
    option_and_then (λ t. option_and_then (λ o. two_digit_row t o) (digit_in ones)) (digit_in tens)
row_in other = None

-- a placement: the letters of piece and rotation, `:`, a column of one digit, `,` and a row
unfoldable pub placement_in : List ℕ → Option Placement
placement_in (piece ∷ rotation ∷ colon ∷ column ∷ comma ∷ row) =
    if colon == 58 && comma == 44
    then option_and_then (λ p. option_and_then (λ r. option_and_then (λ x. option_and_then (λ y.
    Some (record { piece = p; rotation = r; x = x; y = y }))
    (row_in row)) (digit_in column)) (rotation_with_letter rotation)) (capital_piece piece)
    else None
placement_in other = None
