-- The seven kinds of piece in the order of their codes, and their letters.
use Rattle.std.specs.Prelude.{ℕ, ◌+◌, Bool, ◌||◌, ◌==◌, List, [], ◌∷◌, Option, find}
use Rattle.srs.specs.declared.piece.Piece.{Piece}
use Rattle.srs.specs.declared.piece.Piece.TheVariants.{I, L, O, Z, T, J, S}

-- all pieces, in the order of their codes
abbrev pub all_pieces : List Piece
all_pieces = I ∷ L ∷ O ∷ Z ∷ T ∷ J ∷ S ∷ []

-- the code, from 1 to 7
abbrev pub piece_code : Piece → ℕ
piece_code I = 1
piece_code L = 2
piece_code O = 3
piece_code Z = 4
piece_code T = 5
piece_code J = 6
piece_code S = 7

-- the piece with this code, if there is one
abbrev pub piece_with_code : ℕ → Option Piece
piece_with_code code = find (λ piece. piece_code piece == code) all_pieces

-- the capital letter, as its ASCII code
abbrev pub piece_letter : Piece → ℕ
piece_letter I = 73
piece_letter L = 76
piece_letter O = 79
piece_letter Z = 90
piece_letter T = 84
piece_letter J = 74
piece_letter S = 83

-- the byte is the piece's letter, capital or small: a small letter is 32 above its capital
abbrev pub is_letter_of : Piece → ℕ → Bool
is_letter_of piece byte = byte == piece_letter piece || byte == piece_letter piece + 32

-- the piece with this letter of either case, if there is one
abbrev pub piece_with_letter : ℕ → Option Piece
piece_with_letter byte = find (λ piece. is_letter_of piece byte) all_pieces
