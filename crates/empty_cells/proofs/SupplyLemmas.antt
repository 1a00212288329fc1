-- How many pieces a supply has, in all and after one is taken.
use Rattle.std.proofs.Common.{◌≡◌, ℕ, ◌+◌, ◌-◌, ◌<◌, get_or, ap, ◌∙◌, rules}
use Rattle.srs.specs.declared.piece.Piece.{Piece}
use Rattle.srs.specs.declared.piece.Piece.TheVariants.{I, L, O, Z, T, J, S}
use Rattle.srs.specs.Piece.{all_pieces, piece_code}
use Rattle.prune.specs.Tiling.{Supply}
use Rattle.prune.specs.OnePart.{less_one}

pub piece_in_all : (piece : Piece) → get_or all_pieces (piece_code piece - 1) I ≡ piece
piece_in_all piece = search rules

-- how many pieces there are
abbrev pub total : Supply → ℕ
total supply = supply I + supply L + supply O + supply Z + supply T + supply J + supply S

pub total-less_one : (supply : Supply) (piece : Piece) → 0 < supply piece → total (less_one supply piece) + 1 ≡ total supply
unfolding less_one
total-less_one supply piece some = search rules

-- with one piece of this kind fewer
pub fewer : (supply left : Supply) (piece : Piece) → left ≡ less_one supply piece → 0 < supply piece → total left + 1 ≡ total supply
fewer supply left piece is some = ap (λ (s : Supply). total s + 1) is ∙ total-less_one supply piece some
