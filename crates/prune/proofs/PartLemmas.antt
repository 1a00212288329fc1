-- The cells of parts, and which cells they cover.
use Rattle.std.proofs.Common.{◌≡◌, ℕ, ◌+◌, ◌≤◌, true, false, cond, ◌==◌, List, ◌∷◌, length, ℤ, refl, sym, ap, ◌∙◌, rules}
use Rattle.std.specs.Prelude.{int_lt}
use Rattle.std.specs.List.{list_all, flat_map}
use Rattle.std.proofs.lemmas.Bool.{cases_Bool, eqb-true, cond-false, true≢false, ltb-false, true_from_ne_false}
use Rattle.std.proofs.lemmas.List.{length-map}
use Rattle.srs.specs.declared.piece.Piece.{Piece}
use Rattle.srs.specs.declared.rotation.Rotation.{Rotation}
use Rattle.srs.specs.Cells.{Cell, shape}
use Rattle.srs.specs.SameCells.{is_among}
use Rattle.srs.proofs.CallerLemmas.{is_among-all, list_all-from_is_among, each_state, shape_length}
use Rattle.lane_board.specs.Field.{Field}
use Rattle.prune.specs.Tiling.{Part, sent, IsGeneralized, is_empty_below, covers}
use Rattle.prune.proofs.CellCounts.{count_in, count_in-append, count_in-some, once_sent}

-- all cells of all parts
abbrev pub cells_in : List Part → List Cell
cells_in parts = flat_map (λ part. part.cells) parts

pub covers-count : (parts : List Part) (cell : Cell) → covers parts cell ≡ count_in (cells_in parts) cell
unfolding covers count_in
covers-count parts cell = refl

pub covers-cons : (part : Part) (parts : List Part) (cell : Cell) → covers (part ∷ parts) cell ≡ count_in part.cells cell + covers parts cell
covers-cons part parts cell = covers-count (part ∷ parts) cell ∙ count_in-append part.cells (cells_in parts) cell ∙ ap (λ n. count_in part.cells cell + n) (sym (covers-count parts cell))

-- each cell of the parts of a tiling is an empty one
pub cells_empty : (F : Field) (rows : ℕ) (parts : List Part) → ((cell : Cell) → covers parts cell ≡ cond (is_empty_below F rows cell) 1 0) → list_all (is_empty_below F rows) (cells_in parts) ≡ true
cells_empty F rows parts covered = list_all-from_is_among (is_empty_below F rows) (cells_in parts) (λ cell has. true_from_ne_false _ (search (rules, (covers-count parts), (count_in-some (cells_in parts)), cond-false)))

-- no cell stands twice in a shape, and each shape has four
shape_once : (piece : Piece) (rotation : Rotation) → list_all (λ c. count_in (shape piece rotation) c == 1) (shape piece rotation) ≡ true
unfolding count_in
shape_once = each_state (λ p r. list_all (λ c. count_in (shape p r) c == 1) (shape p r)) refl

pub part_length : (part : Part) → IsGeneralized part → length part.cells ≡ 4
part_length part is = ap length is.cells ∙ length-map (shape part.piece is.rotation) (sent is.move is.row) ∙ shape_length part.piece is.rotation

-- neither of two whole numbers is below the other: they are the same
neither : (a b : ℤ) → int_lt a b ≡ false → int_lt b a ≡ false → a ≡ b
neither a b upper lower = search (rules, ltb-false, true≢false)

-- cells of a shape that are sent to one place are the same
sent_apart : (part : Part) (is : IsGeneralized part) (c d : Cell) → is_among (shape part.piece is.rotation) c ≡ true → is_among (shape part.piece is.rotation) d ≡ true →
    sent is.move is.row c ≡ sent is.move is.row d → c ≡ d
unfolding sent
sent_apart part is c d has_c has_d same = search (rules, cases_Bool, neither)

-- no cell stands twice in a generalized piece
pub part_once : (part : Part) → IsGeneralized part → (cell : Cell) → count_in part.cells cell ≤ 1
part_once part is cell =
    search (rules, (once_sent (sent is.move is.row) (shape part.piece is.rotation)), (sent_apart part is), eqb-true, (is_among-all (λ c. count_in (shape part.piece is.rotation) c == 1) (shape part.piece is.rotation)), (shape_once part.piece is.rotation))
