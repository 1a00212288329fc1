-- A tiling seen in a mirror is a tiling of what the mirror shows.
use Rattle.std.proofs.Common.{◌≡◌, ℕ, true, cond, ◌==◌, List, [], ◌∷◌, map, ℤ, pos, ◌+ℤ◌, neg_ℤ, refl, sym, ap, subst, ◌∙◌, inl, inr, arith, rules}
use Rattle.std.specs.Prelude.{All}
use Rattle.std.specs.List.{list_all}
use Rattle.std.specs.Cmp.{both_ways}
use Rattle.std.proofs.lemmas.Bool.{cases_Bool, cases_lt, eqb-true, eq-eqb, false_from_ne_true, le-ltb, lt-ltb, true≢false}
use Rattle.std.proofs.lemmas.Int.{ints}
use Rattle.std.proofs.lemmas.List.Elements.{All-cons, All-head, All-tail}
use Rattle.lane_board.specs.Field.{Field, rows_below}
use Rattle.srs.specs.declared.piece.Piece.{Piece}
use Rattle.srs.specs.declared.rotation.Rotation.{Rotation}
use Rattle.srs.specs.Piece.{piece_code}
use Rattle.srs.specs.Cells.{Cell, shape}
use Rattle.srs.specs.SameCells.{is_among}
use Rattle.srs.proofs.CallerLemmas.{each_state, is_among-all, piece_code-injective}
use Rattle.prune.specs.Tiling.{Part, Supply, Tiling, IsGeneralized, covers, is_empty_below, parts_of, sent}
use Rattle.prune.specs.Mirror.{flip, mirror_cell, mirror_kind, mirror_rotation, mirrored, mirrored_supply}
use Rattle.prune.proofs.CellCounts.{Source, count_in, count_in-none, count_in-some, has_cell-map, source_of}
use Rattle.prune.proofs.PartLemmas.{covers-cons, part_once}
use Rattle.prune.proofs.PartsOfTilings.{parts_of-cons}

-- a mirror in a mirror shows what there is
pub kind_again : (piece : Piece) → mirror_kind (mirror_kind piece) ≡ piece
kind_again piece = search rules

pub cell_again : (cell : Cell) → mirror_cell (mirror_cell cell) ≡ cell
unfolding mirror_cell
cell_again cell = let column : pos 9 +ℤ neg_ℤ (pos 9 +ℤ neg_ℤ cell.0) ≡ cell.0 = omega (arith, ints) in λ i. (column i, cell.1)

flip_again : (cell : Cell) → flip (flip cell) ≡ cell
flip_again cell = let column : neg_ℤ (neg_ℤ cell.0) ≡ cell.0 = omega (arith, ints) in λ i. (column i, cell.1)

pub same_kind : (a b : Piece) → (piece_code (mirror_kind a) == piece_code (mirror_kind b)) ≡ (piece_code a == piece_code b)
same_kind a b = search (rules, both_ways, eq-eqb, kind_again, piece_code-injective, eqb-true)

-- the shapes
pub flips_in : (piece : Piece) (rotation : Rotation) → list_all (λ c. is_among (shape (mirror_kind piece) (mirror_rotation piece rotation)) (flip c)) (shape piece rotation) ≡ true
unfolding is_among
flips_in = each_state (λ p r. list_all (λ c. is_among (shape (mirror_kind p) (mirror_rotation p r)) (flip c)) (shape p r)) refl

flips_back : (piece : Piece) (rotation : Rotation) → list_all (λ c. is_among (shape piece rotation) (flip c)) (shape (mirror_kind piece) (mirror_rotation piece rotation)) ≡ true
unfolding is_among
flips_back = each_state (λ p r. list_all (λ c. is_among (shape p r) (flip c)) (shape (mirror_kind p) (mirror_rotation p r))) refl

-- a part in the mirror
module _ (part : Part) (is : IsGeneralized part) where
  abbrev there : List Cell
  there = shape (mirror_kind part.piece) (mirror_rotation part.piece is.rotation)

  abbrev move : ℤ
  move = pos 9 +ℤ neg_ℤ is.move

  shown : Part
  shown = record { piece = mirror_kind part.piece; cells = map (sent move is.row) there }

  back : (c : Cell) → is_among there c ≡ true → is_among (shape part.piece is.rotation) (flip c) ≡ true
  back c has = is_among-all (λ c. is_among (shape part.piece is.rotation) (flip c)) there c (flips_back part.piece is.rotation) has

  shown_generalized : IsGeneralized shown
  unfolding shown
  shown_generalized = record {
    rotation = mirror_rotation part.piece is.rotation;
    move = move;
    row = is.row;
    rising = λ c d has_c has_d lower. is.rising (flip c) (flip d) (back c has_c) (back d has_d) lower;
    cells = refl;
  }

  sent_flipped : (c : Cell) → sent move is.row (flip c) ≡ mirror_cell (sent is.move is.row c)
  unfolding sent mirror_cell
  sent_flipped c = let column : neg_ℤ c.0 +ℤ (pos 9 +ℤ neg_ℤ is.move) ≡ pos 9 +ℤ neg_ℤ (c.0 +ℤ is.move) = omega (arith, ints) in λ i. (column i, pos (is.row c.1))

  has_shown : (cell : Cell) → is_among part.cells cell ≡ true → is_among shown.cells (mirror_cell cell) ≡ true
  unfolding shown
  has_shown cell has =
      search (rules, (source_of (sent is.move is.row) (shape part.piece is.rotation) cell (subst (λ cells. is_among cells cell ≡ true) is.cells has)), (is_among-all (λ c. is_among there (flip c)) (shape part.piece is.rotation)), (flips_in part.piece is.rotation), sent_flipped, (has_cell-map (sent move is.row) there))

  has_real : (cell : Cell) → is_among shown.cells (mirror_cell cell) ≡ true → is_among part.cells cell ≡ true
  unfolding shown
  has_real cell has =
      let source : Source (sent move is.row) there (mirror_cell cell) = source_of (sent move is.row) there (mirror_cell cell) has in
      search (rules, (sent_flipped (flip source.from)), (flip_again source.from), (cell_again (sent is.move is.row (flip source.from))), (cell_again cell), (has_cell-map (sent is.move is.row) (shape part.piece is.rotation) (flip source.from) (back source.from source.listed)))

  -- it covers what the part covers
  shown_count : (cell : Cell) → count_in shown.cells (mirror_cell cell) ≡ count_in part.cells cell
  shown_count cell = elim (cases_Bool (is_among part.cells cell)) [
    | inl has ↦ omega (arith, count_in-some part.cells cell has, part_once part is cell, count_in-some shown.cells (mirror_cell cell) (has_shown cell has), part_once shown shown_generalized (mirror_cell cell))
    | inr none ↦ omega (arith, count_in-none part.cells cell none, count_in-none shown.cells (mirror_cell cell) (false_from_ne_true _ (λ has. true≢false (sym (has_real cell has) ∙ none))))
  ]

-- parts in the mirror
record Shown (parts : List Part) : Type 0 where
  shown_parts : List Part
  all : All IsGeneralized shown_parts
  covered : (cell : Cell) → covers shown_parts (mirror_cell cell) ≡ covers parts cell
  kinds : (piece : Piece) → parts_of shown_parts (mirror_kind piece) ≡ parts_of parts piece

shown_all : (parts : List Part) → All IsGeneralized parts → Shown parts
shown_all [] all = record { shown_parts = []; all = all; covered = λ cell. unfold covers in refl; kinds = λ piece. refl }
shown_all (part ∷ parts) all =
    let is = All-head IsGeneralized part parts all in
    let rest = shown_all parts (All-tail IsGeneralized part parts all) in
    record {
      shown_parts = shown part is ∷ rest.shown_parts;
      all = All-cons IsGeneralized (shown part is) rest.shown_parts (shown_generalized part is) rest.all;
      covered = λ cell. omega (arith, covers-cons (shown part is) rest.shown_parts (mirror_cell cell), covers-cons part parts cell, shown_count part is cell, rest.covered cell);
      kinds = search (rules, parts_of-cons, same);
    }
  where
    shown_piece : (part : Part) (is : IsGeneralized part) → (shown part is).piece ≡ mirror_kind part.piece
    shown_piece part is = unfold shown in refl

    same : (part : Part) (is : IsGeneralized part) (piece : Piece) → ◌≡◌ {A = ℕ} (cond (piece_code (shown part is).piece == piece_code (mirror_kind piece)) 1 0) (cond (piece_code part.piece == piece_code piece) 1 0)
    same part is piece = ap (λ b. cond b 1 0) (ap (λ p. piece_code p == piece_code (mirror_kind piece)) (shown_piece part is) ∙ same_kind part.piece piece)

-- the empty cells in the mirror
empty_shown : (F : Field) (rows : ℕ) (cell : Cell) → is_empty_below F rows (mirror_cell cell) ≡ is_empty_below (mirrored F) rows cell
unfolding is_empty_below mirror_cell mirrored rows_below
empty_shown F rows cell = search (rules, cases_lt, lt-ltb, le-ltb)

pub tiling_mirrored : (F : Field) (rows : ℕ) (supply : Supply) → Tiling F rows supply → Tiling (mirrored F) rows (mirrored_supply supply)
tiling_mirrored F rows supply t =
    let s = shown_all t.parts t.generalized in
    record {
      parts = s.shown_parts;
      generalized = s.all;
      covered = λ cell.
          ap (covers s.shown_parts) (sym (cell_again cell)) ∙ s.covered (mirror_cell cell) ∙ t.covered (mirror_cell cell)
          ∙ ap (λ b. cond b 1 0) (empty_shown F rows cell);
      supplied = λ piece. omega (arith, ap (parts_of s.shown_parts) (sym (kind_again piece)), s.kinds (mirror_kind piece), t.supplied (mirror_kind piece));
    }
