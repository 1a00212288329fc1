-- Each part has an even number of cells in even columns, but for L and J, which have an odd one, and T.
use Rattle.std.proofs.Common.{◌≡◌, ℕ, ◌+◌, ◌%◌, ◌<◌, Bool, true, false, cond, ◌||◌, ◌==◌, List, [], ◌∷◌, ℤ, nat_abs, ◌+ℤ◌, refl, sym, ap, ◌∙◌, arith, rules}
use Rattle.std.proofs.Math.Path.{fun_ext}
use Rattle.std.specs.Prelude.{All, count_by}
use Rattle.std.specs.List.{list_all}
use Rattle.std.proofs.lemmas.Bool.{agree_below_at, and_parts, cases_eq, eqb-true, or_cases, true≢false}
use Rattle.std.proofs.lemmas.List.Elements.{All-head, All-tail}
use Rattle.std.proofs.lemmas.List.Sums.{sum_by-cons}
use Rattle.srs.specs.declared.piece.Piece.{Piece}
use Rattle.srs.specs.declared.piece.Piece.TheVariants.{I, L, O, Z, T, J, S}
use Rattle.srs.specs.declared.rotation.Rotation.{Rotation}
use Rattle.srs.specs.Piece.{piece_code}
use Rattle.srs.specs.Cells.{Cell, shape}
use Rattle.srs.proofs.CallerLemmas.{each_state}
use Rattle.lane_board.specs.Field.{Field}
use Rattle.prune.specs.Tiling.{Part, sent, IsGeneralized, is_empty_below, parts_of}
use Rattle.prune.specs.Counts.{even_column_empties}
use Rattle.prune.specs.Laws.{EvenColumns}
use Rattle.prune.proofs.CellCounts.{count-append, count-map}
use Rattle.prune.proofs.EmptyCells.{empty_cell}
use Rattle.prune.proofs.PartLemmas.{cells_in, covers-count}
use Rattle.prune.proofs.ColumnCounts.{column_of, one_column, all_empties}
use Rattle.prune.proofs.PartsOfTilings.{parts_of-cons}
use Rattle.prune.proofs.RefusalLemmas.{all_cells, counted, empty, kinds_of_parts}

-- the number of columns from column 0 to a sum is even where those to both or to none of its terms are
abs_sum : (a b c : ℤ) → a +ℤ b ≡ c → nat_abs c % 2 ≡ (nat_abs a + nat_abs b) % 2
abs_sum a b c is = search rules

-- a cell is in an even column once it is moved so far
is_even_from : ℕ → Cell → Bool
is_even_from move cell = (nat_abs cell.0 + move) % 2 == 0

-- one for an L and a J
is_odd_kind : Piece → ℕ
is_odd_kind piece = cond (piece_code piece == piece_code L) 1 0 + cond (piece_code piece == piece_code J) 1 0

shape_parity : ℕ → Piece → Rotation → Bool
shape_parity move piece rotation = (count_by (is_even_from move) (shape piece rotation) + is_odd_kind piece) % 2 == 0 || piece_code piece == piece_code T

shape_parity-holds : (move : ℕ) → move < 2 → (piece : Piece) (rotation : Rotation) → shape_parity move piece rotation ≡ true
unfolding shape_parity is_even_from is_odd_kind
shape_parity-holds move small piece rotation = search (rules, cases_eq, each_state)

-- so it is with a part, wherever it is moved
part_parity : (part : Part) → IsGeneralized part → (piece_code part.piece == piece_code T) ≡ false → (count_by (is_even_from 0) part.cells + is_odd_kind part.piece) % 2 ≡ 0
unfolding is_even_from sent shape_parity
part_parity part is other =
    let move = nat_abs is.move % 2 in
    let moved : (c : Cell) → is_even_from 0 (sent is.move is.row c) ≡ is_even_from move c = (λ c. ap (λ n. n == 0) {x = (nat_abs (c.0 +ℤ is.move) + 0) % 2} {y = (nat_abs c.0 + move) % 2} (omega (arith, abs_sum c.0 is.move (c.0 +ℤ is.move) refl))) in
    let count : count_by (is_even_from 0) part.cells ≡ count_by (is_even_from move) (shape part.piece is.rotation) =
    ap (count_by (is_even_from 0)) is.cells ∙ count-map (is_even_from 0) (sent is.move is.row) (shape part.piece is.rotation) ∙ ap (λ (p : Cell → Bool). count_by p (shape part.piece is.rotation)) (fun_ext moved) in
    search (rules, or_cases, (shape_parity-holds move), eqb-true, true≢false)

-- and with all parts together
parts_parity : (parts : List Part) → All IsGeneralized parts → parts_of parts T ≡ 0 → (count_by (is_even_from 0) (cells_in parts) + parts_of parts L + parts_of parts J) % 2 ≡ 0
unfolding is_odd_kind
parts_parity [] all none = refl
parts_parity (part ∷ parts) all none =
    search (rules, (parts_of-cons part parts T), (parts_of-cons part parts L), (parts_of-cons part parts J), (count-append (is_even_from 0) part.cells (cells_in parts)), (part_parity part (All-head IsGeneralized part parts all)), (parts_parity parts (All-tail IsGeneralized part parts all)))

-- the cells in even columns are those of columns 0, 2, 4, 6 and 8
even_split : (F : Field) (rows : ℕ) (cells : List Cell) → list_all (is_empty_below F rows) cells ≡ true →
    count_by (is_even_from 0) cells ≡ count_by (λ c. column_of c == 0) cells + count_by (λ c. column_of c == 2) cells + count_by (λ c. column_of c == 4) cells + count_by (λ c. column_of c == 6) cells + count_by (λ c. column_of c == 8) cells
unfolding is_even_from
even_split F rows [] all = refl
even_split F rows (c ∷ cs) all =
    let parts = and_parts (is_empty_below F rows c) (list_all (is_empty_below F rows) cs) all in
    let e = empty_cell F rows c parts.0 in
    let column : column_of c ≡ e.x = ap (λ (c : Cell). nat_abs c.0) e.is in
    omega (
      arith,
      sum_by-cons (λ c. cond (is_even_from 0 c) 1 0) c cs,
      sum_by-cons (λ c. cond (column_of c == 0) 1 0) c cs,
      sum_by-cons (λ c. cond (column_of c == 2) 1 0) c cs,
      sum_by-cons (λ c. cond (column_of c == 4) 1 0) c cs,
      sum_by-cons (λ c. cond (column_of c == 6) 1 0) c cs,
      sum_by-cons (λ c. cond (column_of c == 8) 1 0) c cs,
      here (column_of c) (omega (arith, e.in_columns)),
      even_split F rows cs parts.1,
    )
  where
    here : (n : ℕ) → n < 10 → ◌≡◌ {A = ℕ} (cond ((n + 0) % 2 == 0) 1 0) (cond (n == 0) 1 0 + cond (n == 2) 1 0 + cond (n == 4) 1 0 + cond (n == 6) 1 0 + cond (n == 8) 1 0)
    here n low = eqb-true _ _ (agree_below_at (λ n. cond ((n + 0) % 2 == 0) 1 0 == cond (n == 0) 1 0 + cond (n == 2) 1 0 + cond (n == 4) 1 0 + cond (n == 6) 1 0 + cond (n == 8) 1 0) (λ n. true) 10 n refl low)

pub even_columns : EvenColumns
unfolding even_column_empties
even_columns F rows supply no_t exact t =
    search (rules, (all_cells F rows supply t), (counted F rows supply t 0 10), (all_empties F rows), (kinds_of_parts t.parts), (t.supplied I), (t.supplied L), (t.supplied O), (t.supplied Z), (t.supplied T), (t.supplied J), (t.supplied S), (parts_parity t.parts t.generalized), (even_split F rows (cells_in t.parts) (empty F rows supply t)), (one_column F rows (cells_in t.parts) (empty F rows supply t) (λ cell. sym (covers-count t.parts cell) ∙ t.covered cell)))
