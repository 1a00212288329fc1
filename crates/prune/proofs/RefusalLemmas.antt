-- Where one of the counts refuses there is no tiling: each part has four cells, in neighbouring columns.
use Rattle.std.proofs.Common.{◌≡◌, ◌⊎◌, ℕ, suc, ◌+◌, ◌-◌, ◌*◌, ◌≤◌, Bool, true, List, [], ◌∷◌, length, refl, sym, ◌∙◌, inl, inr, arith, rules}
use Rattle.std.specs.Prelude.{All, sum_by, count_by}
use Rattle.std.specs.List.{list_all, range_with_len}
use Rattle.std.proofs.lemmas.Bool.{cases_Bool, and_parts, and_from, false_from_ne_true, true≢false, lt-ltb, le-leb}
use Rattle.std.proofs.lemmas.List.Elements.{All-head, All-tail}
use Rattle.std.proofs.lemmas.List.Folds.{list_all-append}
use Rattle.srs.specs.declared.piece.Piece.TheVariants.{I, L, O, Z, T, J, S}
use Rattle.srs.specs.Piece.{all_pieces}
use Rattle.srs.specs.Cells.{Cell}
use Rattle.srs.specs.SameCells.{is_among}
use Rattle.srs.proofs.CallerLemmas.{has_cell-head, list_all-from_is_among}
use Rattle.lane_board.specs.Field.{Field}
use Rattle.prune.specs.Tiling.{Part, IsGeneralized, is_empty_below, parts_of, Tiling, Supply}
use Rattle.prune.specs.Counts.{column_empties, IsRun, run_empties, IsRefusedByCounts, uneven_cells, too_few_pieces, uneven_run}
use Rattle.prune.proofs.CellCounts.{count-none, count-append, count-yes}
use Rattle.prune.proofs.PartLemmas.{cells_in, covers-count, cells_empty, part_length}
use Rattle.prune.proofs.ColumnCounts.{in_columns, columns_count, all_empties, column_empties-some}
use Rattle.prune.proofs.PartsOfTilings.{parts_of-cons}
use Rattle.prune.proofs.WallLemmas.{at, together}
use Rattle.prune.specs.Walls.{IsWall, HasUnevenPart}

-- the columns of a run stand between two walls
left_wall : (F : Field) (rows first last : ℕ) → IsRun F rows first last → IsWall F rows first
left_wall F rows first last run = search (rules, (run.left_end (first - 1)), (column_empties-some F rows (first - 1)))

right_wall : (F : Field) (rows first last : ℕ) → IsRun F rows first last → IsWall F rows (last + 1)
right_wall F rows first last run = search (rules, run.right_end, (column_empties-some F rows (last + 1)))

-- where a test passes at all cells of a list or at none, it counts all or none
count-all : (p ok : Cell → Bool) (cells : List Cell) → list_all ok cells ≡ true → ((c : Cell) → ok c ≡ true → p c ≡ true) → count_by p cells ≡ length cells
count-all p ok [] all each = refl
count-all p ok (c ∷ cs) all each = search (rules, and_parts, count-yes, (count-all p ok cs))

alike : (p : Cell → Bool) (cells : List Cell) → ((c d : Cell) → is_among cells c ≡ true → is_among cells d ≡ true → p c ≡ true → p d ≡ true) → (count_by p cells ≡ 0) ⊎ (count_by p cells ≡ length cells)
alike p [] same = inl refl
alike p (c ∷ cs) same =
    search (rules, (cases_Bool (p c)), (count-all p (is_among (c ∷ cs)) (c ∷ cs)), (has_cell-head c cs), (count-none p (is_among (c ∷ cs)) (c ∷ cs)), false_from_ne_true, true≢false, (list_all-from_is_among (is_among (c ∷ cs)) (c ∷ cs) (λ d has. has)))

-- the test counts four cells of so many parts
pub record FourOfEach (p : Cell → Bool) (parts : List Part) : Type 0 where
  pub number : ℕ
  pub within : number ≤ length parts
  pub counted : count_by p (cells_in parts) ≡ 4 * number

four_of_each : (F : Field) (rows : ℕ) (p : Cell → Bool) (parts : List Part) → All IsGeneralized parts → list_all (is_empty_below F rows) (cells_in parts) ≡ true →
    ((part : Part) → IsGeneralized part → list_all (is_empty_below F rows) part.cells ≡ true → (c d : Cell) → is_among part.cells c ≡ true → is_among part.cells d ≡ true → p c ≡ true → p d ≡ true) → FourOfEach p parts
four_of_each F rows p [] all empty same = record { number = 0; within = omega arith; counted = refl }
four_of_each F rows p (part ∷ parts) all empty same =
    let both = and_parts (list_all (is_empty_below F rows) part.cells) (list_all (is_empty_below F rows) (cells_in parts)) (sym (list_all-append (is_empty_below F rows) part.cells (cells_in parts)) ∙ empty) in
    let is = All-head IsGeneralized part parts all in
    let rest = four_of_each F rows p parts (All-tail IsGeneralized part parts all) both.1 same in
    elim (alike p part.cells (same part is both.0)) [
      | inl none ↦ record { number = rest.number; within = omega (arith, rest.within); counted = omega (arith, count-append p part.cells (cells_in parts), none, rest.counted) }
      | inr four ↦ record { number = suc rest.number; within = omega (arith, rest.within); counted = omega (arith, count-append p part.cells (cells_in parts), four, part_length part is, rest.counted) }
    ]

-- each part is of one kind
pub kinds_of_parts : (parts : List Part) → sum_by (parts_of parts) all_pieces ≡ length parts
kinds_of_parts [] = refl
kinds_of_parts (part ∷ parts) =
    search (rules, (kinds_of_parts parts), (parts_of-cons part parts I), (parts_of-cons part parts L), (parts_of-cons part parts O), (parts_of-cons part parts Z), (parts_of-cons part parts T), (parts_of-cons part parts J), (parts_of-cons part parts S))

module _ (F : Field) (rows : ℕ) (supply : Supply) (t : Tiling F rows supply) where
  abbrev cells : List Cell
  cells = cells_in t.parts

  pub empty : list_all (is_empty_below F rows) cells ≡ true
  empty = cells_empty F rows t.parts t.covered

  pub counted : (first n : ℕ) → first + n ≤ 10 → count_by (in_columns first n) cells ≡ sum_by (column_empties F rows) (range_with_len first n)
  counted = columns_count F rows cells empty (λ cell. sym (covers-count t.parts cell) ∙ t.covered cell)

  pub all_cells : FourOfEach (in_columns 0 10) t.parts
  all_cells = four_of_each F rows (in_columns 0 10) t.parts t.generalized empty (λ part is free c d has_c has_d _.
      let e = at F rows part is free d has_d in
      search (rules, and_from, (le-leb 0), lt-ltb))

  pieces_enough : length t.parts ≤ sum_by supply all_pieces
  pieces_enough = omega (arith, kinds_of_parts t.parts, t.supplied I, t.supplied L, t.supplied O, t.supplied Z, t.supplied T, t.supplied J, t.supplied S)

  pub no_uneven_part : HasUnevenPart F rows → ⊥
  unfolding run_empties
  no_uneven_part p =
      search (rules, (four_of_each F rows (in_columns p.first (p.last + 1 - p.first)) t.parts t.generalized empty (λ part is free. together F rows part is free p.first p.last p.order p.left p.right)), p.uneven, (counted p.first (p.last + 1 - p.first)))

  pub none_refused : IsRefusedByCounts F rows supply → ⊥
  none_refused (uneven_cells uneven) = uneven (omega (arith, all_cells.counted, counted 0 10 (omega arith), all_empties F rows))
  none_refused (too_few_pieces few) = omega (arith, few, all_cells.counted, all_cells.within, counted 0 10 (omega arith), all_empties F rows, pieces_enough)
  none_refused (uneven_run r) = search (rules, no_uneven_part, (left_wall F rows r.first r.last r.run), (right_wall F rows r.first r.last r.run))
