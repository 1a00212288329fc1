-- A field as grey cells, cell by cell and row by row.
use Rattle.std.proofs.Common.{◌≡◌, ℕ, ◌+◌, ◌-◌, ◌*◌, ◌<◌, List, ◌++◌, length, set, take, drop, map, refl, append_assoc, rules}
use Rattle.std.specs.Prelude.{if◌then◌else◌}
use Rattle.std.proofs.lemmas.List.{drop_at, length-take-le, length-set, length-append, length-drop, drop-drop, map-append, take_more_set}
use borrow.Rule.Slice.PartMut.{put_mid}
use Rattle.lane_board.specs.Field.{Field}
use Rattle.lane_board.specs.FullRows.{columns}
use Rattle.fumen_pages.specs.Next.{empty_row}
use Rattle.report.specs.FumenLine.{grey_row, grey_rows}
use Rattle.report.proofs.Columns.{columns_more}

abbrev grey : Field → ℕ → ℕ → ℕ
grey F y x = if F x y then 8 else 0

-- one more cell of a row is written
pub grey_next : (F : Field) (y x value : ℕ) (row : List ℕ) → x < 10 → length row ≡ 10 → value ≡ grey F y x → take x row ≡ map (grey F y) (take x columns)
    → (length (set row x value) ≡ 10) × (take (x + 1) (set row x value) ≡ map (grey F y) (take (x + 1) columns))
grey_next F y x value row column size is so_far =
    search (rules, length-set, take_more_set, columns, columns_more, map-append)

-- nothing but the garbage row is looked at
pub grey_starts : (F : Field) → empty_row ≡ grey_rows F 0 ++ empty_row
unfolding grey_rows
grey_starts F = refl

-- one more row is written above those that are
pub grey_more : (F : Field) (cells row : List ℕ) (start k y : ℕ) → y < 23 → start ≡ 10 * (22 - y) → k ≡ 10 → length cells ≡ 240 → row ≡ grey_row F y
    → drop (230 - 10 * y) cells ≡ grey_rows F y ++ empty_row
    → (length (put_mid start k cells row) ≡ 240) × (drop (230 - 10 * (y + 1)) (put_mid start k cells row) ≡ grey_rows F (y + 1) ++ empty_row)
unfolding grey_rows
grey_more F cells row start k y within at ten size is below =
    search (rules, length-take-le, length-drop, length-append, drop_at, drop-drop, append_assoc)
