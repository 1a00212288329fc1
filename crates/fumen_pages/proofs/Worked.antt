-- The definitions at worked cases, by computing them.
use Rattle.std.proofs.Common.{◌≡◌, ℕ, ◌+◌, ◌*◌, List, [], ◌∷◌, ◌++◌, true, false, Some, None, Ok, Err, refl}
use Rattle.std.specs.Prelude.{codes, replicate}
use Rattle.fumen_digits.specs.declared.dialect.Dialect.TheVariants.{V110, V115}
use Rattle.fumen_digits.specs.Digit.{digit, digit_value}
use Rattle.fumen_digits.specs.Number.{digits}
use Rattle.fumen_digits.specs.declared.fault.FumenFault.TheVariants.{RunPastEnd, BadCell, BadAction, PieceOutside}
use Rattle.fumen_digits.specs.Reading.{number_from, value_at}
use Rattle.srs.specs.declared.piece.Piece.TheVariants.{O, T}
use Rattle.srs.specs.declared.rotation.Rotation.TheVariants.{Spawn, Left}
use Rattle.srs.specs.Cells.{moved}
use Rattle.fumen_pages.specs.declared.page.Page.{Page}
use Rattle.fumen_pages.specs.declared.action.ActionFault.TheVariants.{TooLarge, Outside}
use Rattle.fumen_pages.specs.Action.{moved_back}
use Rattle.fumen_pages.specs.Next.{rows_in, rows_of, cells_of_rows, marked, operation_filled, without_full, next}
use Rattle.fumen_pages.specs.Record.{unchanged}
use Rattle.fumen_pages.specs.Written.{extended, longest, written_record, action_number_of}
use Rattle.fumen_pages.specs.Reading.{run_at, runs_at, record_at, action_in, action_at, page_at, part_at}

-- ---- what a page leaves

-- a page of row 0, and the garbage row, with these flags
page : List ℕ → List ℕ → Page
page row garbage =
    record {
      cells = replicate 220 0 ++ row ++ garbage;
      operation = Some (record { piece = T; rotation = Spawn; x = 4; y = 0 });
      rise = true;
      mirror = true;
      colour = true;
      lock = true;
      comment = None;
    }

holed : List ℕ
holed = 8 ∷ 7 ∷ 6 ∷ 0 ∷ 0 ∷ 0 ∷ 3 ∷ 2 ∷ 1 ∷ 1 ∷ []

low : List ℕ
low = 8 ∷ 8 ∷ 8 ∷ 8 ∷ 8 ∷ 8 ∷ 8 ∷ 8 ∷ 0 ∷ 8 ∷ []

-- the T fills row 0, which goes; its top falls to row 0, and the rise lifts it to row 1; both rows are mirrored
locked : (next V115 (page holed low)) ≡ replicate 210 0 ++ (replicate 5 0 ++ 5 ∷ replicate 4 0) ++ (8 ∷ 0 ∷ replicate 8 8) ++ replicate 10 0
unfolding next operation_filled marked rows_of rows_in cells_of_rows without_full page holed low moved moved_back
locked = refl

-- without a lock the cells stay
not_locked : next V110 (record (page holed low) { lock = false }) ≡ (page holed low).cells
unfolding next page
not_locked = refl

-- ---- records

unchanged_115 : unchanged V115 ≡ codes "vh"
unfolding digits digit
unchanged_115 = refl

unchanged_110 : unchanged V110 ≡ codes "7e"
unfolding digits digit
unchanged_110 = refl

empty : List ℕ
empty = replicate 240 0

-- a run of 230 empty cells and one of ten that become grey
grey : record_at V115 (codes "lhJ8AgH") 0 empty ≡ Ok (record { cells = replicate 230 0 ++ replicate 10 8; place = 4; unchanged = false })
unfolding record_at runs_at run_at number_from value_at digit_value empty digits digit
grey = refl

-- 210 cells, and 11 where ten are left
long_run : record_at V110 (codes "Axeqb") 1 empty ≡ Err (RunPastEnd 3)
unfolding record_at runs_at run_at number_from value_at digit_value empty digits digit
long_run = refl

-- 210 cells, and ten of the colour 9
bad_cell : record_at V110 (codes "Axel6") 1 empty ≡ Err (BadCell 3)
unfolding record_at runs_at run_at number_from value_at digit_value empty digits digit
bad_cell = refl

-- ---- actions

-- an O turned left is written one column to the left and one row up
turned : action_in V115 37563 ≡ Ok (record { operation = Some (record { piece = O; rotation = Left; x = 4; y = 0 }); rise = false; mirror = false; colour = true; lock = true; comment = false })
unfolding action_in moved moved_back
turned = refl

too_large : action_in V110 225280 ≡ Err TooLarge
unfolding action_in
too_large = refl

-- an I across the left side, with all flags
outside : action_in V115 (1 + 8 * 2 + 32 * 210 + 32 * 240 * 31) ≡ Err Outside
unfolding action_in moved moved_back
outside = refl

-- `VeI`: a T in row 0 of the 21 rows
page_110 : page_at V110 empty 1 (codes "7eAVeI") 3 ≡ Ok (record { cells = empty; operation = Some (record { piece = T; rotation = Spawn; x = 4; y = 0 }); rise = false; mirror = false; colour = true; lock = true; comment = None }, 6)
unfolding page_at action_at action_in part_at number_from value_at digit_value moved moved_back
page_110 = refl

bad_page : page_at V110 empty 7 (codes "7eA//2") 3 ≡ Err (PieceOutside 7)
unfolding page_at action_at action_in part_at number_from value_at digit_value moved moved_back
bad_page = refl

bad_number : page_at V110 empty 7 (codes "7eAAA3") 3 ≡ Err (BadAction 3)
unfolding page_at action_at action_in part_at number_from value_at digit_value
bad_number = refl

-- ---- what is written

written_grey : written_record V115 empty (replicate 230 0 ++ replicate 10 8) ≡ codes "lhJ8"
unfolding written_record longest extended empty digits digit
written_grey = refl

-- the T of the page above, with rise, mirror and colour
written_number : action_number_of V115 (page holed low) ≡ 60949
unfolding action_number_of page moved
written_number = refl
