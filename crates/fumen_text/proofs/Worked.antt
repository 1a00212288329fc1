-- The definitions at worked cases, by computing them.
use Rattle.std.proofs.Common.{◌≡◌, ℕ, List, [], ◌∷◌, ◌++◌, true, false, Option, Some, None, Ok, Err, refl}
use Rattle.std.specs.Prelude.{codes, replicate}
use Rattle.fumen_digits.specs.declared.dialect.Dialect.TheVariants.{V110, V115}
use Rattle.fumen_digits.specs.Digit.{digit, digit_value}
use Rattle.fumen_digits.specs.Framing.{digits_in, digits_behind}
use Rattle.fumen_digits.specs.Number.{digits}
use Rattle.fumen_digits.specs.declared.fault.FumenFault.TheVariants.{NoFumen, Truncated, RunPastEnd, PieceOutside, TooManyPages}
use Rattle.fumen_digits.specs.Reading.{number_from, value_at}
use Rattle.srs.specs.declared.piece.Piece.TheVariants.{T}
use Rattle.srs.specs.declared.rotation.Rotation.TheVariants.{Spawn}
use Rattle.srs.specs.declared.placement.Placement.{Placement}
use Rattle.srs.specs.Cells.{moved}
use Rattle.fumen_pages.specs.declared.page.Page.{Page}
use Rattle.fumen_pages.specs.Action.{moved_back}
use Rattle.fumen_pages.specs.Next.{rows_in, rows_of, cells_of_rows, marked, operation_filled, without_full, next}
use Rattle.fumen_pages.specs.Reading.{run_at, runs_at, record_at, action_in, action_at, page_at, part_at}
use Rattle.fumen_pages.specs.Written.{action_number_of, written_record, longest, extended}
use Rattle.fumen_pages.specs.declared.encode_fault.EncodeFault.TheVariants.{RowTooHigh}
use Rattle.fumen_text.specs.Texts.{empty_page}
use Rattle.fumen_text.specs.Written.{cells_digits, list_encode_fault, page_encode_fault, pages_digits, pages_encode_fault, promised_behind, unchanged_pages}
use Rattle.fumen_text.specs.Reading.{page_cells_at, pages_at, next_page_at, text_pages}

-- ---- faults

no_fumen : text_pages (codes "hello") ≡ Err NoFumen
unfolding digits_in
no_fumen = refl

truncated : text_pages (codes "v115@vhAAg") ≡ Err (Truncated 3)
unfolding digits_in digits_behind pages_at next_page_at page_cells_at record_at runs_at run_at page_at action_at number_from value_at digit_value digits digit
truncated = refl

past_the_end : text_pages (codes "v115@bhbhAgH") ≡ Err (RunPastEnd 2)
unfolding digits_in digits_behind pages_at next_page_at page_cells_at record_at runs_at run_at page_at action_at number_from value_at digit_value digits digit
past_the_end = refl

-- the page that the digit behind `vh` promises is missing
promised_missing : text_pages (codes "v115@vhBAgH") ≡ Err (Truncated 6)
unfolding digits_in digits_behind pages_at next_page_at page_cells_at record_at runs_at run_at page_at part_at action_at action_in number_from value_at digit_value digits digit next moved moved_back
promised_missing = refl

outside : text_pages (codes "v110@7eAAAA7eA//2") ≡ Err (PieceOutside 2)
unfolding digits_in digits_behind pages_at next_page_at page_cells_at record_at runs_at run_at page_at part_at action_at action_in number_from value_at digit_value digits digit next moved moved_back operation_filled marked rows_of rows_in cells_of_rows without_full
outside = refl

-- with room for one page
one_too_many : pages_at V115 (codes "vhBAgHAAA") 1 1 0 empty_page 0 ≡ Err TooManyPages
unfolding pages_at next_page_at page_cells_at record_at runs_at run_at page_at part_at action_at action_in number_from value_at digit_value digits digit next moved moved_back operation_filled marked rows_of rows_in cells_of_rows without_full
one_too_many = refl

-- ---- pages

no_pages : text_pages (codes "v115@") ≡ Ok (V115, [])
unfolding digits_in digits_behind pages_at
no_pages = refl

page : List ℕ → Option Placement → Page
page cells operation =
    record { cells = cells; operation = operation; rise = false; mirror = false; colour = false; lock = true; comment = None }

-- a T on the empty field, and the page behind it, which is promised
two_pages : text_pages (codes "d115@vhBV?wBAAA") ≡ Ok (V115, page (replicate 240 0) (Some (record { piece = T; rotation = Spawn; x = 4; y = 0 })) ∷ page (replicate 214 0 ++ 5 ∷ replicate 8 0 ++ 5 ∷ 5 ∷ 5 ∷ replicate 14 0) None ∷ [])
unfolding digits_in digits_behind pages_at next_page_at page_cells_at record_at runs_at run_at page_at part_at action_at action_in number_from value_at digit_value digits digit next moved moved_back operation_filled marked rows_of rows_in cells_of_rows without_full page
two_pages = refl

-- ---- what is written

-- the second page is promised by the first one
written_again : pages_digits V115 empty_page 0 (page (replicate 240 0) (Some (record { piece = T; rotation = Spawn; x = 4; y = 0 })) ∷ page (replicate 214 0 ++ 5 ∷ replicate 8 0 ++ 5 ∷ 5 ∷ 5 ∷ replicate 14 0) None ∷ []) ≡ codes "vhBVwBAAA"
unfolding pages_digits cells_digits promised_behind unchanged_pages action_number_of written_record longest extended digits digit next moved operation_filled marked rows_of rows_in cells_of_rows without_full page
written_again = refl

-- one grey cell at the left of row 0, and the cells that are left
one_cell : pages_digits V115 empty_page 0 (page (replicate 220 0 ++ 8 ∷ replicate 19 0) None ∷ page (replicate 220 0 ++ 8 ∷ replicate 19 0) None ∷ []) ≡ codes "bhA8SeAAAvhAAAA"
unfolding pages_digits cells_digits promised_behind unchanged_pages action_number_of written_record longest extended digits digit next moved operation_filled marked rows_of rows_in cells_of_rows without_full page
one_cell = refl

first_fault : list_encode_fault V110 (page (replicate 240 0) None ∷ page (8 ∷ replicate 239 0) None ∷ []) ≡ Some (RowTooHigh 2)
unfolding pages_encode_fault page_encode_fault page moved
first_fault = refl
