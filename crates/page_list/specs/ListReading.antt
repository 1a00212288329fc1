-- Lists of pages, a line for each.
use Rattle.std.specs.Prelude.{ℕ, ◌+◌, ◌-◌, ◌<◌, nat_lt, IsOk, List, [], ◌∷◌, length, take, slice_index, ◌&&◌, ◌==◌, if◌then◌else◌, Result, Ok, Err}
use Rattle.std.specs.Option.{option_map_or}
use Rattle.std.specs.List.{slice_split}
use Rattle.fumen_pages.specs.declared.page.Page.{Page}
use Rattle.fumen_pages.specs.declared.list_fault.ListFault.{ListFault}
use Rattle.fumen_pages.specs.declared.list_fault.ListKind.{ListKind}
use Rattle.fumen_pages.specs.declared.list_fault.ListKind.TheVariants.{TooManyPages}
use Rattle.fumen_pages.specs.Lists.{most_pages}
use Rattle.page_list.specs.CellsReading.{cut_at}
use Rattle.page_list.specs.LineReading.{line_in}
use Rattle.fumen_digits.specs.Reading.{◌>>=◌}

-- one `\r` directly before the newline goes
unfoldable pub without_return : List ℕ → List ℕ
without_return line =
    if nat_lt 0 (length line) && slice_index line (length line - 1) == 13 then take (length line - 1) line else line

-- what ends with a newline is a line; what stands behind the last newline is one only if it has any byte
unfoldable pub whole_lines : List (List ℕ) → List (List ℕ)
whole_lines [] = []
whole_lines (last ∷ []) = if length last == 0 then [] else last ∷ []
whole_lines (line ∷ next ∷ parts) = without_return line ∷ whole_lines (next ∷ parts)

-- the lines of a text, without their newlines
abbrev pub lines_of : List ℕ → List (List ℕ)
lines_of text = whole_lines (slice_split (λ byte. byte == 10) text)

-- a fault of this line
abbrev pub numbered : ℕ → Result Page ListKind → Result Page ListFault
numbered number (Ok page) = Ok page
numbered number (Err kind) = Err (record { line = number; kind = kind })

-- the page of the line of this number, counted from 1: a line behind 10,000 others is too many
unfoldable pub numbered_page : ℕ → List ℕ → Result Page ListFault
numbered_page number line =
    if nat_lt most_pages number then Err (record { line = number; kind = TooManyPages }) else numbered number (line_in line)

-- the pages of lines of which the first has this number, or the first fault
unfoldable pub pages_from : ℕ → List (List ℕ) → Result (List Page) ListFault
pages_from number [] = Ok []
pages_from number (line ∷ lines) =
    numbered_page number line >>= (λ page. pages_from (number + 1) lines >>= (λ pages. Ok (page ∷ pages)))

-- the pages of a text, or the first fault
abbrev pub pages_in : List ℕ → Result (List Page) ListFault
pages_in text = pages_from 1 (lines_of text)

-- the first line of a text that has any byte, and the text behind it
unfoldable pub first_line : List ℕ → List ℕ × List ℕ
first_line text = option_map_or (λ cut. (without_return cut.0, cut.1)) (cut_at 10 text) (text, [])

-- the first line of a text is that of a page
abbrev pub HasFirstPage : List ℕ → Type 0
HasFirstPage text = (0 < length text) × IsOk (numbered_page 1 (first_line text).0)
