-- Reading pages from a place on, with the first fault that is met.
use Rattle.std.specs.Prelude.{ℕ, zero, suc, ◌+◌, List, [], ◌∷◌, length, Bool, ◌||◌, nat_lt, if◌then◌else◌, Option, Some, None, Result, Ok, Err}
use Rattle.fumen_digits.specs.declared.dialect.Dialect.{Dialect}
use Rattle.fumen_digits.specs.Framing.{digits_in}
use Rattle.fumen_digits.specs.declared.fault.FumenFault.{FumenFault}
use Rattle.fumen_digits.specs.declared.fault.FumenFault.TheVariants.{NoFumen, TooManyPages}
use Rattle.fumen_digits.specs.Reading.{◌>>=◌, number_at}
use Rattle.fumen_pages.specs.declared.page.Page.{Page}
use Rattle.fumen_pages.specs.declared.record.CellsRead.{CellsRead}
use Rattle.fumen_pages.specs.Next.{next}
use Rattle.fumen_pages.specs.Reading.{record_at, page_at}
use Rattle.fumen_text.specs.declared.page_reader.PageReader.{PageReader}
use Rattle.fumen_pages.specs.Lists.{most_pages}
use Rattle.fumen_text.specs.Texts.{empty_page}

abbrev pub reader : ℕ → List ℕ → ℕ → PageReader
reader place cells promised = record { place = place; cells = cells; promised = promised }

-- behind the record of a page: the digit of the unchanged run says how many pages are promised
abbrev pub promise_at : List ℕ → CellsRead → Result PageReader FumenFault
promise_at ds read =
    if read.unchanged then (number_at ds read.place 1 >>= λ after. Ok (reader (read.place + 1) read.cells after))
    else Ok (reader read.place read.cells 0)

-- behind the cells of the page at a place: its cells are these, and so many pages are promised behind it
unfoldable pub page_cells_at : Dialect → List ℕ → ℕ → List ℕ → ℕ → Result PageReader FumenFault
page_cells_at d ds place before zero = record_at d ds place before >>= λ read. promise_at ds read
page_cells_at d ds place before (suc left) = Ok (reader place before left)

-- the page at a place, counted from 1, and where the reader stands behind it
unfoldable pub next_page_at : Dialect → List ℕ → ℕ → ℕ → List ℕ → ℕ → Result (Page × PageReader) FumenFault
next_page_at d ds number place before promised = do
  at ← page_cells_at d ds place before promised
  page ← page_at d at.cells number ds at.place
  Ok (page.0, reader page.1 (next d page.0) at.promised)

-- one more page is due: digits are left, or a page is promised
abbrev pub is_due : List ℕ → ℕ → ℕ → Bool
is_due ds place promised = nat_lt place (length ds) || nat_lt 0 promised

-- the pages from a place on, where there is room for so many, and the first one has this number
unfoldable pub pages_at : Dialect → List ℕ → ℕ → ℕ → ℕ → List ℕ → ℕ → Result (List Page) FumenFault
pages_at d ds zero number place before promised = if is_due ds place promised then Err TooManyPages else Ok []
pages_at d ds (suc room) number place before promised =
    if is_due ds place promised then (
    next_page_at d ds number place before promised >>= λ step.
    pages_at d ds room (number + 1) step.1.place step.1.cells step.1.promised >>= λ pages.
    Ok (step.0 ∷ pages)
    ) else Ok []

-- the pages of some digits
abbrev pub pages_of_digits : Dialect → List ℕ → Result (List Page) FumenFault
pages_of_digits d ds = pages_at d ds most_pages 1 0 empty_page 0

-- the dialect and the pages of framed digits, if there are any
abbrev pub framed_pages : Option (Dialect × List ℕ) → Result (Dialect × List Page) FumenFault
framed_pages None = Err NoFumen
framed_pages (Some (d, ds)) = pages_of_digits d ds >>= λ pages. Ok (d, pages)

-- the dialect and the pages of a text
abbrev pub text_pages : List ℕ → Result (Dialect × List Page) FumenFault
text_pages text = framed_pages (digits_in text)
