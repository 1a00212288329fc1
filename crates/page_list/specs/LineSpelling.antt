-- The line form of page lists: which texts spell which pages, and which line of a text has which fault.
use Rattle.std.specs.Prelude.{◌≡◌, ℕ, ◌+◌, ◌-◌, ◌*◌, ◌<◌, ◌≤◌, false, ◌==◌, List, [], ◌∷◌, ◌++◌, length, map, replicate, codes, Option, Some, None, All, ◌⊎◌}
use Rattle.std.specs.List.{flat_map, join_with_byte}
use Rattle.srs.specs.declared.placement.Placement.{Placement}
use Rattle.placement_form.specs.Form.{IsPlacementText}
use Rattle.fumen_comment.specs.Unescape.{unescaped}
use Rattle.fumen_pages.specs.Cells.{IsColour}
use Rattle.fumen_pages.specs.declared.page.Page.{Page}
use Rattle.fumen_pages.specs.declared.list_fault.ListFault.{ListFault}
use Rattle.fumen_pages.specs.declared.list_fault.ListKind.{ListKind}
use Rattle.fumen_pages.specs.declared.list_fault.ListKind.TheVariants.{TooManyPages, BadLine, BadCells, BadOperation, BadFlags, BadComment}
use Rattle.fumen_pages.specs.Letters.{letters_of}
use Rattle.fumen_pages.specs.Lists.{most_pages}
use Rattle.page_list.specs.Divided.{Four, IsDivided}
use Rattle.page_list.specs.PrintedLine.{flags_form}

-- ten cells, each of a colour
pub record IsPageRow (row : List ℕ) : Type 0 where
  pub size : length row ≡ 10
  pub colours : All IsColour row

-- the letters of the garbage row; where it is empty they may be left out
pub data SpellsGarbage : List ℕ → List ℕ → Type 0 where
  left_out : SpellsGarbage [] (replicate 10 0)
  written : {row : List ℕ} → IsPageRow row → SpellsGarbage (letters_of row) row

-- up to 23 rows down to row 0, divided by `/`, then a bar and the garbage row; the rows above those are empty
pub record SpellsLineCells (text cells : List ℕ) : Type 0 where
  pub rows : List (List ℕ)
  pub most : length rows ≤ 23
  pub each : All IsPageRow rows
  pub garbage_text : List ℕ
  pub garbage : List ℕ
  pub garbage_spelled : SpellsGarbage garbage_text garbage
  pub spelled : text ≡ join_with_byte 47 (map letters_of rows) ++ 124 ∷ garbage_text
  pub cells_are : cells ≡ replicate (230 - 10 * length rows) 0 ++ (flat_map (λ row. row) rows ++ garbage)

-- `-` where there is no operation, or the text of a placement
abbrev pub SpellsLineOperation : List ℕ → Option Placement → Type 0
SpellsLineOperation text None = text ≡ codes "-"
SpellsLineOperation text (Some placement) = IsPlacementText text placement

-- the four letters of the page's flags
abbrev pub SpellsLineFlags : List ℕ → Page → Type 0
SpellsLineFlags text page = text ≡ flags_form page

-- `#` and an escaped text of characters from `!` to `~`
pub record SpellsUnits (text units : List ℕ) : Type 0 where
  pub escaped : List ℕ
  pub marks : All (λ byte. (33 ≤ byte) × (byte ≤ 126)) escaped
  pub spelled : text ≡ 35 ∷ escaped
  pub means : units ≡ unescaped escaped

-- `-` where there is no comment, or its units
abbrev pub SpellsLineComment : List ℕ → Option (List ℕ) → Type 0
SpellsLineComment text None = text ≡ codes "-"
SpellsLineComment text (Some units) = SpellsUnits text units

-- four fields, which spell the page's cells, operation, flags and comment
pub record SpellsPage (line : List ℕ) (page : Page) : Type 0 where
  pub four : Four
  pub divided : IsDivided line four
  pub cells : SpellsLineCells four.cells page.cells
  pub operation : SpellsLineOperation four.operation page.operation
  pub flags : SpellsLineFlags four.flags page
  pub comment : SpellsLineComment four.comment page.comment

-- no byte is a newline
abbrev pub HasNoNewline : List ℕ → Type 0
HasNoNewline line = All (λ byte. (byte == 10) ≡ false) line

-- the last byte is no `\r`
abbrev pub EndsWithoutReturn : List ℕ → Type 0
EndsWithoutReturn line = (front : List ℕ) → line ≡ front ++ 13 ∷ [] → ⊥

-- The first line of a text, without its end, and the text behind it: a line ends with a newline, or with `\r` and a
-- newline, or, where it has any byte, with the text.
pub data IsFirstLine : List ℕ → List ℕ → List ℕ → Type 0 where
  newline : {line behind : List ℕ} → HasNoNewline line → EndsWithoutReturn line
      → IsFirstLine (line ++ 10 ∷ behind) line behind
  return_newline : {line behind : List ℕ} → HasNoNewline line → IsFirstLine (line ++ 13 ∷ 10 ∷ behind) line behind
  unended : {line : List ℕ} → HasNoNewline line → 0 < length line → IsFirstLine line line []

-- these are the lines of a text, from the first to the last
abbrev pub HasLines : List ℕ → List (List ℕ) → Type 0
HasLines text [] = text ≡ []
HasLines text (line ∷ lines) = (behind : List ℕ) × IsFirstLine text line behind × HasLines behind lines

-- the first lines of a text spell these pages, one each, and this text stands behind them
pub data SpellsFirst : List ℕ → List Page → List ℕ → Type 0 where
  none : {text : List ℕ} → SpellsFirst text [] text
  more : {text line behind rest : List ℕ} {page : Page} {pages : List Page} → IsFirstLine text line behind
      → SpellsPage line page → SpellsFirst behind pages rest
      → SpellsFirst text (page ∷ pages) rest

-- up to 10,000 pages, a line for each
pub record SpellsPages (text : List ℕ) (pages : List Page) : Type 0 where
  pub most : length pages ≤ most_pages
  pub spelled : SpellsFirst text pages []

-- a text spells something, or nothing
abbrev pub Spelled : {A : Type 0} → (List ℕ → A → Type 0) → List ℕ → Type 0
Spelled {A = A} Spells text = (value : A) × Spells text value

abbrev pub Unspelled : {A : Type 0} → (List ℕ → A → Type 0) → List ℕ → Type 0
Unspelled {A = A} Spells text = (value : A) → Spells text value → ⊥

-- a line that hasn't four fields, or the first of its fields that spells nothing
abbrev pub IsLineFault : List ℕ → ListKind → Type 0
IsLineFault line TooManyPages = ⊥
IsLineFault line BadLine = Unspelled IsDivided line
IsLineFault line BadCells = (four : Four) × IsDivided line four × Unspelled SpellsLineCells four.cells
IsLineFault line BadOperation = (four : Four) × IsDivided line four × Spelled SpellsLineCells four.cells
    × Unspelled SpellsLineOperation four.operation
IsLineFault line BadFlags = (four : Four) × IsDivided line four × Spelled SpellsLineCells four.cells
    × Spelled SpellsLineOperation four.operation × Unspelled SpellsLineFlags four.flags
IsLineFault line BadComment =
    (four : Four) × IsDivided line four × Spelled SpellsLineCells four.cells
    × Spelled SpellsLineOperation four.operation × Spelled SpellsLineFlags four.flags
    × Unspelled SpellsLineComment four.comment

-- behind 10,000 pages a line is too many, whatever it holds
abbrev pub IsFaultBehind : ℕ → List ℕ → ListKind → Type 0
IsFaultBehind count line kind = ((count ≡ most_pages) × (kind ≡ TooManyPages)) ⊎ ((count < most_pages) × IsLineFault line kind)

-- lines that spell pages stand before the first line with a fault, which is counted from 1
pub record IsListFault (text : List ℕ) (fault : ListFault) : Type 0 where
  pub pages : List Page
  pub rest : List ℕ
  pub before : SpellsFirst text pages rest
  pub line : List ℕ
  pub behind : List ℕ
  pub first : IsFirstLine rest line behind
  pub number : fault.line ≡ length pages + 1
  pub kind : IsFaultBehind (length pages) line fault.kind
