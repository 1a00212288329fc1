-- A sequence as a fumen text: a page for each placement.
use Rattle.std.specs.Prelude.{ℕ, zero, suc, Bool, true, false, Option, Some, List, [], ◌∷◌, ◌++◌, map, option_map, if◌then◌else◌}
use Rattle.lane_board.specs.Field.{Field}
use Rattle.lane_board.specs.FullRows.{columns}
use Rattle.srs.specs.declared.placement.Placement.{Placement}
use Rattle.well.specs.Lock.{locked}
use Rattle.moves.specs.declared.key.Key.{Key}
use Rattle.moves.specs.Keys.{word_letters}
use Rattle.fumen_digits.specs.declared.dialect.Dialect.TheVariants.{V115}
use Rattle.fumen_pages.specs.declared.page.Page.{Page}
use Rattle.fumen_pages.specs.Next.{empty_row, next}
use Rattle.fumen_text.specs.Written.{written}
use Rattle.report.specs.Forms.{KeysOf}

-- a row of a field, from left to right, as cells of a page: grey where the field has the cell
abbrev pub grey_row : Field → ℕ → List ℕ
grey_row F y = map (λ x. if F x y then 8 else 0) columns

-- its rows below a height, the top one first
unfoldable pub grey_rows : Field → ℕ → List ℕ
grey_rows F zero = []
grey_rows F (suc y) = grey_row F y ++ grey_rows F y

-- the cells of a page that has the field's cells as grey ones, and nothing in its garbage row
unfoldable pub grey_cells : Field → List ℕ
grey_cells F = grey_rows F 23 ++ empty_row

-- the letters of the keys, and `H` for the hard drop at the end
abbrev pub keys_comment : Option (List Key) → Option (List ℕ)
keys_comment keys = option_map word_letters keys

-- a page on which a placement locks, with its keys as the comment where there are some
abbrev pub placing_page : List ℕ → Bool → Placement → Option (List Key) → Page
placing_page cells colour placement keys =
    record {
      cells = cells;
      operation = Some placement;
      rise = false;
      mirror = false;
      colour = colour;
      lock = true;
      comment = keys_comment keys;
    }

-- A page for each placement that is played from a field on. The first one has these cells and this colour flag, and
-- each later one the cells that the page before it leaves, and no colour flag.
unfoldable pub placement_pages : KeysOf → List ℕ → Bool → Field → List Placement → List Page
placement_pages keys cells colour F [] = []
placement_pages keys cells colour F (placement ∷ rest) =
    let page = placing_page cells colour placement (keys F placement) in
    page ∷ placement_pages keys (next V115 page) false (locked F placement) rest

-- the pages of a sequence that is played from a field on: the first one has the field as grey cells and the colour
-- flag
abbrev pub sequence_pages : KeysOf → Field → List Placement → List Page
sequence_pages keys F sequence = placement_pages keys (grey_cells F) true F sequence

-- their text, and a newline
unfoldable pub fumen_form : KeysOf → Field → List Placement → List ℕ
fumen_form keys F sequence = written V115 (sequence_pages keys F sequence) ++ 10 ∷ []

-- the cells that the last of some pages leaves, or these where there is none
abbrev pub left_after : List ℕ → List Page → List ℕ
left_after cells [] = cells
left_after cells (page ∷ rest) = left_after (next V115 page) rest
