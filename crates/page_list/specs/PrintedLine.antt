-- The line of a page.
use Rattle.std.specs.Prelude.{ℕ, List, [], ◌∷◌, ◌++◌, ◌*◌, take, drop, nat_lt, codes, Bool, if◌then◌else◌, Option, Some, None}
use Rattle.std.specs.List.{join_with_byte}
use Rattle.srs.specs.declared.placement.Placement.{Placement}
use Rattle.fumen_comment.specs.Escape.{escaped}
use Rattle.placement_form.specs.Form.{placement_form}
use Rattle.fumen_pages.specs.declared.page.Page.{Page}
use Rattle.fumen_pages.specs.Letters.{letters_of, is_blank, shown_rows, garbage_row}

-- a row counted from the top, and a `/` where another one follows it
abbrev pub divided_row : List ℕ → ℕ → List ℕ
divided_row letters index = take 10 (drop (10 * index) letters) ++ (if nat_lt index 22 then 47 ∷ [] else [])

-- the garbage row, or nothing where it is empty
abbrev pub garbage_form : List ℕ → List ℕ
garbage_form row = if is_blank row then [] else row

-- the rows from the highest one with a coloured cell down, divided by `/`, then a bar, then the garbage row
unfoldable pub rows_form : List ℕ → List ℕ
rows_form letters = join_with_byte 47 (shown_rows letters) ++ 124 ∷ garbage_form (garbage_row letters)

-- the operation, or `-`
abbrev pub operation_form : Option Placement → List ℕ
operation_form None = codes "-"
operation_form (Some placement) = placement_form placement

-- the letter of a flag, or `-` where it isn't set
abbrev pub flag_form : ℕ → Bool → ℕ
flag_form letter is_set = if is_set then letter else 45

-- `r` for rise, `m` for mirror, `c` for colour, `l` for lock
abbrev pub flags_form : Page → List ℕ
flags_form page =
    flag_form 114 page.rise ∷ flag_form 109 page.mirror ∷ flag_form 99 page.colour ∷ flag_form 108 page.lock ∷ []

-- `#` and the escaped comment, or `-`
abbrev pub comment_form : Option (List ℕ) → List ℕ
comment_form None = codes "-"
comment_form (Some units) = 35 ∷ escaped units

-- cells, operation, flags and comment, divided by blanks, as `____T_____/___TTT____| T0:4,0 --cl #hello`
unfoldable pub page_form : Page → List ℕ
page_form page =
    rows_form (letters_of page.cells) ++ 32 ∷ operation_form page.operation ++ 32 ∷ flags_form page
    ++ 32 ∷ comment_form page.comment ++ 10 ∷ []
