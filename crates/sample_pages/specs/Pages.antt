-- The pages that are made from a number.
use Rattle.std.specs.Prelude.{ℕ, zero, suc, ◌+◌, ◌==◌, Bool, true, false, not, if◌then◌else◌, List, [], ◌∷◌, get_or, replicate, slice_set, Option, Some, None}
use Rattle.fumen_digits.specs.declared.dialect.Dialect.TheVariants.{V115}
use Rattle.srs.specs.declared.placement.Placement.{Placement}
use Rattle.srs.specs.declared.piece.Piece.TheVariants.{I}
use Rattle.srs.specs.declared.rotation.Rotation.TheVariants.{Spawn}
use Rattle.srs.specs.Piece.{all_pieces}
use Rattle.srs.specs.Rotation.{all_rotations}
use Rattle.fumen_pages.specs.declared.page.Page.{Page}
use Rattle.fumen_pages.specs.Next.{next}
use Rattle.sample_pages.specs.Draws.{draw, state_after_draws}

-- draws 1 to 4: a piece, a rotation, and the pivot, in columns 3 to 6 and rows 2 to 11
unfoldable pub operation_drawn : ℕ → Placement
operation_drawn state = record {
  piece = get_or all_pieces (draw state 1 7) I;
  rotation = get_or all_rotations (draw state 2 4) Spawn;
  x = draw state 3 4 + 3;
  y = draw state 4 10 + 2;
}

-- draws 8 and 9: one of the cells takes a colour
unfoldable pub cells_drawn : ℕ → List ℕ → List ℕ
cells_drawn state cells = slice_set cells (draw state 8 240) (draw state 9 9)

-- draw 10: a comment where it is 0, of the three units that are drawn then
unfoldable pub has_comment : ℕ → Bool
has_comment state = draw state 10 4 == 0

unfoldable pub comment_drawn : ℕ → Option (List ℕ)
comment_drawn state =
    if has_comment state then Some (draw state 11 65536 ∷ draw state 12 65536 ∷ draw state 13 65536 ∷ []) else None

-- The page that is drawn from a state, over the cells that the page before it leaves. Draws 5 and 6 give rise and
-- mirror where they are 0, and draw 7 a lock where it isn't.
unfoldable pub page_drawn : ℕ → Bool → List ℕ → Page
page_drawn state colour cells = record {
  cells = cells_drawn state cells;
  operation = Some (operation_drawn state);
  rise = draw state 5 8 == 0;
  mirror = draw state 6 8 == 0;
  colour = colour;
  lock = not (draw state 7 4 == 0);
  comment = comment_drawn state;
}

-- the state behind a page
unfoldable pub state_behind : ℕ → ℕ
state_behind state = if has_comment state then state_after_draws 13 state else state_after_draws 10 state

-- so many pages
unfoldable pub pages_drawn : ℕ → ℕ → Bool → List ℕ → List Page
pages_drawn zero state colour cells = []
pages_drawn (suc count) state colour cells =
    page_drawn state colour cells
    ∷ pages_drawn count (state_behind state) false (next V115 (page_drawn state colour cells))

-- the state behind so many pages
unfoldable pub state_behind_pages : ℕ → ℕ → ℕ
state_behind_pages zero state = state
state_behind_pages (suc count) state = state_behind_pages count (state_behind state)

-- so many pages from a number, of which the first changes an empty field and has the colour flag
abbrev pub sample_pages : ℕ → ℕ → List Page
sample_pages number count = pages_drawn count number true (replicate 240 0)

-- the column that is drawn behind so many pages from a number
abbrev pub column_drawn : ℕ → ℕ → ℕ
column_drawn number count = draw (state_behind_pages count number) 1 7
