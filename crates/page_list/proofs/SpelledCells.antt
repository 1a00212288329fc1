-- Cells that a text spells are a page's, and so are the units of its comment.
use Rattle.std.proofs.Common.{◌≡◌, ℕ, ◌-◌, ◌*◌, List, [], ◌∷◌, ◌++◌, length, length-append, replicate, All, Option, refl, ap, sym, subst, ◌∙◌, arith, rules}
use Rattle.std.proofs.lemmas.List.{length-replicate}
use Rattle.std.proofs.lemmas.List.Elements.{All-nil, All-cons, All-head, All-tail, All-append, All-replicate}
use Rattle.std.proofs.lemmas.Option.{none-some, same_Some}
use Rattle.fumen_comment.specs.Escape.{HasUnits}
use Rattle.fumen_comment.proofs.CallerLemmas.{unescaped_fits}
use Rattle.fumen_digits.specs.declared.dialect.Dialect.TheVariants.{V115}
use Rattle.fumen_pages.specs.declared.page.Page.{Page}
use Rattle.fumen_pages.specs.Cells.{IsColour, AreCells}
use Rattle.fumen_pages.proofs.CallerLemmas.{flat}
use Rattle.page_list.specs.LineSpelling.{IsPageRow, SpellsGarbage, left_out, written, SpellsLineCells, SpellsLineComment, SpellsFirst, none, more, SpellsPages}
use Rattle.page_list.proofs.CellsReadAsSpelled.{length_of_rows}

garbage_row : (text garbage : List ℕ) → SpellsGarbage text garbage → IsPageRow garbage
garbage_row text garbage left_out = record { size = refl; colours = All-replicate IsColour 10 0 (omega arith) }
garbage_row text garbage (written is) = is

flat_colours : (rows : List (List ℕ)) → All IsPageRow rows → All IsColour (flat rows)
flat_colours [] each = All-nil IsColour
flat_colours (row ∷ rows) each = All-append IsColour row (flat rows) (All-head IsPageRow row rows each).colours (flat_colours rows (All-tail IsPageRow row rows each))

spelled_cells : (text cells : List ℕ) → SpellsLineCells text cells → AreCells V115 cells
spelled_cells text cells s =
    let above = replicate (230 - 10 * length s.rows) 0 in
    let row = garbage_row s.garbage_text s.garbage s.garbage_spelled in
    let zeros : length above ≡ 230 - 10 * length s.rows = length-replicate (230 - 10 * length s.rows) 0 in
    record {
      size = ap length s.cells_are ∙ length-append above (flat s.rows ++ s.garbage) ∙ omega (arith, zeros, s.most, row.size, length-append (flat s.rows) s.garbage, length_of_rows s.rows s.each);
      colours = subst (All IsColour) (sym s.cells_are) (All-append IsColour above (flat s.rows ++ s.garbage) (All-replicate IsColour (230 - 10 * length s.rows) 0 (omega arith)) (All-append IsColour (flat s.rows) s.garbage (flat_colours s.rows s.each) row.colours));
      missing = refl;
    }

spelled_first : (text rest : List ℕ) (pages : List Page) → SpellsFirst text pages rest → All (λ page. AreCells V115 page.cells) pages
spelled_first text rest [] none = All-nil (λ page. AreCells V115 page.cells)
spelled_first text rest (page ∷ pages) (more {behind = behind} first s others) =
    All-cons (λ p. AreCells V115 p.cells) page pages (spelled_cells s.four.cells page.cells s.cells) (spelled_first behind rest pages others)

pub cells_of_pages : (text : List ℕ) (pages : List Page) → SpellsPages text pages → All (λ page. AreCells V115 page.cells) pages
cells_of_pages text pages s = spelled_first text [] pages s.spelled

-- and the units of their comments have 16 bits
comment_units : (text : List ℕ) (comment : Option (List ℕ)) → SpellsLineComment text comment → HasUnits comment
comment_units text comment s = search (rules, none-some, same_Some, unescaped_fits)

first_units : (text rest : List ℕ) (pages : List Page) → SpellsFirst text pages rest → All (λ page. HasUnits page.comment) pages
first_units text rest [] none = All-nil (λ (page : Page). HasUnits page.comment)
first_units text rest (page ∷ pages) (more {behind = behind} first s others) =
    All-cons (λ (p : Page). HasUnits p.comment) page pages (comment_units s.four.comment page.comment s.comment) (first_units behind rest pages others)

pub units_of_pages : (text : List ℕ) (pages : List Page) → SpellsPages text pages → All (λ page. HasUnits page.comment) pages
units_of_pages text pages s = first_units text [] pages s.spelled
