-- What is written is digits, and spells the pages.
use Rattle.std.proofs.Common.{◌≡◌, ℕ, zero, suc, ◌≤◌, Bool, true, false, cond, List, [], ◌∷◌, ◌++◌, length, min, Option, Some, None, refl, sym, subst, ◌∙◌, arith, rules}
use Rattle.std.specs.Bool.{Decides}
use Rattle.std.specs.List.{AllByRecursion}
use Rattle.std.proofs.lemmas.Bool.{leb-true}
use Rattle.std.proofs.lemmas.Bool.Decides.{Decides-eqb}
use Rattle.std.proofs.lemmas.Slice.Eq.{slice_eq-Decides}
use Rattle.fumen_digits.specs.declared.dialect.Dialect.{Dialect}
use Rattle.fumen_digits.specs.Number.{digits}
use Rattle.fumen_digits.specs.Digit.{AreDigits}
use Rattle.fumen_digits.proofs.CallerLemmas.{AreDigits-append, AreDigits-digits}
use Rattle.fumen_comment.specs.Escape.{escaped, HasUnits}
use Rattle.fumen_comment.specs.Part.{comment_digits, SpellsComment}
use Rattle.fumen_comment.proofs.CallerLemmas.{escaped_printable, unescaped-escaped, written_comment, written_digits}
use Rattle.fumen_pages.specs.declared.page.Page.{Page}
use Rattle.fumen_pages.specs.Cells.{AreCells}
use Rattle.fumen_pages.specs.Next.{next}
use Rattle.fumen_pages.specs.Tail.{Tail, SpellsPart}
use Rattle.fumen_pages.specs.Written.{action_number_of}
use Rattle.fumen_pages.proofs.CallerLemmas.{next_cells_sound, written_other, written_digits as record_digits, number_says}
use Rattle.fumen_text.specs.Spells.{SpellsFumen, SpellsCells}
use Rattle.fumen_text.specs.Written.{IsWritable, is_short, cells_digits, keeps, pages_digits, part_digits, promised_behind, tail_digits, unchanged_pages}

-- ---- digits

cells_are_digits : (d : Dialect) (before : List ℕ) (promised : ℕ) (page : Page) (after : ℕ) → AreDigits (cells_digits d before promised page after)
unfolding cells_digits
cells_are_digits d before promised page after = search (rules, AreDigits-append, AreDigits-digits, record_digits)

part_is_digits : (comment : Option (List ℕ)) → AreDigits (part_digits comment)
part_is_digits comment = search (rules, written_digits)

pub pages_are_digits : (d : Dialect) (before : List ℕ) (promised : ℕ) (pages : List Page) → AreDigits (pages_digits d before promised pages)
unfolding pages_digits
pages_are_digits d before promised [] = tt
pages_are_digits d before promised (page ∷ pages) =
    let after = promised_behind d before promised page pages in
    let tail = AreDigits-append (digits 3 (action_number_of d page)) (part_digits page.comment) (AreDigits-digits 3 (action_number_of d page)) (part_is_digits page.comment) in
    let others = AreDigits-append (tail_digits d page) (pages_digits d (next d page) after pages) tail (pages_are_digits d (next d page) after pages) in
    AreDigits-append (cells_digits d before promised page after) (tail_digits d page ++ pages_digits d (next d page) after pages) (cells_are_digits d before promised page after) others

-- ---- one page

part_spells : (comment : Option (List ℕ)) → HasUnits comment → is_short comment ≡ true → SpellsPart comment (part_digits comment)
part_spells None units short = refl
part_spells (Some u) units short =
    subst (λ (x : List ℕ). SpellsComment x (comment_digits (escaped u))) (unescaped-escaped u (units u refl)) (written_comment (escaped u) (leb-true (length (escaped u)) 4095 short) (escaped_printable u (units u refl)))

tail_spells : (d : Dialect) (page : Page) → IsWritable d page → Tail d page (tail_digits d page)
tail_spells d page fit = search (rules, number_says, part_spells)

-- ---- some pages

pub keeps_decides : (before : List ℕ) (page : Page) → Decides (keeps before page) (page.cells ≡ before)
keeps_decides before page = slice_eq-Decides Decides-eqb page.cells before (keeps before page) refl

not_kept : (before : List ℕ) (page : Page) → keeps before page ≡ false → page.cells ≡ before → ⊥
not_kept before page e same = absurd (let never = sym ((keeps_decides before page).1 same) ∙ e in cc)

-- the cells of the first page are spelled, and what is promised behind it is unchanged
record FirstWritten (d : Dialect) (before : List ℕ) (promised : ℕ) (page : Page) (pages : List Page) : Type 0 where
  spells : SpellsCells d before promised page.cells (promised_behind d before promised page pages) (cells_digits d before promised page (promised_behind d before promised page pages))
  kept : promised_behind d before promised page pages ≤ unchanged_pages d (next d page) pages

unpromised_written : (d : Dialect) (before : List ℕ) (page : Page) (pages : List Page) (b : Bool) → keeps before page ≡ b → AreCells d before → AreCells d page.cells → FirstWritten d before 0 page pages
unfolding promised_behind cells_digits
unpromised_written d before page pages b e old new = search (rules, min, keeps_decides, written_other, not_kept)

promised_written : (d : Dialect) (before : List ℕ) (left : ℕ) (page : Page) (pages : List Page) (b : Bool) → keeps before page ≡ b → suc left ≤ cond b (suc (unchanged_pages d (next d page) pages)) 0 → FirstWritten d before (suc left) page pages
unfolding promised_behind cells_digits
promised_written d before left page pages b e kept = search (rules, keeps_decides)

first_written : (d : Dialect) (before : List ℕ) (promised : ℕ) (page : Page) (pages : List Page) → AreCells d before → AreCells d page.cells → promised ≤ unchanged_pages d before (page ∷ pages) → FirstWritten d before promised page pages
unfolding unchanged_pages
first_written d before zero page pages old new kept = unpromised_written d before page pages (keeps before page) refl old new
first_written d before (suc left) page pages old new kept = promised_written d before left page pages (keeps before page) refl kept

pub pages_spell : (d : Dialect) (before : List ℕ) (promised : ℕ) (pages : List Page) → AreCells d before → AllByRecursion (IsWritable d) pages → promised ≤ unchanged_pages d before pages
    → SpellsFumen d before promised pages (pages_digits d before promised pages)
unfolding pages_digits unchanged_pages SpellsFumen
pages_spell d before promised [] sound each kept = (omega (arith, kept), refl)
pages_spell d before promised (page ∷ pages) sound each kept =
    search (rules, (pages_spell d (next d page) (promised_behind d before promised page pages) pages (next_cells_sound d page each.0.sound) each.1 (first_written d before promised page pages sound each.0.sound.cells kept).kept), (first_written d before promised page pages sound each.0.sound.cells kept), (tail_spells d page each.0))
