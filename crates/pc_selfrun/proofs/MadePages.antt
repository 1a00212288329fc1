-- Pages that are made from a number have no fault, so that their text reads as them.
use Rattle.std.proofs.Common.{◌≡◌, ◌∙◌, ℕ, zero, suc, ◌+◌, ◌*◌, ◌≤◌, Bool, true, false, cond, not, ltb, List, [], ◌∷◌, length, replicate, Option, Some, None, IsTrue, refl, ap, arith, rules}
use Rattle.std.specs.Option.{ForSome, option_map_or, option_or}
use Rattle.std.specs.List.{AllByRecursion}
use Rattle.std.proofs.lemmas.Bool.{le-leb, le-ltb}
use Rattle.std.proofs.lemmas.List.{length-append}
use Rattle.std.proofs.lemmas.List.Sums.{list_all-from_AllPass}
use Rattle.fumen_digits.specs.declared.dialect.Dialect.TheVariants.{V115}
use Rattle.fumen_comment.specs.Escape.{escaped, escaped_unit}
use Rattle.fumen_pages.specs.declared.page.Page.{Page}
use Rattle.srs.specs.declared.placement.Placement.{Placement}
use Rattle.fumen_pages.specs.Action.{is_inside_in}
use Rattle.fumen_pages.specs.Cells.{AreCells}
use Rattle.fumen_pages.specs.Next.{next}
use Rattle.fumen_pages.specs.Sound.{IsSound}
use Rattle.fumen_pages.proofs.CallerLemmas.{next_cells_sound}
use Rattle.fumen_pages.specs.declared.encode_fault.EncodeFault.{EncodeFault}
use Rattle.fumen_pages.specs.declared.encode_fault.EncodeFault.TheVariants as fault
use Rattle.fumen_pages.specs.Lists.{most_pages}
use Rattle.fumen_text.specs.Written.{HasTypes, is_short, list_encode_fault, page_encode_fault, pages_encode_fault}
use Rattle.sample_pages.specs.Pages.{page_drawn, pages_drawn, sample_pages, state_behind}
use Rattle.sample_pages.proofs.CallerLemmas.{IsShortComment, comment_drawn-short, empty_sound, length-pages_drawn, page_drawn-sound}

-- three units are escaped by few characters
length-escaped_unit : (unit : ℕ) → length (escaped_unit unit) ≤ 6
length-escaped_unit unit = search rules

length-escaped : (units : List ℕ) → length (escaped units) ≤ 6 * length units
unfolding escaped
length-escaped [] = omega arith
length-escaped (unit ∷ units) = search (rules, length-escaped_unit, length-append, length-escaped units)

comment_short : (comment : Option (List ℕ)) → ForSome comment IsShortComment → is_short comment ≡ true
comment_short comment short = search (rules, length-escaped, le-leb)

operation_inside : (operation : Option Placement) → ForSome operation (λ placement. IsTrue (is_inside_in V115 placement)) → option_map_or (is_inside_in V115) operation true ≡ true
operation_inside operation inside = search rules

four_pass : (a b c d : Bool) (f g h k : EncodeFault) → a ≡ true → b ≡ true → c ≡ true → d ≡ true
    → cond (not a) (Some f) (cond (not b) (Some g) (cond (not c) (Some h) (cond (not d) (Some k) None))) ≡ None
four_pass a b c d f g h k one two three four = rw (one, two, three, four) refl

no_fault : (number : ℕ) (page : Page) → IsSound V115 page → ForSome page.comment IsShortComment → page_encode_fault V115 number page ≡ None
unfolding page_encode_fault
no_fault number page sound short =
    search (rules, four_pass, list_all-from_AllPass, le-leb, operation_inside, comment_short)

comment_of_drawn : (state : ℕ) (colour : Bool) (cells : List ℕ) → ForSome (page_drawn state colour cells).comment IsShortComment
unfolding page_drawn
comment_of_drawn state colour cells = comment_drawn-short state

-- pages that are written without a fault
pub record AreFit (number : ℕ) (pages : List Page) : Type 0 where
  pub none : pages_encode_fault V115 number pages ≡ None
  pub types : AllByRecursion HasTypes pages

drawn_fit : (count number state : ℕ) (colour : Bool) (cells : List ℕ) → AreCells V115 cells → AreFit number (pages_drawn count state colour cells)
unfolding pages_drawn pages_encode_fault
drawn_fit zero number state colour cells are = record { none = refl; types = tt }
drawn_fit (suc count) number state colour cells are =
    let page = page_drawn state colour cells in
    let sound = page_drawn-sound state colour cells are in
    let short = comment_of_drawn state colour cells in
    let rest = drawn_fit count (number + 1) (state_behind state) false (next V115 page) (next_cells_sound V115 page sound) in
    record {
      none = ap (λ first. option_or first (pages_encode_fault V115 (number + 1) (pages_drawn count (state_behind state) false (next V115 page)))) (no_fault number page sound short) ∙ rest.none;
      types = (record { size = sound.cells.size; units = λ units has. (short units has).units_fit }, rest.types);
    }

few_pages : (count : ℕ) (rest : Option EncodeFault) → count ≤ most_pages → rest ≡ None → cond (ltb most_pages count) (Some fault.TooManyPages) rest ≡ None
few_pages count rest few none = rw (le-ltb most_pages count few) none

pub made_count : (number pages : ℕ) → length (sample_pages number pages) ≡ pages
made_count number pages = length-pages_drawn pages number true (replicate 240 0)

pub made_types : (number pages : ℕ) → AllByRecursion HasTypes (sample_pages number pages)
made_types number pages = (drawn_fit pages 1 number true (replicate 240 0) empty_sound).types

pub made_none : (number pages : ℕ) → pages ≤ most_pages → list_encode_fault V115 (sample_pages number pages) ≡ None
made_none number pages few = search (rules, few_pages, made_count, drawn_fit, empty_sound)
