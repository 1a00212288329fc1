-- Pages that a text reads as have no fault in version 115 but that of a comment.
use Rattle.std.proofs.Common.{◌≡◌, ℕ, ◌+◌, Bool, true, false, cond, not, leb, ltb, eqb, List, [], ◌∷◌, length, take, Option, Some, None, refl, subst, inl, inr, ◌⊎◌, arith, rules}
use Rattle.std.specs.Prelude.{All, IsTrue}
use Rattle.std.specs.List.{list_all}
use Rattle.std.specs.Option.{ForSome, option_map_or, option_or}
use Rattle.std.proofs.lemmas.Bool.{and_from, and_parts, le-leb, le-ltb}
use Rattle.std.proofs.lemmas.List.Elements.{All-head, All-tail}
use Rattle.std.proofs.lemmas.List.Sums.{list_all-from_AllPass}
use Rattle.srs.specs.Cells.{Cell}
use Rattle.srs.specs.declared.placement.Placement.{Placement}
use Rattle.fumen_digits.specs.declared.dialect.Dialect.{Dialect}
use Rattle.fumen_digits.specs.declared.dialect.Dialect.TheVariants.{V115}
use Rattle.fumen_pages.specs.declared.page.Page.{Page}
use Rattle.fumen_pages.specs.Action.{in_rows, is_inside_in}
use Rattle.fumen_pages.specs.Cells.{IsColour, missing_count}
use Rattle.fumen_pages.specs.Sound.{IsSound}
use Rattle.fumen_pages.specs.declared.encode_fault.EncodeFault.{EncodeFault}
use Rattle.fumen_pages.specs.declared.encode_fault.EncodeFault.TheVariants as fault
use Rattle.fumen_pages.specs.Lists.{most_pages}
use Rattle.fumen_text.specs.Texts.{ReadsAs, empty_page}
use Rattle.fumen_text.specs.Written.{is_short, list_encode_fault, page_encode_fault, pages_encode_fault}
use Rattle.fumen_text.proofs.CallerLemmas.{spelled_sound}

-- version 115 has the rows of either version
rows_more : (d : Dialect) (cell : Cell) → in_rows d cell ≡ true → in_rows V115 cell ≡ true
rows_more d cell is = search rules

all_more : (d : Dialect) (cells : List Cell) → list_all (in_rows d) cells ≡ true → list_all (in_rows V115) cells ≡ true
all_more d [] all = refl
all_more d (cell ∷ cells) all =
    let parts = and_parts (in_rows d cell) (list_all (in_rows d) cells) all in
    and_from (in_rows V115 cell) (list_all (in_rows V115) cells) (rows_more d cell parts.0) (all_more d cells parts.1)

placed : (d : Dialect) (operation : Option Placement) → ForSome operation (λ p. IsTrue (is_inside_in d p)) → option_map_or (is_inside_in V115) operation true ≡ true
placed d operation inside = search (rules, all_more)

coloured : (cells : List ℕ) → All IsColour cells → list_all (λ cell. leb cell 8) cells ≡ true
coloured cells all = list_all-from_AllPass (λ cell. leb cell 8) cells (λ k d within. le-leb _ 8 (all k d within))

none_missing : (cells : List ℕ) → list_all (λ cell. eqb cell 0) (take (missing_count V115) cells) ≡ true
none_missing cells = refl

-- where all but the comment is in order, the fault is that of the comment
chosen : (number : ℕ) (cells rows operation long : Bool) (f : EncodeFault) → cells ≡ true → rows ≡ true → operation ≡ true
    → cond (not cells) (Some (fault.BadCell number)) (cond (not rows) (Some (fault.RowTooHigh number)) (cond (not operation) (Some (fault.PieceOutside number)) (cond long (Some (fault.CommentTooLong number)) None))) ≡ Some f
    → f ≡ fault.CommentTooLong number
chosen number cells rows operation long f one two three e = search rules

page_long : (d : Dialect) (number : ℕ) (page : Page) (f : EncodeFault) → IsSound d page → page_encode_fault V115 number page ≡ Some f → f ≡ fault.CommentTooLong number
unfolding page_encode_fault
page_long d number page f sound e =
    chosen number (list_all (λ cell. leb cell 8) page.cells) (list_all (λ cell. eqb cell 0) (take (missing_count V115) page.cells)) (option_map_or (is_inside_in V115) page.operation true) (not (is_short page.comment)) f
    (coloured page.cells sound.cells.colours) (none_missing page.cells) (placed d page.operation sound.inside) e

either : (here rest : Option EncodeFault) (f : EncodeFault) → option_or here rest ≡ Some f → (here ≡ Some f) ⊎ (rest ≡ Some f)
either here rest f e = search rules

pages_long : (d : Dialect) (number : ℕ) (pages : List Page) (f : EncodeFault) → All (IsSound d) pages → pages_encode_fault V115 number pages ≡ Some f → (page : ℕ) × (f ≡ fault.CommentTooLong page)
unfolding pages_encode_fault
pages_long d number [] f sound e = absurd cc
pages_long d number (page ∷ pages) f sound e = elim (either (page_encode_fault V115 number page) (pages_encode_fault V115 (number + 1) pages) f e) [
  | inl here ↦ (number, page_long d number page f (All-head (IsSound d) page pages sound) here)
  | inr later ↦ pages_long d (number + 1) pages f (All-tail (IsSound d) page pages sound) later
]

pub grown : (text : List ℕ) (d : Dialect) (pages : List Page) (f : EncodeFault) → ReadsAs text d pages → list_encode_fault V115 pages ≡ Some f → (page : ℕ) × (f ≡ fault.CommentTooLong page)
grown text d pages f reads e =
    let few = reads.few in
    let short : ltb most_pages (length pages) ≡ false = le-ltb most_pages (length pages) (omega (arith, few)) in
    pages_long d 1 pages f (spelled_sound d empty_page 0 pages reads.ds reads.spelled)
    (subst (λ many. cond many (Some fault.TooManyPages) (pages_encode_fault V115 1 pages) ≡ Some f) short e)
