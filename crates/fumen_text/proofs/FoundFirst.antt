-- Faults that are found before a comment is escaped.
use Rattle.std.proofs.Common.{◌≡◌, ℕ, ◌+◌, ◌<◌, ◌≤◌, Bool, true, cond, eqb, leb, List, [], ◌∷◌, length, take, drop, Option, Some, None, get_or, subst, inl, inr, ◌⊎◌, arith, rules}
use Rattle.std.specs.List.{list_all}
use Rattle.std.specs.Option.{option_or, option_map_or}
use Rattle.std.proofs.lemmas.Bool.{le-ltb}
use Rattle.std.proofs.lemmas.List.{get_or-take, length-take}
use Rattle.fumen_digits.specs.declared.dialect.Dialect.{Dialect}
use Rattle.fumen_pages.specs.declared.page.Page.{Page}
use Rattle.fumen_pages.specs.Cells.{missing_count}
use Rattle.fumen_pages.specs.Action.{is_inside_in}
use Rattle.fumen_pages.specs.declared.encode_fault.EncodeFault.{EncodeFault}
use Rattle.fumen_pages.specs.declared.encode_fault.EncodeFault.TheVariants as fault
use Rattle.fumen_pages.specs.Lists.{most_pages}
use Rattle.fumen_text.specs.Written.{AreFewBefore, HasFewUnits, IsFoundFirst, list_encode_fault, page_encode_fault, pages_encode_fault}
use Rattle.fumen_text.specs.Checking.{IsMeasured}
use Rattle.fumen_text.proofs.WrittenIsRead.{IsCheckedSoFar, one_left}

-- a fault of a page from this number on
abbrev IsFrom : ℕ → EncodeFault → Type 0
IsFrom least fault.TooManyPages = ⊥
IsFrom least (fault.BadCell number) = least ≤ number
IsFrom least (fault.RowTooHigh number) = least ≤ number
IsFrom least (fault.PieceOutside number) = least ≤ number
IsFrom least (fault.CommentTooLong number) = least ≤ number

is_from-less : (least more : ℕ) (f : EncodeFault) → least ≤ more → IsFrom more f → IsFrom least f
is_from-less least more fault.TooManyPages le from = from
is_from-less least more (fault.BadCell number) le from = omega (arith, le, from)
is_from-less least more (fault.RowTooHigh number) le from = omega (arith, le, from)
is_from-less least more (fault.PieceOutside number) le from = omega (arith, le, from)
is_from-less least more (fault.CommentTooLong number) le from = omega (arith, le, from)

named : (number : ℕ) (here f : EncodeFault) → IsFrom number here → Some here ≡ Some f → IsFrom number f
named number here f from e = let is : here ≡ f = cc in subst (IsFrom number) is from

same : (n : ℕ) → n ≤ n
same n = omega arith

chosen : (number : ℕ) (cells rows placed long : Bool) (f : EncodeFault)
    → cond cells (Some (fault.BadCell number)) (cond rows (Some (fault.RowTooHigh number)) (cond placed (Some (fault.PieceOutside number)) (cond long (Some (fault.CommentTooLong number)) None))) ≡ Some f
    → IsFrom number f
chosen number cells rows placed long f e = search (rules, named, same)

page_from : (d : Dialect) (number : ℕ) (page : Page) (f : EncodeFault) → page_encode_fault d number page ≡ Some f → IsFrom number f
unfolding page_encode_fault
page_from d number page f e = search (rules, chosen)

either : (here rest : Option EncodeFault) (f : EncodeFault) → option_or here rest ≡ Some f → (here ≡ Some f) ⊎ (rest ≡ Some f)
either here rest f e = search rules

pages_from : (d : Dialect) (number : ℕ) (pages : List Page) (f : EncodeFault) → pages_encode_fault d number pages ≡ Some f → IsFrom number f
unfolding pages_encode_fault
pages_from d number [] f e = absurd cc
pages_from d number (page ∷ pages) f e = elim (either (page_encode_fault d number page) (pages_encode_fault d (number + 1) pages) f e) [
  | inl here ↦ page_from d number page f here
  | inr behind ↦ is_from-less number (number + 1) f (omega arith) (pages_from d (number + 1) pages f behind)
]

-- the page of index i is among those before a later number
few_at : (pages : List Page) (i number : ℕ) (page : Page) → i < length pages → page ≡ get_or pages i page → i + 1 + 1 ≤ number → AreFewBefore pages number → HasFewUnits page
few_at pages i number page lt is later few = search (rules, length-take, get_or-take)

found_late : (pages : List Page) (i : ℕ) (page : Page) (f : EncodeFault) → i < length pages → page ≡ get_or pages i page → (HasFewUnits page → ⊥) → IsFrom (i + 1 + 1) f → IsFoundFirst pages f → ⊥
found_late pages i page fault.TooManyPages lt is many from first = from
found_late pages i page (fault.BadCell number) lt is many from first = many (few_at pages i number page lt is from first)
found_late pages i page (fault.RowTooHigh number) lt is many from first = many (few_at pages i number page lt is from first)
found_late pages i page (fault.PieceOutside number) lt is many from first = many (few_at pages i number page lt is from first)
found_late pages i page (fault.CommentTooLong number) lt is many from first = first

-- where a page's comment had to be escaped, no fault was found first
pub none_first : (d : Dialect) (pages : List Page) (i : ℕ) (page : Page) (f : EncodeFault) → i < length pages → length pages ≤ most_pages → page ≡ get_or pages i page → IsMeasured d (i + 1) page → IsCheckedSoFar d pages i
    → list_encode_fault d pages ≡ Some f → IsFoundFirst pages f → ⊥
none_first d pages i page f lt few is measured s found first =
    search (rules, (le-ltb most_pages (length pages) few), (found_late pages i page f lt is measured.many), (pages_from d (i + 1 + 1) (drop (i + 1) pages) f), (one_left d pages i page lt is))

-- a page whose other parts have no fault has none, or has a long comment
pub long_or_none : (d : Dialect) (number : ℕ) (page : Page) → list_all (λ cell. leb cell 8) page.cells ≡ true → list_all (λ cell. eqb cell 0) (take (missing_count d) page.cells) ≡ true
    → option_map_or (is_inside_in d) page.operation true ≡ true → (page_encode_fault d number page ≡ None) ⊎ (page_encode_fault d number page ≡ Some (fault.CommentTooLong number))
unfolding page_encode_fault
long_or_none d number page colours empty placed = search rules
