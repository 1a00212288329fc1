-- Whole texts: what is read is spelled by the text, and what the text spells is read; a fault is the first one in it.
use Rattle.std.proofs.Common.{◌≡◌, ℕ, ◌+◌, ◌-◌, ◌≤◌, List, length, Option, Some, None, Result, Ok, Err, replicate, refl, sym, ap, ◌∙◌, ◌⊎◌, inl, inr, arith, rules}
use Rattle.std.specs.Prelude.{All}
use Rattle.std.proofs.lemmas.List.{append-nil}
use Rattle.std.proofs.lemmas.List.Elements.{All-replicate}
use Rattle.fumen_digits.specs.declared.dialect.Dialect.{Dialect}
use Rattle.fumen_digits.specs.declared.dialect.Dialect.TheVariants.{V110, V115}
use Rattle.fumen_digits.specs.Framing.{digits_in}
use Rattle.fumen_digits.specs.declared.fault.FumenFault.{FumenFault}
use Rattle.fumen_digits.specs.declared.fault.FumenFault.TheVariants.{NoFumen}
use Rattle.fumen_digits.proofs.CallerLemmas.{bind_ok, bind_err, ok_bind, err_bind}
use Rattle.fumen_pages.specs.declared.page.Page.{Page}
use Rattle.fumen_pages.specs.Cells.{AreCells, IsColour}
use Rattle.fumen_text.specs.Spells.{SpellsFumen}
use Rattle.fumen_pages.specs.Lists.{most_pages}
use Rattle.fumen_text.specs.Texts.{ReadsAs, empty_page}
use Rattle.fumen_text.specs.Faults.{IsDigitsFault, IsTextFault, PagesStand}
use Rattle.fumen_text.specs.Reading.{framed_pages, pages_at, pages_of_digits, text_pages}
use Rattle.fumen_text.proofs.WholePages.{all_stands, stands_all, spells_from_whole, whole_from_spells, is_due-ended}
use Rattle.fumen_text.proofs.PagesReadAsSpelled.{MeetsFault, pages_from_read, pages_fault_from_read, read_from_fault, read_whole, turn_ended, with_front}

-- ---- the cells before the first page

no_colours : (n : ℕ) → All IsColour (replicate n 0)
no_colours n = All-replicate IsColour n 0 (omega arith)

pub empty_sound : (d : Dialect) → AreCells d empty_page
empty_sound V110 = record { size = refl; colours = no_colours 240; missing = refl }
empty_sound V115 = record { size = refl; colours = no_colours 240; missing = refl }

-- ---- digits, with room for so many pages

spells_from_read : (d : Dialect) (ds : List ℕ) (room : ℕ) (before : List ℕ) (pages : List Page) → AreCells d before → pages_at d ds room 1 0 before 0 ≡ Ok pages → SpellsFumen d before 0 pages ds × (length pages ≤ room)
spells_from_read d ds room before pages sound e = search (rules, (pages_from_read d ds room 1 0 before 0 pages), (all_stands ds), (spells_from_whole d before 0 pages))

read_from_spells : (d : Dialect) (ds : List ℕ) (room : ℕ) (before : List ℕ) (pages : List Page) → AreCells d before → SpellsFumen d before 0 pages ds → length pages ≤ room → pages_at d ds room 1 0 before 0 ≡ Ok pages
unfolding with_front
read_from_spells d ds room before pages sound spells few =
    let whole = whole_from_spells d before 0 pages ds spells in
    let stand : PagesStand d ds 0 before 0 pages (length ds) whole.0 0 = record { text = ds; stands = stands_all ds; spells = whole.1 } in
    let left = room - length pages in
    read_whole d ds pages left room 1 (length pages + 1) 0 before 0 (length ds) whole.0 0 (omega arith) refl sound stand
    ∙ (ap (λ (r : Result (List Page) FumenFault). with_front pages r) (turn_ended d ds left (length pages + 1) (length ds) whole.0 0 (is_due-ended ds (length ds) 0 (omega arith) refl))
    ∙ ap (λ (x : List Page). Ok x) (append-nil pages))

-- ---- texts

abbrev with_dialect : Dialect → List Page → Result (Dialect × List Page) FumenFault
with_dialect d pages = Ok (d, pages)

done_text : (x y : Dialect × List Page) → ◌≡◌ {A = Result (Dialect × List Page) FumenFault} (Ok x) (Ok y) → x ≡ y
done_text x y e = cc

framed_read : (text : List ℕ) (framed : Option (Dialect × List ℕ)) (x : Dialect × List Page) → digits_in text ≡ framed → framed_pages framed ≡ Ok x → ReadsAs text x.0 x.1
framed_read text None x is e = absurd cc
framed_read text (Some (d, ds)) x is e =
    search (rules, (bind_ok (pages_of_digits d ds) (λ pages. with_dialect d pages) x e), done_text, (spells_from_read d ds most_pages empty_page), (empty_sound d))

pub text_from_read : (text : List ℕ) (x : Dialect × List Page) → text_pages text ≡ Ok x → ReadsAs text x.0 x.1
text_from_read text x e = framed_read text (digits_in text) x refl e

pub read_from_text : (text : List ℕ) (d : Dialect) (pages : List Page) → ReadsAs text d pages → text_pages text ≡ Ok (d, pages)
read_from_text text d pages reads = search (rules, ok_bind, read_from_spells, empty_sound)

same_fault : (f g : FumenFault) → ◌≡◌ {A = Result (Dialect × List Page) FumenFault} (Err f) (Err g) → g ≡ f
same_fault f g e = cc

met_in_digits : (d : Dialect) (ds : List ℕ) (f : FumenFault) → MeetsFault d ds most_pages 1 0 empty_page 0 f → IsDigitsFault d ds f
met_in_digits d ds f m = search rules

framed_fault : (text : List ℕ) (framed : Option (Dialect × List ℕ)) (f : FumenFault) → digits_in text ≡ framed → framed_pages framed ≡ Err f → IsTextFault text f
framed_fault text None f is e = inl (is, same_fault NoFumen f e)
framed_fault text (Some (d, ds)) f is e = search (rules, bind_err, met_in_digits, pages_fault_from_read, empty_sound)

pub text_fault_from_read : (text : List ℕ) (f : FumenFault) → text_pages text ≡ Err f → IsTextFault text f
text_fault_from_read text f e = framed_fault text (digits_in text) f refl e

pub read_from_text_fault : (text : List ℕ) (f : FumenFault) → IsTextFault text f → text_pages text ≡ Err f
read_from_text_fault text f (inl none) = ap framed_pages none.0 ∙ ap (λ (x : FumenFault). Err x) (sym none.1)
read_from_text_fault text f (inr bad) =
    search (rules, (err_bind (pages_of_digits bad.0 bad.1) (λ pages. with_dialect bad.0 pages) f), (read_from_fault bad.0 bad.1 most_pages 1 0 empty_page 0 f (empty_sound bad.0)))

-- ---- one reading of each text

-- a text reads as some pages, or has a fault
pub text_is_read : (text : List ℕ) (read : Result (Dialect × List Page) FumenFault) → text_pages text ≡ read → ((d : Dialect) × (pages : List Page) × ReadsAs text d pages) ⊎ ((f : FumenFault) × IsTextFault text f)
text_is_read text (Ok x) e = inl (x.0, x.1, text_from_read text x e)
text_is_read text (Err f) e = inr (f, text_fault_from_read text f e)

pub one_list : (text : List ℕ) (d : Dialect) (pages : List Page) (other : Dialect) (others : List Page) → ReadsAs text d pages → ReadsAs text other others → (d ≡ other) × (pages ≡ others)
one_list text d pages other others one two =
    search (rules, (done_text (d, pages) (other, others) (sym (read_from_text text d pages one) ∙ read_from_text text other others two)))

pub one_fault : (text : List ℕ) (f g : FumenFault) → IsTextFault text f → IsTextFault text g → f ≡ g
one_fault text f g one two =
    same_fault g f (sym (read_from_text_fault text g two) ∙ read_from_text_fault text f one)

pub never_both : (text : List ℕ) (d : Dialect) (pages : List Page) (f : FumenFault) → ReadsAs text d pages → IsTextFault text f → ⊥
never_both text d pages f one two =
    absurd (let never = sym (read_from_text text d pages one) ∙ read_from_text_fault text f two in cc)
