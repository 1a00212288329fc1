-- A rows text has no fault exactly where it is of the form.
use Rattle.std.proofs.Common.{◌≡◌, ℕ, ◌+◌, ◌<◌, ◌≤◌, true, false, ◌==◌, Some, None, List, [], ◌∷◌, length, refl, subst, ◌∙◌, ◌⊎◌, inl, inr, arith, All, rules}
use Rattle.std.specs.List.{slice_split, onto_first}
use Rattle.std.proofs.lemmas.Bool.{cases_Bool, eqb-true, eqb-false, ne_eqb, eq-eqb}
use Rattle.std.proofs.lemmas.List.Elements.{All-nil, All-cons, All-head, All-tail}
use Rattle.std.proofs.lemmas.List.Splits.{slice_split-cons_yes, slice_split-cons_no}
use Rattle.well.specs.declared.rows.RowsFault.TheVariants.{BadRowChar, BadRowLength, TooManyRows}
use Rattle.well.specs.Rows.{is_slash, is_row_char, IsRow, IsRowsText, fault_from, rows_fault}
use Rattle.well.proofs.RowsLemmas.{has_row}

abbrev IsRowChar : ℕ → Type 0
IsRowChar byte = is_row_char byte ≡ true

-- the rest of a row of which so many characters stand before, and the rows that follow it, up to row 23
abbrev Fits : ℕ → ℕ → List (List ℕ) → Type 0
Fits row n [] = ⊥
Fits row n (part ∷ parts) = (length part + n ≡ 10) × All IsRowChar part × (row + length parts ≤ 23) × All IsRow parts

-- what is due at a byte
pub slash_goes_on : (row n place byte : ℕ) (bytes : List ℕ) → is_slash byte ≡ true → (n == 10) ≡ true → (row == 23) ≡ false
    → fault_from row n place (byte ∷ bytes) ≡ fault_from (row + 1) 0 (place + 1) bytes
unfolding fault_from
slash_goes_on row n place byte bytes slash ten more = rw (slash, ten, more) refl

pub slash_short : (row n place byte : ℕ) (bytes : List ℕ) → is_slash byte ≡ true → (n == 10) ≡ false
    → fault_from row n place (byte ∷ bytes) ≡ Some (BadRowLength row)
unfolding fault_from
slash_short row n place byte bytes slash short = rw (slash, short) refl

pub slash_last : (row n place byte : ℕ) (bytes : List ℕ) → is_slash byte ≡ true → (n == 10) ≡ true → (row == 23) ≡ true
    → fault_from row n place (byte ∷ bytes) ≡ Some TooManyRows
unfolding fault_from
slash_last row n place byte bytes slash ten last = rw (slash, ten, last) refl

pub character_goes_on : (row n place byte : ℕ) (bytes : List ℕ) → is_slash byte ≡ false → IsRowChar byte → (n == 10) ≡ false
    → fault_from row n place (byte ∷ bytes) ≡ fault_from row (n + 1) (place + 1) bytes
unfolding fault_from
character_goes_on row n place byte bytes other character short = rw (other, character, short) refl

pub character_past : (row n place byte : ℕ) (bytes : List ℕ) → is_slash byte ≡ false → IsRowChar byte → (n == 10) ≡ true
    → fault_from row n place (byte ∷ bytes) ≡ Some (BadRowLength row)
unfolding fault_from
character_past row n place byte bytes other character ten = rw (other, character, ten) refl

pub character_bad : (row n place byte : ℕ) (bytes : List ℕ) → is_slash byte ≡ false → is_row_char byte ≡ false
    → fault_from row n place (byte ∷ bytes) ≡ Some (BadRowChar place)
unfolding fault_from
character_bad row n place byte bytes other bad = rw (other, bad) refl

-- the parts before and after a byte was read
after_slash : (row n : ℕ) (parts : List (List ℕ)) → n ≡ 10 → Fits (row + 1) 0 parts → Fits row n ([] ∷ parts)
after_slash row n parts ten fits = search (rules, All-nil, All-cons)

before_slash : (row n : ℕ) (parts : List (List ℕ)) → 0 < length parts → Fits row n ([] ∷ parts) → Fits (row + 1) 0 parts
before_slash row n [] some fits = absurd (omega (arith, some))
before_slash row n (part ∷ parts) some fits =
    let first = All-head IsRow part parts fits.3 in
    (omega (arith, first.ten), first.characters, omega (arith, fits.2), All-tail IsRow part parts fits.3)

after_character : (row n byte : ℕ) (parts : List (List ℕ)) → IsRowChar byte → Fits row (n + 1) parts
    → Fits row n (onto_first byte parts)
after_character row n byte parts character fits = search (rules, All-cons)

record FitsBefore (row n byte : ℕ) (parts : List (List ℕ)) : Type 0 where
  character : IsRowChar byte
  short : n < 10
  fits : Fits row (n + 1) parts

before_character : (row n byte : ℕ) (parts : List (List ℕ)) → 0 < length parts → Fits row n (onto_first byte parts)
    → FitsBefore row n byte parts
before_character row n byte [] some fits = absurd (omega (arith, some))
before_character row n byte (part ∷ parts) some fits = record {
  character = All-head IsRowChar byte part fits.1;
  short = omega (arith, fits.0);
  fits = (omega (arith, fits.0), All-tail IsRowChar byte part fits.1, fits.2, fits.3);
}

-- what is claimed of the bytes behind a byte
abbrev AreFitting : List ℕ → Type 0
AreFitting bytes = (row n place : ℕ) → row ≤ 23 → fault_from row n place bytes ≡ None
    → Fits row n (slice_split is_slash bytes)

at_slash : (row n place byte : ℕ) (bytes : List ℕ) → AreFitting bytes → row ≤ 23 → fault_from row n place (byte ∷ bytes) ≡ None
    → is_slash byte ≡ true → ((n == 10) ≡ true) ⊎ ((n == 10) ≡ false) → ((row == 23) ≡ true) ⊎ ((row == 23) ≡ false)
    → Fits row n ([] ∷ slice_split is_slash bytes)
at_slash row n place byte bytes later low none slash h9 last =
    search (rules, slash_last, after_slash, eqb-true, eqb-false, slash_goes_on, slash_short)

at_character : (row n place byte : ℕ) (bytes : List ℕ) → AreFitting bytes → row ≤ 23
    → fault_from row n place (byte ∷ bytes) ≡ None → is_slash byte ≡ false
    → (is_row_char byte ≡ true) ⊎ (is_row_char byte ≡ false) → ((n == 10) ≡ true) ⊎ ((n == 10) ≡ false)
    → Fits row n (onto_first byte (slice_split is_slash bytes))
at_character row n place byte bytes later low none other h9 size =
    search (rules, character_past, after_character, character_goes_on, character_bad)

at_end : (row n place : ℕ) → row ≤ 23 → fault_from row n place [] ≡ None → ((n == 10) ≡ true) ⊎ ((n == 10) ≡ false)
    → Fits row n ([] ∷ [])
unfolding fault_from
at_end row n place low none h5 = search (rules, eqb-true, All-nil)

fits-from_none : (bytes : List ℕ) → AreFitting bytes
fits-from_none [] row n place low none = at_end row n place low none (cases_Bool (n == 10))
fits-from_none (byte ∷ bytes) row n place low none =
    search (rules, cases_Bool, slice_split-cons_yes, at_slash, slice_split-cons_no, at_character, (fits-from_none bytes))

none-from_fits : (bytes : List ℕ) (row n place : ℕ) → Fits row n (slice_split is_slash bytes) → fault_from row n place bytes ≡ None
unfolding fault_from
none-from_fits [] row n place fits = let ten : (n == 10) ≡ true = eq-eqb n 10 (omega (arith, fits.0)) in rw ten refl
none-from_fits (byte ∷ bytes) row n place fits = elim (cases_Bool (is_slash byte)) [
  | inl slash ↦
      let cut : Fits row n ([] ∷ slice_split is_slash bytes) = subst (Fits row n) (slice_split-cons_yes is_slash byte bytes slash) fits in
      let later = before_slash row n (slice_split is_slash bytes) (has_row bytes) cut in
      slash_goes_on row n place byte bytes slash (eq-eqb n 10 (omega (arith, cut.0)))
      (ne_eqb row 23 (λ last. omega (arith, last, cut.2, has_row bytes))) ∙ none-from_fits bytes (row + 1) 0 (place + 1) later
  | inr other ↦
      search (rules, slice_split-cons_no, before_character, has_row, character_goes_on, ne_eqb, (none-from_fits bytes row (n + 1) (place + 1)))
]

rows-from_fits : (rows : List (List ℕ)) → Fits 1 0 rows → (length rows ≤ 23) × All IsRow rows
rows-from_fits rows fits = search (rules, All-cons)

fits-from_rows : (rows : List (List ℕ)) → 0 < length rows → (length rows ≤ 23) × All IsRow rows → Fits 1 0 rows
fits-from_rows [] some form = absurd (omega (arith, some))
fits-from_rows (row ∷ rows) some form =
    let first = All-head IsRow row rows form.1 in
    (omega (arith, first.ten), first.characters, omega (arith, form.0), All-tail IsRow row rows form.1)

pub rows-from_none : (text : List ℕ) → rows_fault text ≡ None → IsRowsText text
unfolding rows_fault
rows-from_none text none = search (rules, rows-from_fits, fits-from_none)

pub none-from_rows : (text : List ℕ) → IsRowsText text → rows_fault text ≡ None
unfolding rows_fault
none-from_rows text form = search (rules, none-from_fits, fits-from_rows, has_row)
