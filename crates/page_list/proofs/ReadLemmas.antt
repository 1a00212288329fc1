-- Rows that are read letter by letter.
use Rattle.std.proofs.Common.{◌≡◌, ℕ, ◌+◌, ◌<◌, ◌≤◌, ◌==◌, true, false, List, [], ◌∷◌, ◌++◌, length, drop, get_or, Option, Some, None, refl, ap, sym, ◌∙◌, append_assoc, append-nil, arith, rules}
use Rattle.std.proofs.lemmas.List.{at_drop_more, at_drop_all}
use Rattle.std.proofs.lemmas.Grind.{common_steps}
use Rattle.page_list.specs.CellsReading.{colour_in, rows_at, with_front}

-- the rows from a place on, and the letter there
at : (front text : List ℕ) (place column : ℕ) → place < length text
    → with_front front (rows_at column (drop place text)) ≡ with_front front (rows_at column (get_or text place 0 ∷ drop (place + 1) text))
at front text place column within = at_drop_more (λ rest. with_front front (rows_at column rest)) text place 0 within

-- colours in front of colours
pub fronts : (front more : List ℕ) (behind : Option (List ℕ)) → with_front front (with_front more behind) ≡ with_front (front ++ more) behind
fronts front more behind = search (rules, append_assoc)

slash : (front rest : List ℕ) (column byte : ℕ) → (column == 10) ≡ true → (byte == 47) ≡ true → with_front front (rows_at column (byte ∷ rest)) ≡ with_front front (rows_at 0 rest)
unfolding rows_at
slash front rest column byte ends is = rw (ends, is) refl

no_slash : (front rest : List ℕ) (column byte : ℕ) → (column == 10) ≡ true → (byte == 47) ≡ false → with_front front (rows_at column (byte ∷ rest)) ≡ None
unfolding rows_at
no_slash front rest column byte ends is = rw (ends, is) refl

letter : (front rest : List ℕ) (column byte colour : ℕ) → (column == 10) ≡ false → colour_in byte ≡ Some colour
    → with_front front (rows_at column (byte ∷ rest)) ≡ with_front (front ++ colour ∷ []) (rows_at (column + 1) rest)
unfolding rows_at
letter front rest column byte colour goes is = rw (goes, is) (fronts front (colour ∷ []) (rows_at (column + 1) rest))

no_letter : (front rest : List ℕ) (column byte : ℕ) → (column == 10) ≡ false → colour_in byte ≡ None → with_front front (rows_at column (byte ∷ rest)) ≡ None
unfolding rows_at
no_letter front rest column byte goes is = rw (goes, is) refl

-- a `/` after ten letters
pub slash_read : (front text : List ℕ) (place column : ℕ) (all : Option (List ℕ)) → place < length text → (column == 10) ≡ true → (get_or text place 0 == 47) ≡ true
    → with_front front (rows_at column (drop place text)) ≡ all → with_front front (rows_at 0 (drop (place + 1) text)) ≡ all
slash_read front text place column all within ends is so_far = sym (slash front (drop (place + 1) text) column (get_or text place 0) ends is) ∙ sym (at front text place column within) ∙ so_far

-- another byte after ten letters
pub slash_missing : (front text : List ℕ) (place column : ℕ) (all : Option (List ℕ)) → place < length text → (column == 10) ≡ true → (get_or text place 0 == 47) ≡ false
    → with_front front (rows_at column (drop place text)) ≡ all → all ≡ None
slash_missing front text place column all within ends is so_far = sym so_far ∙ at front text place column within ∙ no_slash front (drop (place + 1) text) column (get_or text place 0) ends is

-- a letter of a row
pub letter_read : (front text : List ℕ) (place column colour : ℕ) (all : Option (List ℕ)) → place < length text → (column == 10) ≡ false → colour_in (get_or text place 0) ≡ Some colour
    → with_front front (rows_at column (drop place text)) ≡ all → with_front (front ++ colour ∷ []) (rows_at (column + 1) (drop (place + 1) text)) ≡ all
letter_read front text place column colour all within goes is so_far =
    sym (letter front (drop (place + 1) text) column (get_or text place 0) colour goes is) ∙ sym (at front text place column within) ∙ so_far

-- another byte in a row
pub letter_missing : (front text : List ℕ) (place column : ℕ) (all : Option (List ℕ)) → place < length text → (column == 10) ≡ false → colour_in (get_or text place 0) ≡ None
    → with_front front (rows_at column (drop place text)) ≡ all → all ≡ None
letter_missing front text place column all within goes is so_far = sym so_far ∙ at front text place column within ∙ no_letter front (drop (place + 1) text) column (get_or text place 0) goes is

ends_whole : (front : List ℕ) (column : ℕ) → (column == 10) ≡ true → with_front front (rows_at column []) ≡ Some front
unfolding rows_at
ends_whole front column ends = rw (ends) (ap Some (append-nil front))

ends_short : (front : List ℕ) (column : ℕ) → (column == 10) ≡ false → with_front front (rows_at column []) ≡ None
unfolding rows_at
ends_short front column goes = rw (goes) refl

-- the text ends after ten letters
pub end_read : (front text : List ℕ) (place column : ℕ) (all : Option (List ℕ)) → length text ≤ place → (column == 10) ≡ true
    → with_front front (rows_at column (drop place text)) ≡ all → all ≡ Some front
end_read front text place column all past ends so_far = grind (arith, common_steps, at_drop_all, ends_whole)

-- the text ends within a row
pub end_missing : (front text : List ℕ) (place column : ℕ) (all : Option (List ℕ)) → length text ≤ place → (column == 10) ≡ false
    → with_front front (rows_at column (drop place text)) ≡ all → all ≡ None
end_missing front text place column all past goes so_far = grind (arith, common_steps, at_drop_all, ends_short)
