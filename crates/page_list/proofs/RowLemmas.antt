-- The rows that are left from a row on, divided by `/`.
use Rattle.std.proofs.Common.{◌≡◌, ℕ, ◌+◌, ◌*◌, ◌<◌, List, [], ◌∷◌, ◌++◌, take, drop, inl, inr, append_assoc, append-nil, sym, ◌∙◌, arith}
use Rattle.std.specs.List.{join_with_byte}
use Rattle.std.proofs.lemmas.Bool.{cases_lt, lt-ltb}
use Rattle.fumen_pages.proofs.CallerLemmas.{rows_left, rows_left-more, rows_left-end}
use Rattle.page_list.specs.PrintedLine.{divided_row}

-- a row, the `/` after it, and the rows behind it
pub joined-more : (letters : List ℕ) (index : ℕ) → index < 23
    → join_with_byte 47 (rows_left letters index) ≡ divided_row letters index ++ join_with_byte 47 (rows_left letters (index + 1))
joined-more letters index within = elim (cases_lt index 22) [
  | inl more ↦
      let rest = rows_left-more letters (index + 1) (omega arith) in
      rw (rows_left-more letters index within, rest, lt-ltb index 22 more) (sym (append_assoc (take 10 (drop (10 * index) letters)) (47 ∷ []) _))
  | inr last ↦
      let is : index ≡ 22 = omega arith in
      let last_row = take 10 (drop 220 letters) in
      rw (is, rows_left-more letters 22 (omega arith), rows_left-end letters) (sym (append-nil (last_row ++ []) ∙ append-nil last_row))
]
