-- The first line of a text, as a relation and as it is read.
use Rattle.std.proofs.Common.{◌≡◌, ℕ, ◌-◌, ◌<◌, Bool, true, false, ◌==◌, ◌&&◌, nat_lt, List, [], ◌∷◌, ◌++◌, length, length-append, get_or, slice_index, take-append-drop, drop-cons, Some, None, refl, ap, sym, subst, ◌∙◌, ◌⊎◌, inl, inr, append_assoc, eqb-true, ltb-true, ltb-false, lt-ltb, true≢false, arith, rules}
use Rattle.std.proofs.Math.Seq.{get_or-append_seam}
use Rattle.std.proofs.lemmas.Bool.{cases_Bool, and_parts, and_from}
use Rattle.std.proofs.lemmas.List.{take_at, drop_all}
use Rattle.std.proofs.lemmas.List.Elements.{All-nil, All-cons, All-append, All-take}
use Rattle.std.proofs.lemmas.List.Sums.{fails_before_first}
use Rattle.std.proofs.lemmas.Grind.{common_steps}
use Rattle.page_list.specs.CellsReading.{cut_at}
use Rattle.page_list.specs.ListReading.{without_return, first_line}
use Rattle.page_list.specs.LineSpelling.{HasNoNewline, EndsWithoutReturn, IsFirstLine, newline, return_newline, unended}
use Rattle.page_list.proofs.CutLaws.{cut_front, cut_is}

-- ---- the `\r` at the end of a line

abbrev ends_with_return : List ℕ → Bool
ends_with_return line = nat_lt 0 (length line) && slice_index line (length line - 1) == 13

-- the test at a line with a last byte
ends : (front : List ℕ) → ends_with_return (front ++ 13 ∷ []) ≡ true
ends front = grind (arith, common_steps, length-append, and_from, nat_lt, slice_index, lt-ltb, get_or-append_seam)

return_dropped : (front : List ℕ) → without_return (front ++ 13 ∷ []) ≡ front
unfolding without_return
return_dropped front = search (rules, length-append, ends, take_at)

-- a line that ends with `\r`, or one that stays as it is
abbrev IsEnd : List ℕ → Type 0
IsEnd line = ((front : List ℕ) × (line ≡ front ++ 13 ∷ [])) ⊎ (EndsWithoutReturn line × (without_return line ≡ line))

end_is : (line : List ℕ) → IsEnd line
unfolding without_return
end_is line =
    grind (arith, common_steps, cases_Bool, and_parts, nat_lt, slice_index, ltb-true, eqb-true, true≢false, ends, drop_all, take-append-drop, drop-cons)

stays : (line : List ℕ) → EndsWithoutReturn line → without_return line ≡ line
stays line without = search (rules, end_is)

-- ---- texts with no newline

-- a text is cut at a newline, or it has none
abbrev IsCutOrWhole : List ℕ → Type 0
IsCutOrWhole text = ((cut : List ℕ × List ℕ) × (cut_at 10 text ≡ Some cut)) ⊎ (HasNoNewline text × (cut_at 10 text ≡ None))

cut_or_whole : (text : List ℕ) → IsCutOrWhole text
unfolding cut_at
cut_or_whole text = search (rules, cases_Bool, nat_lt, fails_before_first, ltb-false)

uncut : (text : List ℕ) → HasNoNewline text → cut_at 10 text ≡ None
uncut text plain = elim (cut_or_whole text) [
  | inl found ↦ absurd (has found.0.0 found.0.1 (cut_is 10 text found.0 found.1).whole)
  | inr none ↦ none.1
] where
  has : (front behind : List ℕ) → text ≡ front ++ 10 ∷ behind → ⊥
  has front behind whole =
      let within : length front < length text = omega (arith, ap length whole, length-append front (10 ∷ behind)) in
      let here : get_or text (length front) 0 ≡ 10 = ap (λ (l : List ℕ). get_or l (length front) 0) whole ∙ get_or-append_seam front 10 behind 0 in
      true≢false (sym (ap (λ b. b == 10) here) ∙ plain (length front) 0 within)

-- ---- the first line

cut_line : (front behind : List ℕ) → HasNoNewline front → first_line (front ++ 10 ∷ behind) ≡ (without_return front, behind)
unfolding first_line
cut_line front behind plain = rw (cut_front 10 front behind plain) refl

whole_line : (text : List ℕ) → HasNoNewline text → first_line text ≡ (text, [])
unfolding first_line
whole_line text plain = rw (uncut text plain) refl

pub first_line_read : (text line behind : List ℕ) → IsFirstLine text line behind → first_line text ≡ (line, behind)
first_line_read text line behind (newline plain without) = cut_line line behind plain ∙ ap (λ (l : List ℕ). (l, behind)) (stays line without)
first_line_read text line behind (return_newline plain) =
    search (rules, (append_assoc line (13 ∷ []) (10 ∷ behind)), (cut_line (line ++ 13 ∷ []) behind), (All-append (λ byte. (byte == 10) ≡ false) line (13 ∷ []) plain), (return_dropped line), (All-cons (λ byte. (byte == 10) ≡ false) 13 [] refl (All-nil (λ byte. (byte == 10) ≡ false))))
first_line_read text line behind (unended plain some) = whole_line line plain

pub first_line_some : (text line behind : List ℕ) → IsFirstLine text line behind → 0 < length text
first_line_some text line behind first = search (rules, length-append)

-- a text with any byte has a first line
pub first_line_is : (text : List ℕ) → 0 < length text → IsFirstLine text (first_line text).0 (first_line text).1
first_line_is text some = elim (cut_or_whole text) [
  | inl found ↦ let cut = cut_is 10 text found.0 found.1 in at_cut found.0.0 found.0.1 cut.whole cut.lacks
  | inr none ↦ at (whole_line text none.0) (unended none.0 some)
] where
  at : {text line behind : List ℕ} → first_line text ≡ (line, behind) → IsFirstLine text line behind → IsFirstLine text (first_line text).0 (first_line text).1
  at {text = text} is first = subst (λ (l : List ℕ × List ℕ). IsFirstLine text l.0 l.1) (sym is) first

  at_cut : (front behind : List ℕ) → text ≡ front ++ 10 ∷ behind → HasNoNewline front → IsFirstLine text (first_line text).0 (first_line text).1
  at_cut front behind whole plain = elim (end_is front) [
    | inl returned ↦ subst (λ t. IsFirstLine t (first_line t).0 (first_line t).1) (sym (again returned.0 returned.1)) (at (first_line_read _ returned.0 behind (first returned.0 returned.1)) (first returned.0 returned.1))
    | inr without ↦ subst (λ t. IsFirstLine t (first_line t).0 (first_line t).1) (sym whole) (at (first_line_read (front ++ 10 ∷ behind) front behind (newline plain without.0)) (newline plain without.0))
  ] where
    again : (line : List ℕ) → front ≡ line ++ 13 ∷ [] → text ≡ line ++ 13 ∷ 10 ∷ behind
    again line is = whole ∙ ap (λ (l : List ℕ). l ++ 10 ∷ behind) is ∙ append_assoc line (13 ∷ []) (10 ∷ behind)

    first : (line : List ℕ) → front ≡ line ++ 13 ∷ [] → IsFirstLine (line ++ 13 ∷ 10 ∷ behind) line behind
    first line is = return_newline (subst HasNoNewline (take_at line (13 ∷ []) (length line) refl) (All-take (λ byte. (byte == 10) ≡ false) (length line) (line ++ 13 ∷ []) (subst HasNoNewline is plain)))
