-- One byte of a pattern text at a time.
use Rattle.std.proofs.Common.{◌≡◌, ◌≢◌, ◌<◌, ◌≤◌, ◌+◌, ◌-◌, ◌⊎◌, inl, inr, ℕ, List, length, get_or, refl, ◌∙◌, add-one, drop-cons, arith, Err, subst, rules}
use Rattle.std.proofs.Math.Seq.{drop-length}
use Rattle.std.proofs.lemmas.Bool.Decides.{nat_tests}
use Rattle.std.proofs.lemmas.Bool.{cases_lt}
use Rattle.std.proofs.lemmas.List.{get_or_past}
use Rattle.queue_pattern.specs.declared.fault.PatternFault.TheVariants.{Unexpected}
use Rattle.queue_pattern.specs.Queues.{pieces_in}
use Rattle.queue_pattern.specs.Grammar.{TextPosition, Elements, outside, closed, choosing, position_step, end, elements_from, read_at, choice, before, closed_step, choosing_step, outside_step}

-- a byte is left: what it does, and then what the text goes on with from the next place
pub read_step : (text : List ℕ) (position : TextPosition) (place : ℕ) → place < length text
    → read_at text position place ≡ position_step position place (get_or text place 0) (λ next. read_at text next (place + 1))
unfolding elements_from
read_step text position place within = rw (drop-cons text place 0, add-one) refl

-- no byte is left
pub read_end : (text : List ℕ) (position : TextPosition) → read_at text position (length text) ≡ end position (length text)
unfolding elements_from
read_end text position = rw drop-length refl

-- a byte that is not 0 lies in the text
pub within_text : (text : List ℕ) (place byte : ℕ) → get_or text place 0 ≡ byte → 0 < byte → place < length text
within_text text place byte read some = elim (cases_lt place (length text)) [ inl within ↦ within | inr past ↦ absurd (omega (arith, get_or_past text place 0 past)) ]

pub closed_bang : (text : List ℕ) (start set place : ℕ) → get_or text place 0 ≡ 33
    → read_at text (closed start set) place ≡ before (choice start set (length (pieces_in set))) (read_at text outside (place + 1))
closed_bang text start set place byte = read_step text (closed start set) place (within_text text place 33 byte (omega arith)) ∙ rw byte refl

pub closed_choosing : (text : List ℕ) (start set place mark : ℕ) → get_or text place 0 ≡ mark → (mark ≡ 112) ⊎ (mark ≡ 80)
    → read_at text (closed start set) place ≡ read_at text (choosing start set) (place + 1)
closed_choosing text start set place mark byte (inl small) = read_step text (closed start set) place (within_text text place 112 (byte ∙ small) (omega arith)) ∙ rw (byte ∙ small) refl
closed_choosing text start set place mark byte (inr capital) = read_step text (closed start set) place (within_text text place 80 (byte ∙ capital) (omega arith)) ∙ rw (byte ∙ capital) refl

pub choosing_digit : (text : List ℕ) (start set place digit : ℕ) → get_or text place 0 ≡ digit → 49 ≤ digit → digit ≤ 57
    → read_at text (choosing start set) place ≡ before (choice start set (digit - 48)) (read_at text outside (place + 1))
choosing_digit text start set place digit byte low high =
    read_step text (choosing start set) place (within_text text place digit byte (omega arith)) ∙ rw byte (grind (arith, nat_tests))

not_a_digit : (start set place digit : ℕ) → (digit < 49) ⊎ (57 < digit) → (rest : TextPosition → Elements)
    → choosing_step start set place digit rest ≡ Err (Unexpected place)
not_a_digit start set place digit rest other = search (rules, nat_tests)

pub choosing_other : (text : List ℕ) (start set place digit : ℕ) → place ≤ length text → get_or text place 0 ≡ digit → (digit < 49) ⊎ (57 < digit)
    → read_at text (choosing start set) place ≡ Err (Unexpected place)
choosing_other text start set place digit within byte other = elim (cases_lt place (length text)) [
  | inl inside ↦ read_step text (choosing start set) place inside ∙ rw byte (not_a_digit start set place digit other (λ next. read_at text next (place + 1)))
  | inr past ↦ let at_end : length text ≡ place = omega arith in
      subst (λ k. read_at text (choosing start set) k ≡ Err (Unexpected k)) at_end (read_end text (choosing start set))
]

no_mark : (start set place mark : ℕ) → mark ≢ 33 → mark ≢ 112 → mark ≢ 80 → (rest : TextPosition → Elements)
    → closed_step start set place mark rest ≡ before (choice start set 1) (outside_step place mark rest)
no_mark start set place mark bang small capital rest = grind (arith, nat_tests)

pub closed_other : (text : List ℕ) (start set place mark : ℕ) → place ≤ length text → get_or text place 0 ≡ mark → mark ≢ 33 → mark ≢ 112 → mark ≢ 80
    → read_at text (closed start set) place ≡ before (choice start set 1) (read_at text outside place)
closed_other text start set place mark within byte bang small capital = elim (cases_lt place (length text)) [
  | inl inside ↦
      search (rules, outside, read_step, closed, no_mark)
  | inr past ↦ let at_end : length text ≡ place = omega arith in
      search (rules, closed, outside, read_end)
]
