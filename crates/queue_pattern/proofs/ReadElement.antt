-- One element of a pattern text at a time.
use Rattle.std.proofs.Common.{◌≡◌, ◌≢◌, ◌<◌, ◌≤◌, ◌+◌, ℕ, List, length, get_or, refl, ◌∙◌, Result, true, false, Option, rules}
use Rattle.std.proofs.lemmas.Bool.Decides.{nat_tests}
use Rattle.srs.specs.declared.piece.Piece.{Piece}
use Rattle.srs.specs.Piece.{piece_with_letter}
use Rattle.queue_pattern.specs.declared.element.Element.{Element}
use Rattle.queue_pattern.specs.declared.fault.PatternFault.{PatternFault}
use Rattle.queue_pattern.specs.Grammar.{TextPosition, outside, opened, closed, read_at, letter_step, is_gap, all_set}
use Rattle.queue_pattern.specs.Reading.{IsNextElement}
use Rattle.queue_pattern.proofs.ReadStep.{read_step}

-- an element that is read from one position is read from another that goes on with it
pub element_from : (text : List ℕ) (from to : TextPosition) (place after : ℕ) (read : Result (Element × ℕ) PatternFault) → place ≤ after
    → read_at text from place ≡ read_at text to after → IsNextElement text to after read → IsNextElement text from place read
element_from text from to place after read le same next = search rules

pub read_star : (text : List ℕ) (place : ℕ) → place < length text → get_or text place 0 ≡ 42
    → read_at text outside place ≡ read_at text (closed place all_set) (place + 1)
read_star text place within byte = read_step text outside place within ∙ rw byte refl

pub read_open : (text : List ℕ) (place : ℕ) → place < length text → get_or text place 0 ≡ 91
    → read_at text outside place ≡ read_at text (opened place) (place + 1)
read_open text place within byte = read_step text outside place within ∙ rw byte refl

-- any other byte that is no gap is a piece's letter, or a fault
pub read_letter : (text : List ℕ) (place : ℕ) (letter : Option Piece) → place < length text → is_gap (get_or text place 0) ≡ false
    → get_or text place 0 ≢ 42 → get_or text place 0 ≢ 91 → letter ≡ piece_with_letter (get_or text place 0)
    → read_at text outside place ≡ letter_step place letter (λ next. read_at text next (place + 1))
read_letter text place letter within no_gap star bracket is = search (rules, read_step, nat_tests)

-- a gap is passed over
pub read_gap : (text : List ℕ) (place : ℕ) → place < length text → is_gap (get_or text place 0) ≡ true
    → read_at text outside place ≡ read_at text outside (place + 1)
read_gap text place within gap = read_step text outside place within ∙ rw gap refl
