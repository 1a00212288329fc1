-- Lines that are read one after the other.
use Rattle.std.proofs.Common.{◌≡◌, ℕ, ◌+◌, ◌<◌, ◌≤◌, true, false, List, [], ◌∷◌, ◌++◌, length, Ok, Err, refl, ap, ◌∙◌, arith, append_assoc, append-nil, length-append, rules}
use Rattle.pc_outside.specs.declared.answers.Refused.{Refused}
use Rattle.pc_outside.specs.declared.answers.Refused.TheVariants as refused
use Rattle.srs.specs.declared.placement.Placement.{Placement}
use Rattle.fumen_digits.specs.ReadResults.{IsRefusal}
use Rattle.fumen_digits.specs.Reading.{◌>>=◌}
use Rattle.page_list.specs.ListReading.{first_line, lines_of}
use Rattle.page_list.proofs.CallerLemmas.{lines-more, none-left}
use Rattle.pc_faults.specs.declared.cover_fault.CoverFault.{CoverFault}
use Rattle.pc_cover.specs.Given.{Given, given_from, given_in, is_tail, numbered_sequence}
use Rattle.pc_cover.specs.LineSteps.{behind_front, ReadsLine, RefusesLine}

pub front-none : (read : Given) → behind_front [] read ≡ read
front-none read = search rules

pub given-passed : (needed number count : ℕ) (line : List ℕ) (lines : List (List ℕ)) → is_tail line ≡ true → given_from needed number count (line ∷ lines) ≡ given_from needed (number + 1) count lines
unfolding given_from
given-passed needed number count line lines tail = rw (tail) refl

pub given-taken : (needed number count : ℕ) (line : List ℕ) (lines : List (List ℕ)) (sequence : List Placement) → is_tail line ≡ false → numbered_sequence needed number count line ≡ Ok sequence
    → given_from needed number count (line ∷ lines) ≡ (given_from needed (number + 1) (count + 1) lines >>= (λ sequences. Ok (sequence ∷ sequences)))
unfolding given_from
given-taken needed number count line lines sequence taken read = rw (taken, read) refl

pub given-refused : (needed number count : ℕ) (line : List ℕ) (lines : List (List ℕ)) (fault : CoverFault) → is_tail line ≡ false → numbered_sequence needed number count line ≡ Err fault
    → given_from needed number count (line ∷ lines) ≡ Err fault
unfolding given_from
given-refused needed number count line lines fault taken read = rw (taken, read) refl

in_front : (front : List (List Placement)) (sequence : List Placement) (read : Given) → behind_front front (read >>= (λ sequences. Ok (sequence ∷ sequences))) ≡ behind_front (front ++ sequence ∷ []) read
in_front front sequence read = search (rules, append_assoc)

pub line-passed : (needed number : ℕ) (line : List ℕ) (before : List (List Placement)) → is_tail line ≡ true → ReadsLine needed number line before before
line-passed needed number line before tail = record { each = λ lines. ap (behind_front before) (given-passed needed number (length before) line lines tail) }

pub line-taken : (needed number count : ℕ) (line : List ℕ) (before after : List (List Placement)) (sequence : List Placement) → is_tail line ≡ false → count ≡ length before
    → numbered_sequence needed number count line ≡ Ok sequence → after ≡ before ++ sequence ∷ [] → ReadsLine needed number line before after
unfolding given_from
line-taken needed number count line before after sequence taken counted read is =
    search (rules, length-append, given-taken, in_front)

pub line-refused : (needed number count : ℕ) (line : List ℕ) (before : List (List Placement)) (fault : CoverFault) → is_tail line ≡ false → count ≡ length before
    → numbered_sequence needed number count line ≡ Err fault → RefusesLine needed number line before (refused.Fault fault)
line-refused needed number count line before fault taken counted read = search (rules, given-refused)

-- the sequences so far, and the text that is left, make the whole
pub record Reading (needed : ℕ) (text : List ℕ) (so_far : List (List Placement)) (number : ℕ) (rest : List ℕ) : Type 0 where
  pub whole : behind_front so_far (given_from needed (number + 1) (length so_far) (lines_of rest)) ≡ given_in needed text
  pub short : number + length rest ≤ length text

pub reading-starts : (needed : ℕ) (text : List ℕ) → Reading needed text [] 0 text
unfolding given_in
reading-starts needed text = record { whole = front-none (given_from needed 1 0 (lines_of text)); short = omega arith }

module _ (needed : ℕ) (text : List ℕ) (so_far : List (List Placement)) (number : ℕ) (rest line behind : List ℕ) (reading : Reading needed text so_far number rest) (some : 0 < length rest) (cut : first_line rest ≡ (line, behind)) where
  split : lines_of rest ≡ line ∷ lines_of behind
  split = lines-more rest some ∙ ap (λ (l : List ℕ × List ℕ). l.0 ∷ lines_of l.1) cut

  pub reading-goes_on : (after : List (List Placement)) → ReadsLine needed (number + 1) line so_far after → length behind < length rest → Reading needed text after (number + 1) behind
  reading-goes_on after goes shorter = search (rules, (goes.each (lines_of behind)), split)

  pub reading-stops : (fault : CoverFault) → RefusesLine needed (number + 1) line so_far (refused.Fault fault) → given_in needed text ≡ Err fault
  reading-stops fault stops = search (rules, split)

  pub reading-refused : (r : Refused CoverFault) → RefusesLine needed (number + 1) line so_far r → IsRefusal (λ fault. fault) r (given_in needed text)
  reading-refused (refused.Fault fault) stops = reading-stops fault stops
  reading-refused refused.NoMemory stops = tt

pub reading-ends : (needed : ℕ) (text : List ℕ) (so_far : List (List Placement)) (number : ℕ) (rest : List ℕ) → Reading needed text so_far number rest → rest ≡ [] → given_in needed text ≡ Ok so_far
unfolding given_from
reading-ends needed text so_far number rest reading none = search (rules, none-left, append-nil)
