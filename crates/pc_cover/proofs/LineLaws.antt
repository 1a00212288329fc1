-- Lines are read as what they spell, and the fault that is reported is that of the first line that spells nothing.
use Rattle.std.proofs.Common.{◌≡◌, ◌↔◌, ℕ, zero, suc, ◌+◌, ◌<◌, ◌≤◌, true, false, nat_le, nat_lt, List, [], ◌∷◌, ◌++◌, length, take, drop, get_or, Result, Ok, Err, refl, sym, ap, subst, ◌∙◌, inl, inr, arith, lt-ltb, le-ltb, ltb-true, ltb-false, rules}
use Rattle.std.specs.Char.{is_ascii_digit}
use Rattle.std.specs.List.{list_all}
use Rattle.std.specs.Cmp.Lexicographic.{bytes_decides}
use Rattle.std.proofs.lemmas.Bool.{cases_Bool, and_parts, and_from, both_ways, le-leb, leb-true, or_cases, or_left, or_right}
use Rattle.std.proofs.lemmas.List.{take-append-drop}
use Rattle.srs.specs.declared.placement.Placement.{Placement}
use Rattle.fumen_digits.specs.Reading.{◌>>=◌}
use Rattle.page_list.specs.ListReading.{lines_of}
use Rattle.sequence_text.specs.Form.{Spells}
use Rattle.sequence_text.specs.Reading.{sequence_in}
use Rattle.sequence_text.proofs.CallerLemmas.{read_is_spelled, spelled_is_read}
use Rattle.pc_faults.specs.declared.cover_fault.CoverFault.{CoverFault}
use Rattle.pc_faults.specs.declared.cover_fault.CoverKind.{CoverKind}
use Rattle.pc_faults.specs.declared.cover_fault.CoverKind.TheVariants.{BadSequence}
use Rattle.pc_cover.specs.Given.{Given, fault_in_line, given_from, given_in, is_count, is_counted, is_tail, read_in_line, numbered_sequence}
use Rattle.pc_cover.specs.Spelling.{IsCount, IsFaultOfLine, IsGivenFault, IsName, IsTail, SpellsGiven, SpellsLines, none, passed, more}
use Rattle.pc_cover.proofs.GivenLemmas.{given-passed, given-taken, given-refused}

-- ---- lines that are passed over

abbrev IsDigit : ℕ → Type 0
IsDigit byte = (48 ≤ byte) × (byte ≤ 57)

digit-within : (byte : ℕ) → is_ascii_digit byte ≡ true → IsDigit byte
digit-within byte digit = let parts = and_parts (nat_le 48 byte) (nat_le byte 57) digit in (leb-true 48 byte parts.0, leb-true byte 57 parts.1)

within-digit : (byte : ℕ) → IsDigit byte → is_ascii_digit byte ≡ true
within-digit byte within = and_from (nat_le 48 byte) (nat_le byte 57) (le-leb 48 byte within.0) (le-leb byte 57 within.1)

each-digit : (text : List ℕ) → list_all is_ascii_digit text ≡ true → (k d : ℕ) → k < length text → IsDigit (get_or text k d)
each-digit [] all k d within = absurd (omega arith)
each-digit (byte ∷ text) all zero d within = digit-within byte (and_parts (is_ascii_digit byte) (list_all is_ascii_digit text) all).0
each-digit (byte ∷ text) all (suc k) d within = each-digit text (and_parts (is_ascii_digit byte) (list_all is_ascii_digit text) all).1 k d (omega arith)

digits-all : (text : List ℕ) → ((k d : ℕ) → k < length text → IsDigit (get_or text k d)) → list_all is_ascii_digit text ≡ true
digits-all [] each = refl
digits-all (byte ∷ text) each =
    and_from (is_ascii_digit byte) (list_all is_ascii_digit text) (within-digit byte (each 0 byte (omega arith))) (digits-all text (λ k d within. each (suc k) d (omega arith)))

count-is : (text : List ℕ) → is_count text ≡ true → IsCount text
unfolding is_count
count-is text counts = search (rules, ltb-true, leb-true, each-digit)

is-count : (text : List ℕ) → IsCount text → is_count text ≡ true
unfolding is_count
is-count text counts = search (rules, and_from, lt-ltb, le-leb, digits-all)

take-front : (xs ys : List ℕ) → take (length xs) (xs ++ ys) ≡ xs
take-front [] ys = refl
take-front (x ∷ xs) ys = ap (λ l. x ∷ l) (take-front xs ys)

drop-front : (xs ys : List ℕ) → drop (length xs) (xs ++ ys) ≡ ys
drop-front [] ys = refl
drop-front (x ∷ xs) ys = drop-front xs ys

counted-tail : (name line : List ℕ) → IsName name → is_counted name line ≡ true → IsTail line
unfolding is_counted
counted-tail name line named counted = search (rules, bytes_decides, count-is, take-append-drop)

tail-counted : (line : List ℕ) → (tail : IsTail line) → is_counted tail.name line ≡ true
unfolding is_counted
tail-counted line tail = search (rules, take-front, drop-front, and_from, bytes_decides, is-count)

pub tail-is : (line : List ℕ) → is_tail line ≡ true → IsTail line
unfolding is_tail
tail-is line tail = search (rules, or_cases, counted-tail)

pub is-tail : (line : List ℕ) → IsTail line → is_tail line ≡ true
unfolding is_tail
is-tail line tail = search (rules, tail-counted, or_left, or_right)

no-tail : (line : List ℕ) → (IsTail line → ⊥) → is_tail line ≡ false
no-tail line never = elim (cases_Bool (is_tail line)) [ inl tail ↦ absurd (never (tail-is line tail)) | inr other ↦ other ]

not-tail : (line : List ℕ) → is_tail line ≡ false → IsTail line → ⊥
not-tail line other tail = both_ways _ other (is-tail line tail)

-- ---- one line

same_fault : (one other : CoverFault) → ◌≡◌ {A = Result (List Placement) CoverFault} (Err one) (Err other) → one ≡ other
same_fault one other e = cc

numbered-ok : (number : ℕ) (read : Result (List Placement) ℕ) (sequence : List Placement) → read_in_line number read ≡ Ok sequence → read ≡ Ok sequence
numbered-ok number read sequence is = search rules

sequence-is : (needed number count : ℕ) (line : List ℕ) (sequence : List Placement) → numbered_sequence needed number count line ≡ Ok sequence → (count < 100000) × Spells needed line sequence
unfolding numbered_sequence
sequence-is needed number count line sequence is =
    search (rules, (cases_Bool (nat_lt count 100000)), (ltb-true count 100000), (read_is_spelled needed line sequence), (numbered-ok number (sequence_in needed line) sequence))

is-sequence : (needed number count : ℕ) (line : List ℕ) (sequence : List Placement) → count < 100000 → Spells needed line sequence → numbered_sequence needed number count line ≡ Ok sequence
unfolding numbered_sequence
is-sequence needed number count line sequence few spelled = rw (lt-ltb count 100000 few, spelled_is_read needed line sequence spelled) refl

-- the fault of a line behind so many sequences
record IsFaultOf (needed number count : ℕ) (line : List ℕ) (fault : CoverFault) : Type 0 where
  place : fault.line ≡ number
  kind : IsFaultOfLine needed count line fault.kind

bad-is : (needed number count : ℕ) (line : List ℕ) (fault : CoverFault) (read : Result (List Placement) ℕ) → count < 100000 → sequence_in needed line ≡ read → read_in_line number read ≡ Err fault → IsFaultOf needed number count line fault
bad-is needed number count line fault read few h7 is = search (rules, same_fault, spelled_is_read)

fault-is : (needed number count : ℕ) (line : List ℕ) (fault : CoverFault) → count ≤ 100000 → numbered_sequence needed number count line ≡ Err fault → IsFaultOf needed number count line fault
unfolding numbered_sequence
fault-is needed number count line fault most is = search (rules, cases_Bool, bad-is, ltb-true, same_fault, ltb-false)

fault-of : (number : ℕ) (kind : CoverKind) (fault : CoverFault) → fault.line ≡ number → kind ≡ fault.kind → fault_in_line number kind ≡ fault
fault-of number kind fault line is = ap (λ n. fault_in_line n kind) (sym line) ∙ ap (λ k. fault_in_line fault.line k) is

bad-read : (needed number count : ℕ) (line : List ℕ) (read : Result (List Placement) ℕ) → sequence_in needed line ≡ read → ((sequence : List Placement) → Spells needed line sequence → ⊥) → read_in_line number read ≡ Err (fault_in_line number BadSequence)
bad-read needed number count line (Ok sequence) read never = absurd (never sequence (read_is_spelled needed line sequence read))
bad-read needed number count line (Err place) read never = refl

is-fault : (needed number count line_number : ℕ) (line : List ℕ) (kind : CoverKind) → IsFaultOfLine needed count line kind → numbered_sequence needed number count line ≡ Err (fault_in_line number kind)
unfolding numbered_sequence
is-fault needed number count line_number line kind behind = search (rules, lt-ltb, bad-read, le-ltb)

-- ---- many lines

same_given : (one other : List (List Placement)) → ◌≡◌ {A = Given} (Ok one) (Ok other) → one ≡ other
same_given one other e = cc

-- the sequences that lines were read as
record AreSpelled (needed count : ℕ) (lines : List (List ℕ)) (sequences : List (List Placement)) : Type 0 where
  most : count + length sequences ≤ 100000
  spelled : SpellsLines needed lines sequences

read-spelled : (needed : ℕ) (lines : List (List ℕ)) (number count : ℕ) (sequences : List (List Placement)) → count ≤ 100000 → given_from needed number count lines ≡ Ok sequences → AreSpelled needed count lines sequences
unfolding given_from
read-spelled needed [] number count sequences most is = search (rules, same_given, none)
read-spelled needed (line ∷ lines) number count sequences most is = elim (cases_Bool (is_tail line)) [
  | inl tail ↦
      let rest = read-spelled needed lines (number + 1) count sequences most (sym (given-passed needed number count line lines tail) ∙ is) in
      record { most = rest.most; spelled = passed (tail-is line tail) rest.spelled }
  | inr other ↦ by other (λ others. read-spelled needed lines (number + 1) (count + 1) others) (numbered_sequence needed number count line) refl (given_from needed (number + 1) (count + 1) lines) refl
] where
  by : is_tail line ≡ false → ((others : List (List Placement)) → count + 1 ≤ 100000 → given_from needed (number + 1) (count + 1) lines ≡ Ok others → AreSpelled needed (count + 1) lines others)
      → (read : Result (List Placement) CoverFault) → numbered_sequence needed number count line ≡ read → (rest : Given) → given_from needed (number + 1) (count + 1) lines ≡ rest
      → AreSpelled needed count (line ∷ lines) sequences
  by other goes (Ok sequence) read (Ok others) rest =
      let one = sequence-is needed number count line sequence read in
      let later = goes others (omega (arith, one.0)) rest in
      let whole = given-taken needed number count line lines sequence other read ∙ ap (λ (r : Given). r >>= (λ sequences. Ok (sequence ∷ sequences))) rest in
      subst (AreSpelled needed count (line ∷ lines)) (same_given (sequence ∷ others) sequences (sym whole ∙ is))
      (record { most = omega (arith, later.most); spelled = more (not-tail line other) one.1 later.spelled })
  by other goes (Ok sequence) read (Err fault) rest =
      let whole = given-taken needed number count line lines sequence other read ∙ ap (λ (r : Given). r >>= (λ sequences. Ok (sequence ∷ sequences))) rest in
      no_given (sym whole ∙ is)
    where
      no_given : ◌≡◌ {A = Given} (Err fault) (Ok sequences) → AreSpelled needed count (line ∷ lines) sequences
      no_given e = cc
  by other goes (Err fault) read others rest = no_given (sym (given-refused needed number count line lines fault other read) ∙ is)
    where
      no_given : ◌≡◌ {A = Given} (Err fault) (Ok sequences) → AreSpelled needed count (line ∷ lines) sequences
      no_given e = cc

spelled-read : (needed : ℕ) (lines : List (List ℕ)) (number count : ℕ) (sequences : List (List Placement)) → SpellsLines needed lines sequences → count + length sequences ≤ 100000 → given_from needed number count lines ≡ Ok sequences
unfolding given_from
spelled-read needed [] number count [] none most = refl
spelled-read needed [] number count (sequence ∷ sequences) spelled most = elim spelled [ ]
spelled-read needed (line ∷ lines) number count sequences (passed tail spelled) most =
    given-passed needed number count line lines (is-tail line tail) ∙ spelled-read needed lines (number + 1) count sequences spelled most
spelled-read needed (line ∷ lines) number count (sequence ∷ sequences) (more other one spelled) most =
    search (rules, (given-taken needed number count line lines sequence (no-tail line other)), (is-sequence needed number count line sequence), (spelled-read needed lines (number + 1) (count + 1) sequences spelled))

-- a fault that lines were read with
record HasFault (needed number count : ℕ) (lines : List (List ℕ)) (fault : CoverFault) : Type 0 where
  before : List (List ℕ)
  sequences : List (List Placement)
  spelled : SpellsLines needed before sequences
  line : List ℕ
  behind : List (List ℕ)
  divided : lines ≡ before ++ line ∷ behind
  taken : IsTail line → ⊥
  is : IsFaultOf needed (number + length before) (count + length sequences) line fault

pub given_fault_same : (one other : CoverFault) → ◌≡◌ {A = Given} (Err one) (Err other) → one ≡ other
given_fault_same one other e = cc

read-fault : (needed : ℕ) (lines : List (List ℕ)) (number count : ℕ) (fault : CoverFault) → count ≤ 100000 → given_from needed number count lines ≡ Err fault → HasFault needed number count lines fault
unfolding given_from
read-fault needed [] number count fault most is = cc
read-fault needed (line ∷ lines) number count fault most is = elim (cases_Bool (is_tail line)) [
  | inl tail ↦
      let rest = read-fault needed lines (number + 1) count fault most (sym (given-passed needed number count line lines tail) ∙ is) in
      let place : number + 1 + length rest.before ≡ number + suc (length rest.before) = omega arith in
      record {
        before = line ∷ rest.before;
        sequences = rest.sequences;
        spelled = passed (tail-is line tail) rest.spelled;
        line = rest.line;
        behind = rest.behind;
        divided = ap (λ l. line ∷ l) rest.divided;
        taken = rest.taken;
        is = subst (λ n. IsFaultOf needed n (count + length rest.sequences) rest.line fault) place rest.is;
      }
  | inr other ↦ by other (read-fault needed lines (number + 1) (count + 1) fault) (numbered_sequence needed number count line) refl (given_from needed (number + 1) (count + 1) lines) refl
] where
  by : is_tail line ≡ false → (count + 1 ≤ 100000 → given_from needed (number + 1) (count + 1) lines ≡ Err fault → HasFault needed (number + 1) (count + 1) lines fault)
      → (read : Result (List Placement) CoverFault) → numbered_sequence needed number count line ≡ read → (rest : Given) → given_from needed (number + 1) (count + 1) lines ≡ rest
      → HasFault needed number count (line ∷ lines) fault
  by other goes (Ok sequence) read (Ok others) rest =
      let whole = given-taken needed number count line lines sequence other read ∙ ap (λ (r : Given). r >>= (λ sequences. Ok (sequence ∷ sequences))) rest in
      no_fault (sym whole ∙ is)
    where
      no_fault : ◌≡◌ {A = Given} (Ok (sequence ∷ others)) (Err fault) → HasFault needed number count (line ∷ lines) fault
      no_fault e = cc
  by other goes (Ok sequence) read (Err one) rest =
      let first = sequence-is needed number count line sequence read in
      let whole = given-taken needed number count line lines sequence other read ∙ ap (λ (r : Given). r >>= (λ sequences. Ok (sequence ∷ sequences))) rest in
      let same : one ≡ fault = given_fault_same one fault (sym whole ∙ is) in
      let later = goes (omega (arith, first.0)) (rest ∙ ap (λ (f : CoverFault). Err f) same) in
      let place : number + 1 + length later.before ≡ number + suc (length later.before) = omega arith in
      let size : count + 1 + length later.sequences ≡ count + suc (length later.sequences) = omega arith in
      record {
        before = line ∷ later.before;
        sequences = sequence ∷ later.sequences;
        spelled = more (not-tail line other) first.1 later.spelled;
        line = later.line;
        behind = later.behind;
        divided = ap (λ l. line ∷ l) later.divided;
        taken = later.taken;
        is = subst (λ n. IsFaultOf needed n (count + suc (length later.sequences)) later.line fault) place (subst (λ m. IsFaultOf needed (number + 1 + length later.before) m later.line fault) size later.is);
      }
  by other goes (Err one) read others rest =
      let same : one ≡ fault = given_fault_same one fault (sym (given-refused needed number count line lines one other read) ∙ is) in
      let here = fault-is needed number count line fault most (read ∙ ap (λ (f : CoverFault). Err f) same) in
      let place : number ≡ number + 0 = omega arith in
      let size : count ≡ count + 0 = omega arith in
      record {
        before = [];
        sequences = [];
        spelled = none;
        line = line;
        behind = lines;
        divided = refl;
        taken = not-tail line other;
        is = subst (λ n. IsFaultOf needed n (count + 0) line fault) place (subst (λ m. IsFaultOf needed number m line fault) size here);
      }

fault-read : (needed : ℕ) (before : List (List ℕ)) (number count : ℕ) (sequences : List (List Placement)) (line : List ℕ) (behind : List (List ℕ)) (kind : CoverKind) → SpellsLines needed before sequences → count + length sequences ≤ 100000
    → (IsTail line → ⊥) → IsFaultOfLine needed (count + length sequences) line kind → given_from needed number count (before ++ line ∷ behind) ≡ Err (fault_in_line (number + length before) kind)
fault-read needed [] number count (sequence ∷ sequences) line behind kind spelled most other is = elim spelled [ ]
fault-read needed [] number count [] line behind kind none most other is =
    search (rules, (given-refused needed number count line behind (fault_in_line number kind) (no-tail line other)), (is-fault needed number count number line kind))
fault-read needed (first ∷ before) number count sequences line behind kind (passed tail spelled) most other is =
    search (rules, (given-passed needed number count first (before ++ line ∷ behind) (is-tail first tail)), (fault-read needed before (number + 1) count sequences line behind kind spelled most other is))
fault-read needed (first ∷ before) number count (sequence ∷ sequences) line behind kind (more taken one spelled) most other is =
    let place : number + 1 + length before ≡ number + suc (length before) = omega arith in
    let size : count + suc (length sequences) ≡ count + 1 + length sequences = omega arith in
    given-taken needed number count first (before ++ line ∷ behind) sequence (no-tail first taken) (is-sequence needed number count first sequence (omega (arith, most)) one)
    ∙ ap (λ (r : Given). r >>= (λ others. Ok (sequence ∷ others)))
    (fault-read needed before (number + 1) (count + 1) sequences line behind kind spelled (omega (arith, most)) other (subst (λ m. IsFaultOfLine needed m line kind) size is))
    ∙ ap (λ (n : ℕ). Err (fault_in_line n kind)) place

-- ---- the laws

pub sequences-law : (needed : ℕ) (text : List ℕ) (sequences : List (List Placement)) → (given_in needed text ≡ Ok sequences) ↔ SpellsGiven needed text sequences
unfolding given_in
sequences-law needed text sequences = search (rules, read-spelled, spelled-read)

behind-most : (needed count : ℕ) (line : List ℕ) (kind : CoverKind) → IsFaultOfLine needed count line kind → count ≤ 100000
behind-most needed count line kind behind = search rules

pub fault-law : (needed : ℕ) (text : List ℕ) (fault : CoverFault) → (given_in needed text ≡ Err fault) ↔ IsGivenFault needed text fault
unfolding given_in
fault-law needed text fault = (
  λ read.
      let found = read-fault needed (lines_of text) 1 0 fault (omega arith) read in
      let size : 0 + length found.sequences ≡ length found.sequences = omega arith in
      record {
        before = found.before;
        sequences = found.sequences;
        spelled = found.spelled;
        line = found.line;
        behind = found.behind;
        divided = found.divided;
        taken = found.taken;
        number = omega (arith, found.is.place);
        kind = subst (λ m. IsFaultOfLine needed m found.line fault.kind) size found.is.kind;
      },
  λ given.
      let most = behind-most needed (length given.sequences) given.line fault.kind given.kind in
      let size : length given.sequences ≡ 0 + length given.sequences = omega arith in
      ap (given_from needed 1 0) given.divided
      ∙ fault-read needed given.before 1 0 given.sequences given.line given.behind fault.kind given.spelled (omega (arith, most)) given.taken (subst (λ m. IsFaultOfLine needed m given.line fault.kind) size given.kind)
      ∙ ap (λ (f : CoverFault). Err f) (fault-of (1 + length given.before) fault.kind fault (omega (arith, given.number)) refl),
)
