-- Where a reader of a pattern's form stands, and how far a text goes on.
use Rattle.std.proofs.Common.{◌≡◌, ℕ, ◌+◌, ◌<◌, Bool, true, false, ◌&&◌, ◌||◌, ◌==◌, nat_lt, nat_le, bit_or, if◌then◌else◌, Option, Some, None, List, [], ◌∷◌, refl, sym, ap, subst, ◌∙◌, arith, Ok, Err, rules}
use Rattle.std.specs.Option.{option_map}
use Rattle.std.proofs.lemmas.Bool.{cases_Bool, cond_both, ne_eqb, and_right, and_parts, and_cases}
use Rattle.std.proofs.lemmas.Nat.{pow_pos, le_or_r}
use Rattle.srs.specs.declared.piece.Piece.{Piece}
use Rattle.srs.specs.Piece.{piece_with_letter}
use Rattle.queue_pattern.specs.declared.element.Element.{Element}
use Rattle.queue_pattern.specs.declared.fault.PatternFault.TheVariants.{Unexpected, RepeatedPiece, TooManyChosen}
use Rattle.queue_pattern.specs.Queues.{is_in}
use Rattle.queue_pattern.specs.Grammar.{TextPosition, outside, opened, listing, closed, choosing, Elements, set_of, choice, before, is_gap, outside_step, listed_step, listing_step, opened_step, closed_step, choosing_step, end, elements_from}

-- between elements; after a bracket; after `[^`; after a letter between brackets; after a set; after `p`
pub data Phase : Type 0 where
  between : Phase
  begun : Phase
  unlisted : Phase
  listed : Phase
  shut : Phase
  marked : Phase

abbrev pub letter_next : Option Piece → Phase → Option Phase
letter_next None phase = None
letter_next (Some piece) phase = Some phase

abbrev pub between_next : ℕ → Option Phase
between_next byte =
    if is_gap byte then Some between
    else (if byte == 42 then Some shut
    else (if byte == 91 then Some begun
    else letter_next (piece_with_letter byte) between))

abbrev pub next : Phase → ℕ → Option Phase
next between byte = between_next byte
next begun byte = if byte == 94 then Some unlisted else letter_next (piece_with_letter byte) listed
next unlisted byte = letter_next (piece_with_letter byte) listed
next listed byte = if byte == 93 then Some shut else letter_next (piece_with_letter byte) listed
next shut byte =
    if byte == 112 || byte == 80 then Some marked else (if byte == 33 then Some between else between_next byte)
next marked byte = if nat_le 49 byte && nat_le byte 57 then Some between else None

abbrev pub is_end : Phase → Bool
is_end between = true
is_end shut = true
is_end other = false

-- how many bytes stand before the one that doesn't go on, if there is one
abbrev pub stop_after : Option Phase → (Phase → Option ℕ) → Option ℕ
stop_after None rest = Some 0
stop_after (Some phase) rest = option_map (λ n. n + 1) (rest phase)

unfoldable pub stop : Phase → List ℕ → Option ℕ
stop phase [] = if is_end phase then None else Some 0
stop phase (byte ∷ bytes) = stop_after (next phase byte) (λ after. stop after bytes)

abbrev pub phase_of : TextPosition → Phase
phase_of outside = between
phase_of (opened start) = begun
phase_of (listing start except pieces) = if pieces == 0 then unlisted else listed
phase_of (closed start set) = shut
phase_of (choosing start set) = marked

-- the element began before this place
abbrev pub IsBegun : TextPosition → ℕ → Type 0
IsBegun outside place = Unit {0}
IsBegun (opened start) place = start < place
IsBegun (listing start except pieces) place = start < place
IsBegun (closed start set) place = start < place
IsBegun (choosing start set) place = start < place

-- what is read agrees with where the form is left
abbrev pub Agrees : Elements → ℕ → Option ℕ → Type 0
Agrees (Ok elements) place left = left ≡ None
Agrees (Err (Unexpected found)) place left = (k : ℕ) × (left ≡ Some k) × (found ≡ place + k)
Agrees (Err (RepeatedPiece found)) place left = (k : ℕ) → left ≡ Some k → found < place + k
Agrees (Err (TooManyChosen found)) place left = (k : ℕ) → left ≡ Some k → found < place + k
Agrees (Err other) place left = ⊥

less-on : (found place : ℕ) (left : Option ℕ) → ((k : ℕ) → left ≡ Some k → found < place + 1 + k)
    → (k : ℕ) → option_map (λ n. n + 1) left ≡ Some k → found < place + k
less-on found place left before_it k is = search rules

agrees-on : (read : Elements) (place : ℕ) (left : Option ℕ) → Agrees read (place + 1) left
    → Agrees read place (option_map (λ n. n + 1) left)
agrees-on read place left agrees = search (rules, agrees, less-on)

agrees-element : (element : Element) (read : Elements) (place : ℕ) (left : Option ℕ) → Agrees read place left
    → Agrees (before (Ok element) read) place left
agrees-element element read place left agrees = search (rules, agrees)

agrees-choice : (start set n : ℕ) (read : Elements) (place : ℕ) (left : Option ℕ) → start < place → Agrees read place left
    → Agrees (before (choice start set n) read) place left
unfolding choice
agrees-choice start set n read place left early agrees =
    search (rules, agrees, cond_both, nat_lt, nat_le, agrees-element)

-- what is claimed of the bytes behind a byte
abbrev AreRead : List ℕ → Type 0
AreRead bytes = (position : TextPosition) (place : ℕ) → IsBegun position place
    → Agrees (elements_from position place bytes) place (stop (phase_of position) bytes)

-- where a byte leads on, and where it doesn't
stop-on : (phase after : Phase) (byte : ℕ) (bytes : List ℕ) → next phase byte ≡ Some after
    → stop phase (byte ∷ bytes) ≡ option_map (λ n. n + 1) (stop after bytes)
unfolding stop
stop-on phase after byte bytes leads = ap (λ found. stop_after found (λ p. stop p bytes)) leads

goes : (phase : Phase) (byte place : ℕ) (bytes : List ℕ) (position : TextPosition) → AreRead bytes → IsBegun position (place + 1)
    → next phase byte ≡ Some (phase_of position)
    → Agrees (elements_from position (place + 1) bytes) place (stop phase (byte ∷ bytes))
goes phase byte place bytes position later started leads =
    subst (Agrees (elements_from position (place + 1) bytes) place) (sym (stop-on phase (phase_of position) byte bytes leads))
    (agrees-on (elements_from position (place + 1) bytes) place (stop (phase_of position) bytes) (later position (place + 1) started))

halts : (phase : Phase) (byte place : ℕ) (bytes : List ℕ) → next phase byte ≡ None
    → Agrees (Err (Unexpected place)) place (stop phase (byte ∷ bytes))
unfolding stop
halts phase byte place bytes leads = search rules

at_outside : (phase : Phase) (byte place : ℕ) (bytes : List ℕ) → AreRead bytes → next phase byte ≡ between_next byte
    → Agrees (outside_step place byte (λ after. elements_from after (place + 1) bytes)) place (stop phase (byte ∷ bytes))
at_outside phase byte place bytes later leads = search (rules, cond_both, goes, halts, agrees-element)

-- a byte within brackets
set_some : (pieces : ℕ) (piece : Piece) → (bit_or pieces (set_of piece) == 0) ≡ false
set_some pieces piece = search (rules, ne_eqb, bit_or, le_or_r, pow_pos)

at_listed : (phase : Phase) (start : ℕ) (except : Bool) (pieces byte place : ℕ) (bytes : List ℕ) (found : Option Piece)
    → AreRead bytes → start < place → next phase byte ≡ letter_next found listed
    → Agrees (listed_step start except pieces place found (λ after. elements_from after (place + 1) bytes)) place
    (stop phase (byte ∷ bytes))
at_listed phase start except pieces byte place bytes None later early leads = halts phase byte place bytes leads
at_listed phase start except pieces byte place bytes (Some piece) later early leads =
    let after : TextPosition = listing start except (bit_or pieces (set_of piece)) in
    cond_both (is_in piece pieces) (Err (RepeatedPiece place)) (elements_from after (place + 1) bytes)
    (λ read. Agrees read place (stop phase (byte ∷ bytes)))
    (λ again. λ k is. less-on place place (stop listed bytes) (λ j at. omega arith) k (sym (stop-on phase listed byte bytes leads) ∙ is))
    (λ new. goes phase byte place bytes after later (omega (arith, early))
    (leads ∙ sym (ap (λ b. Some (if b then unlisted else listed)) (set_some pieces piece))))

at_listing : (start : ℕ) (except : Bool) (pieces byte place : ℕ) (bytes : List ℕ) (empty : Bool) → (pieces == 0) ≡ empty
    → AreRead bytes → start < place
    → Agrees (listing_step start except pieces place byte (λ after. elements_from after (place + 1) bytes)) place
    (stop (if empty then unlisted else listed) (byte ∷ bytes))
at_listing start except pieces byte place bytes empty none later early =
    search (rules, at_listed, and_right, cond_both, goes, and_parts, and_cases)

-- a byte right after a bracket, after a set, and after `p`
at_opened : (start byte place : ℕ) (bytes : List ℕ) → AreRead bytes → start < place
    → Agrees (opened_step start place byte (λ after. elements_from after (place + 1) bytes)) place (stop begun (byte ∷ bytes))
at_opened start byte place bytes later early = search (rules, cond_both, goes, and_right, at_listed)

at_closed : (start set byte place : ℕ) (bytes : List ℕ) → AreRead bytes → start < place
    → Agrees (closed_step start set place byte (λ after. elements_from after (place + 1) bytes)) place (stop shut (byte ∷ bytes))
at_closed start set byte place bytes later early = search (rules, cond_both, goes, agrees-choice, at_outside)

at_choosing : (start set byte place : ℕ) (bytes : List ℕ) → AreRead bytes → start < place
    → Agrees (choosing_step start set place byte (λ after. elements_from after (place + 1) bytes)) place
    (stop marked (byte ∷ bytes))
at_choosing start set byte place bytes later early = search (rules, cond_both, nat_le, agrees-choice, goes, halts)

at_end : (position : TextPosition) (place : ℕ) → IsBegun position place
    → Agrees (end position place) place (stop (phase_of position) [])
unfolding stop
at_end position place early = search (rules, cases_Bool, agrees-choice)

pub agrees : (bytes : List ℕ) → AreRead bytes
unfolding elements_from
agrees [] position place early = at_end position place early
agrees (byte ∷ bytes) outside place early = at_outside between byte place bytes (agrees bytes) refl
agrees (byte ∷ bytes) (opened start) place early = at_opened start byte place bytes (agrees bytes) early
agrees (byte ∷ bytes) (listing start except pieces) place early = search (rules, at_listing, (agrees bytes))
agrees (byte ∷ bytes) (closed start set) place early = at_closed start set byte place bytes (agrees bytes) early
agrees (byte ∷ bytes) (choosing start set) place early = at_choosing start set byte place bytes (agrees bytes) early
