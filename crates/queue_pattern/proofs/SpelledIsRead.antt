-- The grammar as a relation and the function that reads a text agree: what is spelled is read.
use Rattle.std.proofs.Common.{◌≡◌, ◌≢◌, ℕ, ◌+◌, ◌-◌, ◌<◌, ◌≤◌, Bool, true, false, ◌&&◌, ◌==◌, nat_lt, nat_le, lt-ltb, le-leb, eqb-true, ne_eqb, List, [], ◌∷◌, ◌++◌, length, append_assoc, append-nil, length-append, bit_or, refl, ap, sym, subst, ◌∙◌, arith, Some, None, Ok, ◌⊎◌, rules}
use Rattle.std.proofs.lemmas.Bool.{cases_Bool, and_from}
use Rattle.std.proofs.lemmas.Bool.Decides.{nat_tests}
use Rattle.std.proofs.lemmas.Nat.{pow_pos, le_or_r}
use Rattle.srs.specs.declared.piece.Piece.{Piece}
use Rattle.srs.specs.Piece.{piece_code, piece_with_letter}
use Rattle.queue_pattern.specs.declared.element.Element.{Element}
use Rattle.queue_pattern.specs.Queues.{pieces_in}
use Rattle.queue_pattern.specs.Grammar.{Elements, outside, opened, listing, closed, choosing, choice, before, bracketed, is_gap, all_set, set_of, elements_from}
use Rattle.queue_pattern.specs.Spelling.{SpellsLetters, SpellsSet, all, these, others, SpellsChosen, one, digit, every, SpellsElement, letter, chosen, SpellsElements, none, gap, element}
use Rattle.queue_pattern.proofs.ParseLemmas.{after_front, none_before}

-- a letter is no other byte that means something
pub not_letter : (byte other : ℕ) (piece : Piece) → piece_with_letter byte ≡ Some piece → piece_with_letter other ≡ None → (byte == other) ≡ false
not_letter byte other piece is free = search (rules, cases_Bool, eqb-true)

not_gap : (byte other : ℕ) → is_gap byte ≡ true → is_gap other ≡ false → (byte == other) ≡ false
not_gap byte other is free = search (rules, cases_Bool, eqb-true)

-- the text does not go on with `p`, `P` or `!`
abbrev pub NoMark : List ℕ → Type 0
NoMark [] = Unit {0}
NoMark (byte ∷ bytes) = ((byte == 112) ≡ false) × ((byte == 80) ≡ false) × ((byte == 33) ≡ false)

element-no_mark : (front rest : List ℕ) (e : Element) → SpellsElement front e → NoMark (front ++ rest)
element-no_mark front rest e spelled = search (rules, not_letter)

no_mark : (text : List ℕ) (elements : List Element) → SpellsElements text elements → NoMark text
no_mark text elements none = tt
no_mark text elements (gap {byte = byte} is later) = (not_gap byte 112 is refl, not_gap byte 80 is refl, not_gap byte 33 is refl)
no_mark text elements (element {front = front} {rest = rest} {first = first} spelled later) = element-no_mark front rest first spelled

-- so the set is one of which one piece is chosen
ends_there : (text : List ℕ) (start set place : ℕ) → NoMark text → elements_from (closed start set) place text ≡ before (choice start set 1) (elements_from outside place text)
unfolding elements_from
ends_there text start set place free = search rules

or_some : (a b : ℕ) → b ≢ 0 → bit_or a b ≢ 0
or_some a b some e = some (omega (arith, e, le_or_r a b))

set_some : (piece : Piece) → set_of piece ≢ 0
set_some piece e = omega (arith, pow_pos (piece_code piece - 1), e)

letters_some : (letters : List ℕ) (so_far total : ℕ) → so_far ≢ 0 → SpellsLetters so_far letters total → total ≢ 0
letters_some [] so_far total some spelled = subst (λ n. n ≢ 0) spelled some
letters_some (byte ∷ letters) so_far total some spelled = letters_some letters (bit_or so_far (set_of spelled.0)) total (or_some so_far (set_of spelled.0) (set_some spelled.0)) spelled.3

pub total_some : (letters : List ℕ) (total : ℕ) → letters ≢ [] → SpellsLetters 0 letters total → total ≢ 0
total_some [] total some spelled = absurd (some refl)
total_some (byte ∷ letters) total some spelled = letters_some letters (bit_or 0 (set_of spelled.0)) total (or_some 0 (set_of spelled.0) (set_some spelled.0)) spelled.3

-- letters are read one after the other
pub read_letters : (letters rest : List ℕ) (start : ℕ) (except : Bool) (so_far total place : ℕ) → SpellsLetters so_far letters total
    → elements_from (listing start except so_far) place (letters ++ rest) ≡ elements_from (listing start except total) (place + length letters) rest
unfolding elements_from
read_letters [] rest start except so_far total place spelled = search rules
read_letters (byte ∷ letters) rest start except so_far total place spelled =
    search (rules, bit_or, not_letter, read_letters letters rest start except (bit_or so_far (set_of spelled.0)) total (place + 1) spelled.3)

-- a bracket that has a letter is no `[^`
pub read_first : (byte : ℕ) (bytes : List ℕ) (start place : ℕ) → (byte == 94) ≡ false
    → elements_from (opened start) place (byte ∷ bytes) ≡ elements_from (listing start false 0) place (byte ∷ bytes)
unfolding elements_from
read_first byte bytes start place other = rw other refl

closes : (rest : List ℕ) (start : ℕ) (except : Bool) (total place : ℕ) → total ≢ 0
    → elements_from (listing start except total) place (93 ∷ rest) ≡ elements_from (closed start (bracketed except total)) (place + 1) rest
unfolding elements_from
closes rest start except total place some = rw (ne_eqb total 0 some) refl

read_listed : (letters rest : List ℕ) (start : ℕ) (except : Bool) (total place : ℕ) → SpellsLetters 0 letters total → total ≢ 0
    → elements_from (listing start except 0) place (letters ++ 93 ∷ rest) ≡ elements_from (closed start (bracketed except total)) (place + length letters + 1) rest
read_listed letters rest start except total place spelled some =
    read_letters letters (93 ∷ rest) start except 0 total place spelled ∙ closes rest start except total (place + length letters) some

pub read_set : (front rest : List ℕ) (set place : ℕ) → SpellsSet front set → elements_from outside place (front ++ rest) ≡ elements_from (closed place set) (place + length front) rest
unfolding elements_from
read_set front rest set place all = refl
read_set front rest set place (these {letters = letters} some spelled) = first letters some spelled
  where
    first : (letters : List ℕ) → letters ≢ [] → SpellsLetters 0 letters set
        → elements_from outside place ((91 ∷ letters ++ 93 ∷ []) ++ rest) ≡ elements_from (closed place set) (place + length (91 ∷ letters ++ 93 ∷ [])) rest
    first [] some spelled = absurd (some refl)
    first (byte ∷ letters) some spelled =
        ap (λ t. elements_from (opened place) (place + 1) t) (append_assoc (byte ∷ letters) (93 ∷ []) rest)
        ∙ read_first byte (letters ++ 93 ∷ rest) place (place + 1) (not_letter byte 94 spelled.0 spelled.1 refl)
        ∙ read_listed (byte ∷ letters) rest place false set (place + 1) spelled (total_some (byte ∷ letters) set some spelled)
        ∙ ap (λ p. elements_from (closed place set) p rest) (omega (arith, length-append (byte ∷ letters) (93 ∷ [])))
read_set front rest set place (others {letters = letters} total some spelled) =
    ap (λ t. elements_from (listing place true 0) (place + 1 + 1) t) (append_assoc letters (93 ∷ []) rest)
    ∙ read_listed letters rest place true total (place + 1 + 1) spelled (total_some letters total some spelled)
    ∙ ap (λ p. elements_from (closed place (all_set - total)) p rest) (omega (arith, length-append letters (93 ∷ [])))

pub read_chosen : (back rest : List ℕ) (start set n place : ℕ) → SpellsChosen (length (pieces_in set)) back n → (back ≡ [] → NoMark rest)
    → elements_from (closed start set) place (back ++ rest) ≡ before (choice start set n) (elements_from outside (place + length back) rest)
unfolding elements_from
read_chosen back rest start set n place says free = go back n (length (pieces_in set)) refl says free
  where
    in_range : (n : ℕ) → 1 ≤ n → n ≤ 9 → (nat_le 49 (48 + n) && nat_le (48 + n) 57) ≡ true
    in_range n low high = grind (arith, nat_tests)

    digit_read : (n : ℕ) → 1 ≤ n → n ≤ 9 → elements_from (choosing start set) (place + 1) ((48 + n) ∷ rest) ≡ before (choice start set n) (elements_from outside (place + 1 + 1) rest)
    digit_read n low high = rw (in_range n low high) (ap (λ k. before (choice start set k) (elements_from outside (place + 1 + 1) rest)) (omega arith))

    marked : (mark n : ℕ) → (mark ≡ 112) ⊎ (mark ≡ 80) → 1 ≤ n → n ≤ 9
        → elements_from (closed start set) place (mark ∷ (48 + n) ∷ rest) ≡ before (choice start set n) (elements_from outside (place + 1 + 1) rest)
    marked mark n h2 low high = search (rules, digit_read)

    go : (back : List ℕ) (n size : ℕ) → size ≡ length (pieces_in set) → SpellsChosen size back n → (back ≡ [] → NoMark rest)
        → elements_from (closed start set) place (back ++ rest) ≡ before (choice start set n) (elements_from outside (place + length back) rest)
    go back n size is one free = ends_there rest start set place (free refl) ∙ ap (λ p. before (choice start set 1) (elements_from outside p rest)) (omega arith)
    go back n size is (digit {mark = mark} {n = k} mark_is low high) free =
        marked mark k mark_is low high ∙ ap (λ p. before (choice start set k) (elements_from outside p rest)) (omega arith)
    go back n size is every free = ap (λ k. before (choice start set k) (elements_from outside (place + 1) rest)) (sym is)

-- an element is read, where what follows a bare set does not say how many are chosen
after_choice : (start set n : ℕ) (read : Elements) → 0 < length (pieces_in set) → n ≤ length (pieces_in set)
    → before (choice start set n) read ≡ before (Ok (record { set = set; chosen = n })) read
unfolding choice
after_choice start set n read some enough = search (rules, and_from, nat_lt, nat_le, lt-ltb, le-leb)

read_element : (front rest : List ℕ) (e : Element) (place : ℕ) → SpellsElement front e → ((set : ℕ) → SpellsSet front set → NoMark rest)
    → elements_from outside place (front ++ rest) ≡ before (Ok e) (elements_from outside (place + length front) rest)
unfolding elements_from
read_element front rest e place (letter {byte = byte} {piece = piece} is) free = search (rules, not_letter)
read_element front rest e place (chosen {front = text} {back = back} {set = set} {n = n} spelled_set says some enough) free =
    let bare : back ≡ [] → NoMark rest = λ none. free set (subst (λ t. SpellsSet t set) (sym (ap (λ b. text ++ b) none ∙ append-nil text)) spelled_set) in
    ap (elements_from outside place) (append_assoc text back rest)
    ∙ read_set text (back ++ rest) set place spelled_set
    ∙ read_chosen back rest place set n (place + length text) says bare
    ∙ after_choice place set n (elements_from outside (place + length text + length back) rest) some enough
    ∙ ap (λ p. before (Ok (record { set = set; chosen = n })) (elements_from outside p rest)) (omega (arith, length-append text back))

-- what follows elements: nothing that says how many are chosen, where they end with a bare set
pub record Clear (whole rest : List ℕ) : Type 0 where
  pub free : (done front : List ℕ) (es : List Element) (set : ℕ) → whole ≡ done ++ front → SpellsElements done es → SpellsSet front set → NoMark rest

clear_front : (front more rest : List ℕ) (later : List Element) → SpellsElements more later → Clear (front ++ more) rest → (set : ℕ) → SpellsSet front set → NoMark (more ++ rest)
clear_front front [] rest later spelled clear set is = clear.free [] front [] set (append-nil front) none is
clear_front front (byte ∷ more) rest later spelled clear set is = no_mark (byte ∷ more) later spelled

clear_gap : (byte : ℕ) (more rest : List ℕ) → is_gap byte ≡ true → Clear (byte ∷ more) rest → Clear more rest
clear_gap byte more rest is clear = record { free = λ done front es set joined spelled. clear.free (byte ∷ done) front es set (ap (λ t. byte ∷ t) joined) (gap is spelled) }

clear_element : (front more rest : List ℕ) (e : Element) → SpellsElement front e → Clear (front ++ more) rest → Clear more rest
clear_element front more rest e first clear = search (rules, append_assoc, element, first)

one_before : (e : Element) (es : List Element) (read : Elements) → before (Ok e) (after_front es read) ≡ after_front (e ∷ es) read
one_before e es read = search rules

-- elements are read before what follows them
pub read_elements : (whole : List ℕ) (es : List Element) → SpellsElements whole es → (rest : List ℕ) → Clear whole rest → (place : ℕ)
    → elements_from outside place (whole ++ rest) ≡ after_front es (elements_from outside (place + length whole) rest)
unfolding elements_from
read_elements whole es none rest clear place = ap (λ p. elements_from outside p rest) (omega arith) ∙ none_before (elements_from outside (place + 0) rest)
read_elements whole es (gap {byte = byte} {text = later} is spelled) rest clear place =
    search (rules, clear_gap, read_elements later es spelled rest (clear_gap byte later rest is clear) (place + 1))
read_elements whole es (element {front = front} {rest = more} {first = e} {elements = later} first spelled) rest clear place =
    ap (elements_from outside place) (append_assoc front more rest)
    ∙ read_element front (more ++ rest) e place first (clear_front front more rest later spelled clear)
    ∙ ap (before (Ok e)) (read_elements more later spelled rest (clear_element front more rest e first clear) (place + length front)
    ∙ ap (λ p. after_front later (elements_from outside p rest)) (omega (arith, length-append front more)))
    ∙ one_before e later (elements_from outside (place + length (front ++ more)) rest)

-- what a text spells, it is read as
pub read-from_spelled : (text : List ℕ) (elements : List Element) → SpellsElements text elements → (place : ℕ) → elements_from outside place text ≡ Ok elements
unfolding elements_from
read-from_spelled text elements spelled place =
    ap (elements_from outside place) (sym (append-nil text))
    ∙ read_elements text elements spelled [] (record { free = λ done front es set joined spelled is. tt }) place
    ∙ ap Ok (append-nil elements)
