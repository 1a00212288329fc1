-- The faults that stand in a text are read.
use Rattle.std.proofs.Common.{◌≡◌, ◌≢◌, ℕ, ◌+◌, ◌-◌, ◌<◌, Bool, true, false, not, ◌&&◌, ◌==◌, nat_lt, nat_le, eqb-true, leb-true, ne_eqb, List, [], ◌∷◌, ◌++◌, length, append_assoc, append-nil, length-append, refl, ap, sym, subst, ◌∙◌, arith, Some, None, Err, inl, inr, ◌⊎◌, rules}
use Rattle.std.proofs.lemmas.Bool.{and_parts, false_from_ne_true}
use Rattle.std.proofs.lemmas.Bool.Decides.{nat_tests}
use Rattle.std.proofs.lemmas.List.Elements.{All-nil, All-append, All-cons}
use Rattle.srs.specs.declared.piece.Piece.{Piece}
use Rattle.srs.specs.Piece.{piece_with_letter}
use Rattle.queue_pattern.specs.declared.element.Element.{Element}
use Rattle.queue_pattern.specs.declared.fault.PatternFault.{PatternFault}
use Rattle.queue_pattern.specs.declared.fault.PatternFault.TheVariants.{Unexpected, RepeatedPiece, TooManyChosen}
use Rattle.queue_pattern.specs.Queues.{is_in, pieces_in}
use Rattle.queue_pattern.specs.Grammar.{Elements, outside, opened, listing, closed, choosing, choice, before, is_gap, elements, elements_from}
use Rattle.queue_pattern.specs.Spelling.{SpellsLetters, SpellsSet, SpellsElements}
use Rattle.srs.specs.Forms.{IsStopped}
use Rattle.queue_pattern.specs.Form.{is_letter, AreLetters, HasForm}
use Rattle.queue_pattern.specs.Form as form
use Rattle.queue_pattern.specs.Faults.{BeginsSet, these, others, BeginsElement, nothing, IsUnexpectedAt, IsRepeatedAt, IsTooManyAt, IsUnmarked}
use Rattle.queue_pattern.specs.Faults as fault
use Rattle.queue_pattern.proofs.ParseLemmas.{after_front}
use Rattle.queue_pattern.proofs.SpelledIsRead.{NoMark, Clear, not_letter, read_letters, read_first, read_set, read_chosen, read_elements}
use Rattle.queue_pattern.proofs.FaultForms.{letter_of, letters_form, set_form, elements_form, no_byte, no_end, no_piece}
use Rattle.queue_pattern.proofs.FaultExplained.{opening}

-- ---- a bracket that isn't closed

-- bytes behind `[` are read as in a list, unless they begin with `^`
abbrev NoCaret : List ℕ → Type 0
NoCaret [] = Unit {0}
NoCaret (byte ∷ bytes) = (byte == 94) ≡ false

open_read : (bytes : List ℕ) (start place : ℕ) → NoCaret bytes → elements_from (opened start) place bytes ≡ elements_from (listing start false 0) place bytes
unfolding elements_from
open_read bytes start place free = search (rules, read_first)

letters_free : (letters rest : List ℕ) (total : ℕ) → SpellsLetters 0 letters total → NoCaret rest → NoCaret (letters ++ rest)
letters_free [] rest total spelled free = free
letters_free (byte ∷ letters) rest total spelled free = not_letter byte 94 spelled.0 spelled.1 refl

-- so a bracket and letters are read to a list of pieces
listing_read : (except : Bool) (letters rest : List ℕ) (listed place : ℕ) → SpellsLetters 0 letters listed → (except ≡ false → NoCaret (letters ++ rest))
    → elements_from outside place ((opening except ++ letters) ++ rest) ≡ elements_from (listing place except listed) (place + length (opening except ++ letters)) rest
unfolding elements_from
listing_read true letters rest listed place spelled free =
    read_letters letters rest place true 0 listed (place + 1 + 1) spelled ∙ ap (λ p. elements_from (listing place true listed) p rest) (omega arith)
listing_read false letters rest listed place spelled free =
    open_read (letters ++ rest) place (place + 1) (free refl)
    ∙ read_letters letters rest place false 0 listed (place + 1) spelled
    ∙ ap (λ p. elements_from (listing place false listed) p rest) (omega arith)

-- how a set has begun
record Opens (begun : List ℕ) (listed : ℕ) : Type 0 where
  except : Bool
  letters : List ℕ
  spelled : SpellsLetters 0 letters listed
  is : begun ≡ opening except ++ letters

opens : (begun : List ℕ) (listed : ℕ) → BeginsSet begun listed → Opens begun listed
opens begun listed h2 = search rules

-- ---- whole elements stand before

-- what is not a mark
unmarked_of : (rest : List ℕ) → IsUnmarked rest → NoMark rest
unmarked_of rest free = search (rules, ne_eqb)

clear_by : (whole rest : List ℕ) → NoMark rest → Clear whole rest
clear_by whole rest free = record { free = λ done front es set joined spelled is. free }

-- a mark behind a bare set is of the form
stopped_free : (whole rest : List ℕ) → IsStopped HasForm whole rest → (done front : List ℕ) (es : List Element) (set : ℕ) → whole ≡ done ++ front → SpellsElements done es → SpellsSet front set → NoMark rest
stopped_free whole [] stops done front es set joined spelled is = tt
stopped_free whole (byte ∷ rest) stops done front es set joined spelled is =
    let bad : (more back : List ℕ) → form.HasChosenForm back → byte ∷ more ≡ back → ⊥ = λ more back says same.
    no_byte done front rest byte (elements_form done es spelled) (subst (λ w. IsStopped HasForm w (byte ∷ rest)) joined stops) more
    (subst HasForm (append-nil (front ++ byte ∷ more)) (form.element (form.chosen (set_form front set is) (subst form.HasChosenForm (sym same) says)) form.none)) in (
      false_from_ne_true (byte == 112) (λ is. bad (49 ∷ []) (112 ∷ 49 ∷ []) (form.digit {n = 1} (inl refl) (omega arith) (omega arith)) (ap (λ b. b ∷ 49 ∷ []) (eqb-true byte 112 is))),
      false_from_ne_true (byte == 80) (λ is. bad (49 ∷ []) (80 ∷ 49 ∷ []) (form.digit {n = 1} (inr refl) (omega arith) (omega arith)) (ap (λ b. b ∷ 49 ∷ []) (eqb-true byte 80 is))),
      false_from_ne_true (byte == 33) (λ is. bad [] (33 ∷ []) form.every (ap (λ b. b ∷ []) (eqb-true byte 33 is))),
    )

-- a fault behind whole elements is that of the text
fault_behind : (es : List Element) (read : Elements) (f : PatternFault) → read ≡ Err f → after_front es read ≡ Err f
fault_behind es read f is = ap (after_front es) is

behind : (whole begun rest : List ℕ) (es : List Element) (f : PatternFault) → SpellsElements whole es → Clear whole (begun ++ rest)
    → elements_from outside (0 + length whole) (begun ++ rest) ≡ Err f → elements ((whole ++ begun) ++ rest) ≡ Err f
behind whole begun rest es f spelled clear is =
    ap (elements_from outside 0) (append_assoc whole begun rest)
    ∙ read_elements whole es spelled (begun ++ rest) clear 0
    ∙ fault_behind es (elements_from outside (0 + length whole) (begun ++ rest)) f is

-- ---- a byte that leaves the form

outside_stops : (whole rest : List ℕ) (place : ℕ) → HasForm whole → IsStopped HasForm (whole ++ []) rest → elements_from outside place rest ≡ Err (Unexpected place)
unfolding elements_from
outside_stops whole [] place of_form stops = absurd (no_end whole [] of_form stops form.none)
outside_stops whole (byte ∷ rest) place of_form stops =
    let bad : (more : List ℕ) → HasForm (byte ∷ more) → ⊥ = no_byte whole [] rest byte of_form stops in
    let no_gap : is_gap byte ≡ false = false_from_ne_true (is_gap byte) (λ is. bad [] (form.gap is form.none)) in
    let no_star : (byte == 42) ≡ false = false_from_ne_true (byte == 42) (λ is. bad [] (subst (λ b. HasForm (b ∷ [])) (sym (eqb-true byte 42 is)) (form.element (form.chosen form.all form.one) form.none))) in
    let no_bracket : (byte == 91) ≡ false = false_from_ne_true (byte == 91) (λ is. bad (73 ∷ 93 ∷ []) (subst (λ b. HasForm (b ∷ 73 ∷ 93 ∷ [])) (sym (eqb-true byte 91 is)) (form.element (form.chosen (form.these {letters = 73 ∷ []} (λ e. cc) (All-cons (λ b. is_letter b ≡ true) 73 [] refl (All-nil (λ b. is_letter b ≡ true)))) form.one) form.none))) in
    let no_letter : piece_with_letter byte ≡ None = no_piece (piece_with_letter byte) (λ piece is. bad [] (form.element (form.letter (letter_of byte piece is)) form.none)) in
    rw (no_gap, no_star, no_bracket, no_letter) refl

-- brackets with letters are of the form
listed_form : (except : Bool) (letters : List ℕ) → letters ≢ [] → AreLetters letters → HasForm ((opening except ++ letters) ++ 93 ∷ [])
listed_form false letters some are = subst HasForm (append-nil (91 ∷ letters ++ 93 ∷ [])) (form.element (subst form.HasElementForm (append-nil (91 ∷ letters ++ 93 ∷ [])) (form.chosen (form.these some are) form.one)) form.none)
listed_form true letters some are = subst HasForm (append-nil (91 ∷ 94 ∷ letters ++ 93 ∷ [])) (form.element (subst form.HasElementForm (append-nil (91 ∷ 94 ∷ letters ++ 93 ∷ [])) (form.chosen (form.others some are) form.one)) form.none)

letters_more : (except : Bool) (letters more : List ℕ) (byte : ℕ) → (opening except ++ letters) ++ byte ∷ more ≡ (opening except ++ (letters ++ byte ∷ [])) ++ more
letters_more except letters more byte = search (rules, append_assoc)

has_some : (letters : List ℕ) (byte : ℕ) → letters ++ byte ∷ [] ≢ []
has_some [] byte e = cc
has_some (first ∷ letters) byte e = cc

listing_stops : (whole : List ℕ) (except : Bool) (letters rest : List ℕ) (listed start place : ℕ) → HasForm whole → SpellsLetters 0 letters listed
    → IsStopped HasForm (whole ++ (opening except ++ letters)) rest → elements_from (listing start except listed) place rest ≡ Err (Unexpected place)
unfolding elements_from
listing_stops whole except letters [] listed start place of_form spelled stops = refl
listing_stops whole except letters (byte ∷ rest) listed start place of_form spelled stops =
    let bad : (more : List ℕ) → HasForm ((opening except ++ letters) ++ byte ∷ more) → ⊥ = no_byte whole (opening except ++ letters) rest byte of_form stops in
    let are = letters_form letters 0 listed spelled in
    let no_close : (byte == 93 && not (listed == 0)) ≡ false = false_from_ne_true (byte == 93 && not (listed == 0))
    (λ is. let parts = and_parts (byte == 93) (not (listed == 0)) is in
    bad [] (subst (λ b. HasForm ((opening except ++ letters) ++ b ∷ [])) (sym (eqb-true byte 93 parts.0))
    (listed_form except letters (some_by letters listed spelled parts.1) are))) in
    let no_letter : piece_with_letter byte ≡ None = no_piece (piece_with_letter byte)
    (λ piece is. bad (93 ∷ []) (subst HasForm (sym (letters_more except letters (93 ∷ []) byte))
    (listed_form except (letters ++ byte ∷ []) (has_some letters byte) (All-append (λ b. is_letter b ≡ true) letters (byte ∷ []) are (All-cons (λ b. is_letter b ≡ true) byte [] (letter_of byte piece is) (All-nil (λ b. is_letter b ≡ true))))))) in
    rw (no_close, no_letter) refl
  where
    some_by : (letters : List ℕ) (listed : ℕ) → SpellsLetters 0 letters listed → not (listed == 0) ≡ true → letters ≢ []
    some_by letters listed spelled some e = search rules

choosing_stops : (whole front rest : List ℕ) (set mark start place : ℕ) → HasForm whole → SpellsSet front set → (mark ≡ 112) ⊎ (mark ≡ 80)
    → IsStopped HasForm (whole ++ (front ++ mark ∷ [])) rest → elements_from (choosing start set) place rest ≡ Err (Unexpected place)
unfolding elements_from
choosing_stops whole front [] set mark start place of_form is marks stops = refl
choosing_stops whole front (byte ∷ rest) set mark start place of_form is marks stops =
    let no_digit : (nat_le 49 byte && nat_le byte 57) ≡ false = false_from_ne_true (nat_le 49 byte && nat_le byte 57)
    (λ digit. let parts = and_parts (nat_le 49 byte) (nat_le byte 57) digit in
    let low = leb-true 49 byte parts.0 in
    let high = leb-true byte 57 parts.1 in
    no_byte whole (front ++ mark ∷ []) rest byte of_form stops []
    (subst HasForm (append-nil (front ++ mark ∷ byte ∷ []) ∙ sym (append_assoc front (mark ∷ []) (byte ∷ [])))
    (form.element (form.chosen (set_form front set is) (subst (λ b. form.HasChosenForm (mark ∷ b ∷ [])) (omega (arith, low)) (form.digit {mark = mark} {n = byte - 48} marks (omega (arith, low)) (omega (arith, high))))) form.none))) in
    rw no_digit refl

-- a bracket is no mark
opening_free : (except : Bool) (more : List ℕ) → NoMark (opening except ++ more)
opening_free except more = search rules

pub set_free : (front more : List ℕ) (set : ℕ) → SpellsSet front set → NoMark (front ++ more)
set_free front more set is = search (rules, set_form)

-- `[` at whose end the form is left isn't followed by `^`
caret_free : (whole letters rest : List ℕ) (listed : ℕ) → HasForm whole → SpellsLetters 0 letters listed → IsStopped HasForm (whole ++ (91 ∷ letters)) rest → NoCaret (letters ++ rest)
caret_free whole (byte ∷ letters) rest listed of_form spelled stops = not_letter byte 94 spelled.0 spelled.1 refl
caret_free whole [] [] listed of_form spelled stops = tt
caret_free whole [] (byte ∷ rest) listed of_form spelled stops = false_from_ne_true (byte == 94)
    (λ is. no_byte whole (91 ∷ []) rest byte of_form stops (73 ∷ 93 ∷ [])
    (subst (λ b. HasForm (91 ∷ b ∷ 73 ∷ 93 ∷ [])) (sym (eqb-true byte 94 is)) (listed_form true (73 ∷ []) (λ e. cc) (All-cons (λ b. is_letter b ≡ true) 73 [] refl (All-nil (λ b. is_letter b ≡ true))))))

listing_is : (whole : List ℕ) (except : Bool) (letters rest : List ℕ) (listed place : ℕ) → HasForm whole → SpellsLetters 0 letters listed → IsStopped HasForm (whole ++ (opening except ++ letters)) rest
    → elements_from outside place ((opening except ++ letters) ++ rest) ≡ Err (Unexpected (place + length (opening except ++ letters)))
listing_is whole true letters rest listed place of_form spelled stops =
    listing_read true letters rest listed place spelled (λ e. cc)
    ∙ listing_stops whole true letters rest listed place (place + length (opening true ++ letters)) of_form spelled stops
listing_is whole false letters rest listed place of_form spelled stops =
    listing_read false letters rest listed place spelled (λ e. caret_free whole letters rest listed of_form spelled stops)
    ∙ listing_stops whole false letters rest listed place (place + length (opening false ++ letters)) of_form spelled stops

marked_read : (front rest : List ℕ) (set mark place : ℕ) → SpellsSet front set → (mark ≡ 112) ⊎ (mark ≡ 80)
    → elements_from outside place ((front ++ mark ∷ []) ++ rest) ≡ elements_from (choosing place set) (place + length (front ++ mark ∷ [])) rest
unfolding elements_from
marked_read front rest set mark place is marks =
    ap (elements_from outside place) (append_assoc front (mark ∷ []) rest)
    ∙ read_set front (mark ∷ rest) set place is
    ∙ marks_read marks
    ∙ ap (λ p. elements_from (choosing place set) p rest) (omega (arith, length-append front (mark ∷ [])))
  where
    marks_read : (mark ≡ 112) ⊎ (mark ≡ 80) → elements_from (closed place set) (place + length front) (mark ∷ rest) ≡ elements_from (choosing place set) (place + length front + 1) rest
    marks_read h0 = search rules

unexpected_in : (whole begun rest : List ℕ) (es : List Element) → SpellsElements whole es → BeginsElement begun → IsStopped HasForm (whole ++ begun) rest
    → elements ((whole ++ begun) ++ rest) ≡ Err (Unexpected (length (whole ++ begun)))
unexpected_in whole begun rest es spelled nothing stops =
    behind whole [] rest es _ spelled (record { free = stopped_free whole rest (subst (λ w. IsStopped HasForm w rest) (append-nil whole) stops) })
    (outside_stops whole rest (0 + length whole) (elements_form whole es spelled) stops)
    ∙ ap (λ p. Err (Unexpected p)) (omega (arith, length-append whole []))
unexpected_in whole begun rest es spelled (fault.listing {listed = listed} begins) stops =
    let at = opens begun listed begins in
    subst (λ b. elements ((whole ++ b) ++ rest) ≡ Err (Unexpected (length (whole ++ b)))) (sym at.is)
    (behind whole (opening at.except ++ at.letters) rest es _ spelled (clear_by whole _ (subst NoMark (sym (append_assoc (opening at.except) at.letters rest)) (opening_free at.except (at.letters ++ rest))))
    (listing_is whole at.except at.letters rest listed (0 + length whole) (elements_form whole es spelled) at.spelled (subst (λ b. IsStopped HasForm (whole ++ b) rest) at.is stops))
    ∙ ap (λ p. Err (Unexpected p)) (omega (arith, length-append whole (opening at.except ++ at.letters))))
unexpected_in whole begun rest es spelled (fault.choosing {front = front} {set = set} {mark = mark} is marks) stops =
    behind whole (front ++ mark ∷ []) rest es _ spelled (clear_by whole _ (subst NoMark (sym (append_assoc front (mark ∷ []) rest)) (set_free front (mark ∷ rest) set is)))
    (marked_read front rest set mark (0 + length whole) is marks
    ∙ choosing_stops whole front rest set mark (0 + length whole) (0 + length whole + length (front ++ mark ∷ [])) (elements_form whole es spelled) is marks stops)
    ∙ ap (λ p. Err (Unexpected p)) (omega (arith, length-append whole (front ++ mark ∷ [])))

pub unexpected_read : (text : List ℕ) (place : ℕ) → IsUnexpectedAt text place → elements text ≡ Err (Unexpected place)
unexpected_read text place at = search (rules, unexpected_in)

-- ---- a letter that stands twice

again_read : (start : ℕ) (except : Bool) (listed place byte : ℕ) (rest : List ℕ) (piece : Piece) → piece_with_letter byte ≡ Some piece → is_in piece listed ≡ true
    → elements_from (listing start except listed) place (byte ∷ rest) ≡ Err (RepeatedPiece place)
unfolding elements_from
again_read start except listed place byte rest piece is again = rw (not_letter byte 93 piece is refl, is, again) refl

pub repeated_read : (text : List ℕ) (place : ℕ) → IsRepeatedAt text place → elements text ≡ Err (RepeatedPiece place)
repeated_read text place at =
    let set = opens at.begun at.listed at.begins in
    let begun = opening set.except ++ set.letters in
    let rest = at.byte ∷ at.rest in
    ap elements (at.divided ∙ ap (λ b. (at.whole ++ b) ++ rest) set.is)
    ∙ behind at.whole begun rest at.elements _ at.spelled (clear_by at.whole _ (subst NoMark (sym (append_assoc (opening set.except) set.letters rest)) (opening_free set.except (set.letters ++ rest))))
    (listing_read set.except set.letters rest at.listed (0 + length at.whole) set.spelled (λ e. letters_free set.letters rest at.listed set.spelled (not_letter at.byte 94 at.piece at.is_letter refl))
    ∙ again_read (0 + length at.whole) set.except at.listed (0 + length at.whole + length begun) at.byte at.rest at.piece at.is_letter at.again)
    ∙ ap (λ p. Err (RepeatedPiece p)) (omega (arith, at.stands, ap (λ b. length (at.whole ++ b)) set.is, length-append at.whole begun))

-- ---- too many pieces are chosen

choice_wrong : (start set n : ℕ) (read : Elements) → (length (pieces_in set) ≡ 0) ⊎ (length (pieces_in set) < n) → before (choice start set n) read ≡ Err (TooManyChosen start)
unfolding choice
choice_wrong start set n read wrong = search (rules, nat_lt, nat_le, nat_tests)

pub too_many_read : (text : List ℕ) (place : ℕ) → IsTooManyAt text place → elements text ≡ Err (TooManyChosen place)
too_many_read text place at =
    let place_in : ℕ = 0 + length at.whole in
    ap elements (at.divided ∙ sym (append_assoc at.whole at.front (at.back ++ at.rest)))
    ∙ behind at.whole at.front (at.back ++ at.rest) at.elements _ at.spelled (clear_by at.whole _ (set_free at.front (at.back ++ at.rest) at.set at.set_spelled))
    (read_set at.front (at.back ++ at.rest) at.set place_in at.set_spelled
    ∙ read_chosen at.back at.rest place_in at.set at.chosen (place_in + length at.front) at.chosen_spelled (λ none. unmarked_of at.rest (at.ends none))
    ∙ choice_wrong place_in at.set at.chosen (elements_from outside (place_in + length at.front + length at.back) at.rest) at.wrong)
    ∙ ap (λ p. Err (TooManyChosen p)) (omega (arith, at.stands))
