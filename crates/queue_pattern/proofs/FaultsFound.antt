-- A fault that is read stands in the text.
use Rattle.std.proofs.Common.{◌≡◌, ◌≢◌, ℕ, ◌-◌, ◌<◌, ◌≤◌, Bool, true, false, not, ◌&&◌, ◌||◌, ◌==◌, nat_le, eqb-true, leb-true, List, [], ◌∷◌, ◌++◌, length, append_assoc, append-nil, length-append, refl, ap, sym, subst, ◌∙◌, arith, Option, Some, None, Ok, Err, inl, inr, ◌⊎◌, rules}
use Rattle.std.proofs.lemmas.Bool.{and_parts, or_cases}
use Rattle.srs.specs.declared.piece.Piece.{Piece}
use Rattle.srs.specs.Piece.{piece_with_letter}
use Rattle.queue_pattern.specs.declared.element.Element.{Element}
use Rattle.queue_pattern.specs.declared.fault.PatternFault.{PatternFault}
use Rattle.queue_pattern.specs.declared.fault.PatternFault.TheVariants.{Unexpected, RepeatedPiece, TooManyChosen, PatternTooLong, TooManyQueues}
use Rattle.queue_pattern.specs.Queues.{is_in, pieces_in}
use Rattle.queue_pattern.specs.Grammar.{Elements, TextPosition, outside, opened, listing, closed, choosing, bracketed, single, position_step, outside_step, letter_step, listing_step, listed_step, opened_step, closed_step, choosing_step, end, elements, elements_from}
use Rattle.queue_pattern.specs.Spelling.{SpellsLetters, SpellsSet, all, these, others, SpellsChosen, one, digit, every, letter, chosen, none}
use Rattle.queue_pattern.specs.Faults.{BeginsSet, IsUnexpectedAt, IsRepeatedAt, IsTooManyAt, IsUnmarked}
use Rattle.queue_pattern.specs.Faults as fault
use Rattle.queue_pattern.proofs.FormLeft.{left-from_unexpected}
use Rattle.queue_pattern.proofs.SpelledIsRead.{total_some}
use Rattle.queue_pattern.proofs.FaultExplained.{Begun, Choosing, Closed, Explains, Listing, Stands, Whole, before-err, choice-err, elements_more, explained, gap_more, letters_more, no_fault, opening}
use Rattle.queue_pattern.proofs.ReadIsSpelled.{on_if}

-- ---- step by step

module _ (text : List ℕ) (front : List ℕ) (byte place : ℕ) (bytes : List ℕ) (rest : TextPosition → Elements) (f : PatternFault)
    (divided : text ≡ front ++ byte ∷ bytes) (at : place ≡ length front)
    (later : (next : TextPosition) → Stands next (front ++ byte ∷ []) → rest next ≡ Err f → Explains text f) where
  letter_found : Whole front → (found : Option Piece) → piece_with_letter byte ≡ found → letter_step place found rest ≡ Err f → Explains text f
  letter_found whole None is h = explained text (Unexpected place) f h (record {
    whole = front;
    begun = [];
    rest = byte ∷ bytes;
    divided = divided ∙ ap (λ t. t ++ byte ∷ bytes) (sym (append-nil front));
    is = whole;
    begins = fault.nothing;
    stands = at ∙ ap length (sym (append-nil front));
  })
  letter_found whole (Some piece) is h =
      let e : Element = single piece in
      later outside (record { elements = whole.elements ++ e ∷ []; spelled = elements_more front (byte ∷ []) whole.elements e whole.spelled (letter is) }) (before-err e (rest outside) f h)

  outside_found : Whole front → outside_step place byte rest ≡ Err f → Explains text f
  outside_found whole h = search (rules, on_if, outside, gap_more, closed, all, eqb-true, opened, letter_found)

  module _ (start : ℕ) (except : Bool) (listed : ℕ) (stands : Listing front start except listed) where
    begun_set : BeginsSet (opening except ++ stands.letters) listed
    begun_set = search (rules, fault.others, fault.these)

    divided_there : text ≡ (stands.whole ++ (opening except ++ stands.letters)) ++ byte ∷ bytes
    divided_there = divided ∙ ap (λ t. t ++ byte ∷ bytes) stands.joined

    opening_more : (except : Bool) (letters : List ℕ) (more : List ℕ) → (opening except ++ letters) ++ more ≡ opening except ++ (letters ++ more)
    opening_more except letters more = search rules

    joined_more : front ++ byte ∷ [] ≡ stands.whole ++ (opening except ++ (stands.letters ++ byte ∷ []))
    joined_more = search (rules, append_assoc, opening_more)

    listed_found : (found : Option Piece) → piece_with_letter byte ≡ found → listed_step start except listed place found rest ≡ Err f → Explains text f
    listed_found None is h = search (rules, explained, divided_there, fault.listing, begun_set)
    listed_found (Some piece) is h = elim (on_if (is_in piece listed) _ _ _ h) [
      | inl twice ↦ search (rules, explained, divided_there, begun_set)
      | inr once ↦ search (rules, letters_more, joined_more)
    ]

    some_letters : (letters : List ℕ) (listed : ℕ) → SpellsLetters 0 letters listed → not (listed == 0) ≡ true → letters ≢ []
    some_letters letters listed spelled some e = search rules

    closes : (except : Bool) (letters : List ℕ) → letters ≢ [] → SpellsLetters 0 letters listed → SpellsSet (opening except ++ (letters ++ 93 ∷ [])) (bracketed except listed)
    closes except letters some spelled = search (rules, others, these)

    listing_found : listing_step start except listed place byte rest ≡ Err f → Explains text f
    listing_found h =
        search (rules, on_if, and_parts, closed, closes, some_letters, joined_more, eqb-true, listed_found)

  caret : (start : ℕ) → Listing front start false 0 → (byte == 94) ≡ true → Listing (front ++ byte ∷ []) start true 0
  caret start stands is = record {
    whole = stands.whole;
    is = stands.is;
    begins = stands.begins;
    letters = [];
    spelled = refl;
    joined = search (rules, eqb-true, append_assoc, no_letters);
  }
    where
      no_letters : (letters : List ℕ) → SpellsLetters 0 letters 0 → letters ≡ []
      no_letters [] spelled = refl
      no_letters (first ∷ letters) spelled = absurd (total_some (first ∷ letters) 0 (λ e. cc) spelled refl)

  opened_found : (start : ℕ) → Listing front start false 0 → opened_step start place byte rest ≡ Err f → Explains text f
  opened_found start stands h = search (rules, on_if, listing, caret, listing_found)

  module _ (start set : ℕ) (stands : Closed front start set) where
    chosen_whole : (back : List ℕ) (n : ℕ) (done : List ℕ) → SpellsChosen (length (pieces_in set)) back n → 0 < length (pieces_in set) → n ≤ length (pieces_in set) → done ≡ front ++ back → Whole done
    chosen_whole back n done says some enough is =
        let e : Element = record { set = set; chosen = n } in
        record {
          elements = stands.is.elements ++ e ∷ [];
          spelled = search (rules, append_assoc, elements_more, chosen);
        }

    too_many : (back more : List ℕ) (n : ℕ) → SpellsChosen (length (pieces_in set)) back n → (back ≡ [] → IsUnmarked more)
        → (length (pieces_in set) ≡ 0) ⊎ (length (pieces_in set) < n) → text ≡ front ++ (back ++ more) → IsTooManyAt text start
    too_many back more n says ends wrong is = search (rules, append_assoc, chosen)

    unmarked : (byte == 112 || byte == 80) ≡ false → (byte == 33) ≡ false → IsUnmarked (byte ∷ bytes)
    unmarked no_mark no_bang = search rules

    marks : (byte == 112 || byte == 80) ≡ true → (byte ≡ 112) ⊎ (byte ≡ 80)
    marks is = search (rules, or_cases, eqb-true)

    closed_found : closed_step start set place byte rest ≡ Err f → Explains text f
    closed_found h = elim (on_if (byte == 112 || byte == 80) _ _ _ h) [
      | inl mark ↦ search (rules, choosing, marks, append_assoc)
      | inr unmark ↦ elim (on_if (byte == 33) _ _ _ unmark.1) [
        | inl bang ↦
            let is_bang : byte ≡ 33 = eqb-true byte 33 bang.0 in
            elim (choice-err start set (length (pieces_in set)) (rest outside) f bang.1) [
              | inl wrong ↦ explained text (TooManyChosen start) f wrong.1
                  (too_many (33 ∷ []) bytes (length (pieces_in set)) every (λ e. cc) wrong.0 (divided ∙ ap (λ b. front ++ b ∷ bytes) is_bang))
              | inr on ↦ later outside (chosen_whole (33 ∷ []) (length (pieces_in set)) (front ++ byte ∷ []) every on.0 on.1 (ap (λ b. front ++ b ∷ []) is_bang)) on.2
            ]
        | inr other ↦ elim (choice-err start set 1 (outside_step place byte rest) f other.1) [
          | inl wrong ↦ explained text (TooManyChosen start) f wrong.1
              (too_many [] (byte ∷ bytes) 1 one (λ e. unmarked unmark.0 other.0) wrong.0 divided)
          | inr on ↦ outside_found (chosen_whole [] 1 front one on.0 on.1 (sym (append-nil front))) on.2
        ]
      ]
    ]

  module _ (start set : ℕ) (stands : Choosing front start set) where
    front_is : front ≡ (stands.whole ++ stands.text) ++ stands.mark ∷ []
    front_is = stands.joined ∙ sym (append_assoc stands.whole stands.text (stands.mark ∷ []))

    digit_says : (nat_le 49 byte && nat_le byte 57) ≡ true → SpellsChosen (length (pieces_in set)) (stands.mark ∷ byte ∷ []) (byte - 48)
    digit_says is =
        let parts = and_parts (nat_le 49 byte) (nat_le byte 57) is in
        let low = leb-true 49 byte parts.0 in
        let high = leb-true byte 57 parts.1 in
        subst (λ b. SpellsChosen (length (pieces_in set)) (stands.mark ∷ b ∷ []) (byte - 48)) (omega (arith, low))
        (digit {mark = stands.mark} {n = byte - 48} stands.marks (omega (arith, low)) (omega (arith, high)))

    two_more : (more : List ℕ) → front ++ byte ∷ more ≡ (stands.whole ++ stands.text) ++ (stands.mark ∷ byte ∷ more)
    two_more more = ap (λ t. t ++ byte ∷ more) front_is ∙ append_assoc (stands.whole ++ stands.text) (stands.mark ∷ []) (byte ∷ more)

    choosing_found : choosing_step start set place byte rest ≡ Err f → Explains text f
    choosing_found h = elim (on_if (nat_le 49 byte && nat_le byte 57) _ _ _ h) [
      | inl in_range ↦
          let says = digit_says in_range.0 in
          elim (choice-err start set (byte - 48) (rest outside) f in_range.1) [
            | inl wrong ↦ explained text (TooManyChosen start) f wrong.1 (record {
              whole = stands.whole;
              front = stands.text;
              back = stands.mark ∷ byte ∷ [];
              rest = bytes;
              divided = divided ∙ two_more bytes ∙ append_assoc stands.whole stands.text (stands.mark ∷ byte ∷ bytes);
              elements = stands.is.elements;
              spelled = stands.is.spelled;
              set = set;
              chosen = byte - 48;
              set_spelled = stands.spelled;
              chosen_spelled = says;
              ends = λ e. cc;
              wrong = wrong.0;
              stands = stands.begins;
            })
            | inr on ↦
                let e : Element = record { set = set; chosen = byte - 48 } in
                later outside (record {
                  elements = stands.is.elements ++ e ∷ [];
                  spelled = search (rules, two_more, append_assoc, elements_more, chosen);
                }) on.2
          ]
      | inr other ↦ search (rules, explained, fault.choosing)
    ]

  step_found : (position : TextPosition) → Stands position front → position_step position place byte rest ≡ Err f → Explains text f
  step_found position stands h =
      search (rules, outside_found, opened_found, listing_found, closed_found, choosing_found)

-- ---- at the end

listing_ends : (text : List ℕ) (start : ℕ) (except : Bool) (listed place : ℕ) → place ≡ length text → Listing text start except listed → Begun text place
listing_ends text start except listed place at stands =
    search (rules, append-nil, fault.listing, fault.others, fault.these)

end_found : (text : List ℕ) (position : TextPosition) (place : ℕ) (f : PatternFault) → place ≡ length text → Stands position text → end position place ≡ Err f → Explains text f
end_found text outside place f at stands h = absurd (no_fault [] f h)
end_found text (opened start) place f at stands h = explained text (Unexpected place) f h (listing_ends text start false 0 place at stands)
end_found text (listing start except listed) place f at stands h = explained text (Unexpected place) f h (listing_ends text start except listed place at stands)
end_found text (closed start set) place f at stands h = elim (choice-err start set 1 (Ok []) f h) [
  | inl wrong ↦ explained text (TooManyChosen start) f wrong.1 (record {
    whole = stands.whole;
    front = stands.text;
    back = [];
    rest = [];
    divided = stands.joined ∙ ap (λ t. stands.whole ++ t) (sym (append-nil stands.text));
    elements = stands.is.elements;
    spelled = stands.is.spelled;
    set = set;
    chosen = 1;
    set_spelled = stands.spelled;
    chosen_spelled = one;
    ends = λ e. tt;
    wrong = wrong.0;
    stands = stands.begins;
  })
  | inr on ↦ absurd (no_fault [] f on.2)
]
end_found text (choosing start set) place f at stands h = search (rules, explained, append-nil, fault.choosing)

found : (bytes text front : List ℕ) (position : TextPosition) (place : ℕ) (f : PatternFault) → text ≡ front ++ bytes → place ≡ length front → Stands position front
    → elements_from position place bytes ≡ Err f → Explains text f
unfolding elements_from
found [] text front position place f divided at stands h = search (rules, append-nil, end_found)
found (byte ∷ bytes) text front position place f divided at stands h =
    search (rules, step_found, append_assoc, length-append, (found bytes text (front ++ byte ∷ [])))

explains : (text : List ℕ) (f : PatternFault) → elements text ≡ Err f → Explains text f
explains text f h = found text text [] outside 0 f refl refl (record { elements = []; spelled = none }) h

-- ---- and there the form ends

same_front : (a b c d : List ℕ) → a ++ b ≡ c ++ d → length a ≡ length c → (a ≡ c) × (b ≡ d)
same_front [] b [] d same size = (refl, same)
same_front [] b (y ∷ c) d same size = absurd (omega (arith, size))
same_front (x ∷ a) b [] d same size = absurd (omega (arith, size))
same_front (x ∷ a) b (y ∷ c) d same size = search (rules, (same_front a b c d))

pub unexpected_found : (text : List ℕ) (place : ℕ) → elements text ≡ Err (Unexpected place) → IsUnexpectedAt text place
unexpected_found text place h =
    let begun = explains text (Unexpected place) h in
    let left = left-from_unexpected text place h in
    search (rules, same_front)

pub repeated_found : (text : List ℕ) (place : ℕ) → elements text ≡ Err (RepeatedPiece place) → IsRepeatedAt text place
repeated_found text place h = explains text (RepeatedPiece place) h

pub too_many_found : (text : List ℕ) (place : ℕ) → elements text ≡ Err (TooManyChosen place) → IsTooManyAt text place
too_many_found text place h = explains text (TooManyChosen place) h

pub never_long : (text : List ℕ) → elements text ≡ Err PatternTooLong → ⊥
never_long text h = explains text PatternTooLong h

pub never_many : (text : List ℕ) → elements text ≡ Err TooManyQueues → ⊥
never_many text h = explains text TooManyQueues h
