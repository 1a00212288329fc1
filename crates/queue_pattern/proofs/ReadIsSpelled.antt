-- The grammar as a relation and the function that reads a text agree: what is read is spelled.
use Rattle.std.proofs.Common.{◌≡◌, ◌≢◌, ℕ, ◌+◌, ◌-◌, ◌<◌, ◌≤◌, Bool, true, false, not, cond, ◌&&◌, ◌||◌, ◌==◌, nat_lt, nat_le, ltb-true, leb-true, eqb-true, List, [], ◌∷◌, ◌++◌, length, append_assoc, bit_or, refl, ap, sym, subst, ◌∙◌, arith, Option, Some, None, Ok, inl, inr, ◌⊎◌, rules}
use Rattle.std.proofs.lemmas.Bool.{cases_Bool, and_parts, or_cases}
use Rattle.srs.specs.declared.piece.Piece.{Piece}
use Rattle.srs.specs.Piece.{piece_with_letter}
use Rattle.queue_pattern.specs.declared.element.Element.{Element}
use Rattle.queue_pattern.specs.Queues.{is_in, pieces_in}
use Rattle.queue_pattern.specs.Grammar.{TextPosition, Elements, outside, opened, listing, closed, choosing, choice, before, bracketed, is_gap, set_of, single, all_set, position_step, outside_step, letter_step, listing_step, listed_step, opened_step, closed_step, choosing_step, end, elements_from}
use Rattle.queue_pattern.specs.Spelling.{SpellsLetters, SpellsSet, all, these, others, SpellsChosen, one, digit, every, letter, chosen, SpellsElements, none, gap, element}

-- a choice by a test
pub on_if : {A : Type 0} (b : Bool) (x y z : A) → cond b x y ≡ z → ((b ≡ true) × (x ≡ z)) ⊎ ((b ≡ false) × (y ≡ z))
on_if A x y z h = search rules

-- what stands before the rest
record Before (e : Element) (rest : Elements) (elements : List Element) : Type 0 where
  later : List Element
  rest_is : rest ≡ Ok later
  whole : elements ≡ e ∷ later

before-ok : (e : Element) (rest : Elements) (elements : List Element) → before (Ok e) rest ≡ Ok elements → Before e rest elements
before-ok e rest elements h = search rules

record Chosen (set n : ℕ) (rest : Elements) (elements : List Element) : Type 0 where
  some : 0 < length (pieces_in set)
  enough : n ≤ length (pieces_in set)
  before_rest : Before (record { set = set; chosen = n }) rest elements

choice-ok : (start set n : ℕ) (rest : Elements) (elements : List Element) → before (choice start set n) rest ≡ Ok elements → Chosen set n rest elements
unfolding choice
choice-ok start set n rest elements h =
    search (rules, cases_Bool, nat_lt, nat_le, and_parts, ltb-true, leb-true, before-ok)

-- what a text goes on with after a set
record Ends (set : ℕ) (text : List ℕ) (elements : List Element) : Type 0 where
  back : List ℕ
  rest : List ℕ
  n : ℕ
  later : List Element
  whole : text ≡ back ++ rest
  says : SpellsChosen (length (pieces_in set)) back n
  some : 0 < length (pieces_in set)
  enough : n ≤ length (pieces_in set)
  are : elements ≡ (record { set = set; chosen = n }) ∷ later
  follows : SpellsElements rest later

record Chooses (set : ℕ) (text : List ℕ) (elements : List Element) : Type 0 where
  n : ℕ
  rest : List ℕ
  later : List Element
  whole : text ≡ (48 + n) ∷ rest
  low : 1 ≤ n
  high : n ≤ 9
  some : 0 < length (pieces_in set)
  enough : n ≤ length (pieces_in set)
  are : elements ≡ (record { set = set; chosen = n }) ∷ later
  follows : SpellsElements rest later

record Lists (except : Bool) (so_far : ℕ) (text : List ℕ) (elements : List Element) : Type 0 where
  letters : List ℕ
  total : ℕ
  rest : List ℕ
  whole : text ≡ letters ++ 93 ∷ rest
  spelled : SpellsLetters so_far letters total
  some : total ≢ 0
  ends : Ends (bracketed except total) rest elements

-- what a text goes on with from a position
abbrev Goes : TextPosition → List ℕ → List Element → Type 0
Goes outside text elements = SpellsElements text elements
Goes (opened start) text elements = ((rest : List ℕ) × (text ≡ 94 ∷ rest) × Lists true 0 rest elements) ⊎ Lists false 0 text elements
Goes (listing start except so_far) text elements = Lists except so_far text elements
Goes (closed start set) text elements = Ends set text elements
Goes (choosing start set) text elements = Chooses set text elements

same_elements : {text : List ℕ} {a b : List Element} → a ≡ b → SpellsElements text a → SpellsElements text b
same_elements {text = text} e h = subst (λ es. SpellsElements text es) e h

same_text : {s t : List ℕ} {elements : List Element} → s ≡ t → SpellsElements s elements → SpellsElements t elements
same_text {elements = elements} e h = subst (λ text. SpellsElements text elements) e h

-- a set and what follows it make an element
with_set : (front text : List ℕ) (set : ℕ) (elements : List Element) → SpellsSet front set → Ends set text elements → SpellsElements (front ++ text) elements
with_set front text set elements spelled ends = search (rules, same_elements, same_text, append_assoc, element, chosen)

-- letters that make a set that is not empty are some
some_letters : (letters : List ℕ) (total : ℕ) → SpellsLetters 0 letters total → total ≢ 0 → letters ≢ []
some_letters letters total spelled some e = search rules

brackets : (letters rest : List ℕ) → 91 ∷ (letters ++ 93 ∷ rest) ≡ (91 ∷ letters ++ 93 ∷ []) ++ rest
brackets letters rest = ap (λ t. 91 ∷ t) (sym (append_assoc letters (93 ∷ []) rest))

with_lists : (text : List ℕ) (elements : List Element) → Lists false 0 text elements → SpellsElements (91 ∷ text) elements
with_lists text elements lists =
    same_text (sym (ap (λ t. 91 ∷ t) lists.whole ∙ brackets lists.letters lists.rest))
    (with_set (91 ∷ lists.letters ++ 93 ∷ []) lists.rest lists.total elements (these (some_letters lists.letters lists.total lists.spelled lists.some) lists.spelled) lists.ends)

with_others : (text : List ℕ) (elements : List Element) → Lists true 0 text elements → SpellsElements (91 ∷ 94 ∷ text) elements
with_others text elements lists =
    same_text (sym (ap (λ t. 91 ∷ 94 ∷ t) lists.whole ∙ ap (λ t. 91 ∷ 94 ∷ t) (sym (append_assoc lists.letters (93 ∷ []) lists.rest))))
    (with_set (91 ∷ 94 ∷ lists.letters ++ 93 ∷ []) lists.rest (all_set - lists.total) elements (others lists.total (some_letters lists.letters lists.total lists.spelled lists.some) lists.spelled) lists.ends)

-- one byte before what the text goes on with
outside-goes : (place byte : ℕ) (bytes : List ℕ) (rest : TextPosition → Elements) (elements : List Element)
    → ((position : TextPosition) (es : List Element) → rest position ≡ Ok es → Goes position bytes es)
    → outside_step place byte rest ≡ Ok elements → SpellsElements (byte ∷ bytes) elements
outside-goes place byte bytes rest elements ih h = elim (on_if (is_gap byte) _ _ _ h) [
  | inl g ↦ gap g.0 (ih outside elements g.1)
  | inr g ↦ elim (on_if (byte == 42) _ _ _ g.1) [
    | inl star ↦ subst (λ b. SpellsElements (b ∷ bytes) elements) (sym (eqb-true byte 42 star.0)) (with_set (42 ∷ []) bytes all_set elements all (ih (closed place all_set) elements star.1))
    | inr s ↦ elim (on_if (byte == 91) _ _ _ s.1) [
      | inl bracket ↦ subst (λ b. SpellsElements (b ∷ bytes) elements) (sym (eqb-true byte 91 bracket.0)) (open_goes bytes elements (ih (opened place) elements bracket.1))
      | inr l ↦ letters (piece_with_letter byte) refl l.1
    ]
  ]
]
  where
    open_goes : (bytes : List ℕ) (elements : List Element) → Goes (opened place) bytes elements → SpellsElements (91 ∷ bytes) elements
    open_goes bytes elements h2 = search (rules, same_text, with_others, with_lists)

    letters : (o : Option Piece) → piece_with_letter byte ≡ o → letter_step place o rest ≡ Ok elements → SpellsElements (byte ∷ bytes) elements
    letters None is h = cc
    letters (Some piece) is h =
        let b = before-ok (single piece) (rest outside) elements h in
        same_elements (sym b.whole) (element (letter is) (ih outside b.later b.rest_is))

listing-goes : (start : ℕ) (except : Bool) (so_far place byte : ℕ) (bytes : List ℕ) (rest : TextPosition → Elements) (elements : List Element)
    → ((position : TextPosition) (es : List Element) → rest position ≡ Ok es → Goes position bytes es)
    → listing_step start except so_far place byte rest ≡ Ok elements → Lists except so_far (byte ∷ bytes) elements
listing-goes start except so_far place byte bytes rest elements ih h = elim (on_if (byte == 93 && not (so_far == 0)) _ _ _ h) [
  | inl ends ↦
      let parts = and_parts _ _ ends.0 in
      record { letters = []; total = so_far; rest = bytes; whole = ap (λ b. b ∷ bytes) (eqb-true byte 93 parts.0); spelled = refl; some = not_zero so_far parts.1; ends = ih (closed start (bracketed except so_far)) elements ends.1 }
  | inr more ↦ letters (piece_with_letter byte) refl more.1
]
  where
    not_zero : (n : ℕ) → not (n == 0) ≡ true → n ≢ 0
    not_zero n h e = let zero_test : (n == 0) ≡ true = ap (λ m. m == 0) e in cc

    letters : (o : Option Piece) → piece_with_letter byte ≡ o → listed_step start except so_far place o rest ≡ Ok elements → Lists except so_far (byte ∷ bytes) elements
    letters None is h = cc
    letters (Some piece) is h = elim (on_if (is_in piece so_far) _ _ _ h) [
      | inl twice ↦ cc
      | inr once ↦
          let lists = ih (listing start except (bit_or so_far (set_of piece))) elements once.1 in
          record { letters = byte ∷ lists.letters; total = lists.total; rest = lists.rest; whole = ap (λ t. byte ∷ t) lists.whole; spelled = (piece, is, once.0, lists.spelled); some = lists.some; ends = lists.ends }
    ]

opened-goes : (start place byte : ℕ) (bytes : List ℕ) (rest : TextPosition → Elements) (elements : List Element)
    → ((position : TextPosition) (es : List Element) → rest position ≡ Ok es → Goes position bytes es)
    → opened_step start place byte rest ≡ Ok elements → Goes (opened start) (byte ∷ bytes) elements
opened-goes start place byte bytes rest elements ih h = elim (on_if (byte == 94) _ _ _ h) [
  | inl except ↦ inl (bytes, ap (λ b. b ∷ bytes) (eqb-true byte 94 except.0), ih (listing start true 0) elements except.1)
  | inr listed ↦ inr (listing-goes start false 0 place byte bytes rest elements ih listed.1)
]

pub mark_of : (byte : ℕ) → (byte == 112 || byte == 80) ≡ true → (byte ≡ 112) ⊎ (byte ≡ 80)
mark_of byte is = search (rules, or_cases, eqb-true)

closed-goes : (start set place byte : ℕ) (bytes : List ℕ) (rest : TextPosition → Elements) (elements : List Element)
    → ((position : TextPosition) (es : List Element) → rest position ≡ Ok es → Goes position bytes es)
    → closed_step start set place byte rest ≡ Ok elements → Ends set (byte ∷ bytes) elements
closed-goes start set place byte bytes rest elements ih h = elim (on_if (byte == 112 || byte == 80) _ _ _ h) [
  | inl mark ↦
      let c = ih (choosing start set) elements mark.1 in
      record {
        back = byte ∷ (48 + c.n) ∷ [];
        rest = c.rest;
        n = c.n;
        later = c.later;
        whole = ap (λ t. byte ∷ t) c.whole;
        says = digit (mark_of byte mark.0) c.low c.high;
        some = c.some;
        enough = c.enough;
        are = c.are;
        follows = c.follows;
      }
  | inr unmarked ↦ elim (on_if (byte == 33) _ _ _ unmarked.1) [
    | inl bang ↦
        let c = choice-ok start set (length (pieces_in set)) (rest outside) elements bang.1 in
        record {
          back = 33 ∷ [];
          rest = bytes;
          n = length (pieces_in set);
          later = c.before_rest.later;
          whole = ap (λ b. b ∷ bytes) (eqb-true byte 33 bang.0);
          says = every;
          some = c.some;
          enough = c.enough;
          are = c.before_rest.whole;
          follows = ih outside c.before_rest.later c.before_rest.rest_is;
        }
    | inr other ↦
        let c = choice-ok start set 1 (outside_step place byte rest) elements other.1 in
        record {
          back = [];
          rest = byte ∷ bytes;
          n = 1;
          later = c.before_rest.later;
          whole = refl;
          says = one;
          some = c.some;
          enough = c.enough;
          are = c.before_rest.whole;
          follows = outside-goes place byte bytes rest c.before_rest.later ih c.before_rest.rest_is;
        }
  ]
]

choosing-goes : (start set place byte : ℕ) (bytes : List ℕ) (rest : TextPosition → Elements) (elements : List Element)
    → ((position : TextPosition) (es : List Element) → rest position ≡ Ok es → Goes position bytes es)
    → choosing_step start set place byte rest ≡ Ok elements → Chooses set (byte ∷ bytes) elements
choosing-goes start set place byte bytes rest elements ih h = elim (on_if (nat_le 49 byte && nat_le byte 57) _ _ _ h) [
  | inl in_range ↦
      let parts = and_parts _ _ in_range.0 in
      let low = leb-true 49 byte parts.0 in
      let high = leb-true byte 57 parts.1 in
      let c = choice-ok start set (byte - 48) (rest outside) elements in_range.1 in
      record {
        n = byte - 48;
        rest = bytes;
        later = c.before_rest.later;
        whole = ap (λ b. b ∷ bytes) (omega arith);
        low = omega arith;
        high = omega arith;
        some = c.some;
        enough = c.enough;
        are = c.before_rest.whole;
        follows = ih outside c.before_rest.later c.before_rest.rest_is;
      }
  | inr no_digit ↦ cc
]

step-goes : (position : TextPosition) (place byte : ℕ) (bytes : List ℕ) (rest : TextPosition → Elements) (elements : List Element)
    → ((position : TextPosition) (es : List Element) → rest position ≡ Ok es → Goes position bytes es)
    → position_step position place byte rest ≡ Ok elements → Goes position (byte ∷ bytes) elements
step-goes position place byte bytes rest elements ih h =
    search (rules, outside-goes, opened-goes, listing-goes, closed-goes, choosing-goes)

abbrev the_elements : Elements → Elements
the_elements read = read

ok_same : (a b : List Element) → the_elements (Ok a) ≡ the_elements (Ok b) → a ≡ b
ok_same a b e = cc

end-goes : (position : TextPosition) (place : ℕ) (elements : List Element) → end position place ≡ Ok elements → Goes position [] elements
end-goes outside place elements h = same_elements {text = []} (ok_same [] elements h) none
end-goes (opened start) place elements h = cc
end-goes (listing start except so_far) place elements h = cc
end-goes (closed start set) place elements h =
    let c = choice-ok start set 1 (Ok []) elements h in
    record {
      back = [];
      rest = [];
      n = 1;
      later = c.before_rest.later;
      whole = refl;
      says = one;
      some = c.some;
      enough = c.enough;
      are = c.before_rest.whole;
      follows = same_elements {text = []} (ok_same [] c.before_rest.later c.before_rest.rest_is) none;
    }
end-goes (choosing start set) place elements h = cc

goes : (text : List ℕ) (position : TextPosition) (place : ℕ) (elements : List Element) → elements_from position place text ≡ Ok elements → Goes position text elements
unfolding elements_from
goes [] position place elements h = end-goes position place elements h
goes (byte ∷ bytes) position place elements h = search (rules, step-goes, (goes bytes))

-- what a text is read as, it spells
pub spelled-from_read : (text : List ℕ) (elements : List Element) → elements_from outside 0 text ≡ Ok elements → SpellsElements text elements
spelled-from_read text elements h = goes text outside 0 elements h
