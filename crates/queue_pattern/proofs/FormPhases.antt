-- What may follow in each phase of the form of a pattern text.
use Rattle.std.proofs.Common.{◌≡◌, ◌≢◌, ℕ, ◌+◌, ◌-◌, ◌≤◌, true, false, ◌&&◌, ◌||◌, ◌==◌, nat_le, Option, Some, is_some, List, [], ◌∷◌, ◌++◌, append_assoc, refl, sym, ap, subst, ◌∙◌, arith, ◌⊎◌, inl, inr, rules}
use Rattle.std.proofs.lemmas.Bool.{cases_Bool, eqb-true, and_parts, leb-true}
use Rattle.std.proofs.lemmas.List.Elements.{All-nil, All-cons}
use Rattle.srs.specs.declared.piece.Piece.{Piece}
use Rattle.srs.specs.Piece.{piece_with_letter}
use Rattle.queue_pattern.specs.Grammar.{is_gap}
use Rattle.queue_pattern.specs.Form.{is_letter, AreLetters, all, these, others, HasChosenForm, one, digit, every, letter, chosen, HasForm, none, gap, element}
use Rattle.queue_pattern.proofs.Phases.{Phase, between, begun, unlisted, listed, shut, marked, letter_next, between_next, next, is_end}
use Rattle.queue_pattern.proofs.ReadIsSpelled.{mark_of}

pub record AfterSet (rest : List ℕ) : Type 0 where
  pub back : List ℕ
  pub more : List ℕ
  pub divided : rest ≡ back ++ more
  pub says : HasChosenForm back
  pub form : HasForm more

pub record AfterMark (rest : List ℕ) : Type 0 where
  pub n : ℕ
  pub more : List ℕ
  pub divided : rest ≡ (48 + n) ∷ more
  pub least : 1 ≤ n
  pub most : n ≤ 9
  pub form : HasForm more

pub record AfterLetter (rest : List ℕ) : Type 0 where
  pub letters : List ℕ
  pub more : List ℕ
  pub divided : rest ≡ letters ++ 93 ∷ more
  pub are : AreLetters letters
  pub set : AfterSet more

pub record AfterExcept (rest : List ℕ) : Type 0 where
  pub first : ℕ
  pub more : List ℕ
  pub divided : rest ≡ first ∷ more
  pub is : is_letter first ≡ true
  pub later : AfterLetter more

pub record AfterBracket (rest : List ℕ) : Type 0 where
  pub more : List ℕ
  pub divided : rest ≡ 94 ∷ more
  pub later : AfterExcept more

abbrev pub Follows : Phase → List ℕ → Type 0
Follows between rest = HasForm rest
Follows begun rest = AfterExcept rest ⊎ AfterBracket rest
Follows unlisted rest = AfterExcept rest
Follows listed rest = AfterLetter rest
Follows shut rest = AfterSet rest
Follows marked rest = AfterMark rest

-- a phase that is found is the one that is named
phase_is : (found after : Phase) (rest : List ℕ) → Some found ≡ Some after → Follows after rest → Follows found rest
phase_is found after rest leads follows = let same : found ≡ after = cc in subst (λ phase. Follows phase rest) (sym same) follows

letter_is : (o : Option Piece) (found after : Phase) → letter_next o found ≡ Some after → (is_some o ≡ true) × (Some found ≡ Some after)
letter_is o found after leads = search rules

pub brackets : (letters back more : List ℕ) → ((letters ++ 93 ∷ []) ++ back) ++ more ≡ letters ++ 93 ∷ (back ++ more)
brackets letters back more = ap (λ text. text ++ more) (append_assoc letters (93 ∷ []) back) ∙ append_assoc letters (93 ∷ back) more

-- a byte before what may follow
bracketed_form : (rest : List ℕ) → AfterExcept rest → HasForm (91 ∷ rest)
bracketed_form rest after =
    let letters : List ℕ = after.first ∷ after.later.letters in
    let are : AreLetters letters = All-cons (λ byte. is_letter byte ≡ true) after.first after.later.letters after.is after.later.are in
    let some : letters ≢ [] = λ bad. cc in
    let set = after.later.set in
    let whole : HasForm (91 ∷ ((letters ++ 93 ∷ []) ++ set.back) ++ set.more) = element (chosen (these some are) set.says) set.form in
    search (rules, brackets)

excepted_form : (rest : List ℕ) → AfterBracket rest → HasForm (91 ∷ rest)
excepted_form rest bracket =
    let after = bracket.later in
    let letters : List ℕ = after.first ∷ after.later.letters in
    let are : AreLetters letters = All-cons (λ byte. is_letter byte ≡ true) after.first after.later.letters after.is after.later.are in
    let some : letters ≢ [] = λ bad. cc in
    let set = after.later.set in
    let whole : HasForm (91 ∷ 94 ∷ ((letters ++ 93 ∷ []) ++ set.back) ++ set.more) = element (chosen (others some are) set.says) set.form in
    search (rules, brackets)

starred_form : (rest : List ℕ) → AfterSet rest → HasForm (42 ∷ rest)
starred_form rest set =
    let whole : HasForm (42 ∷ set.back ++ set.more) = element (chosen all set.says) set.form in
    subst (λ text. HasForm (42 ∷ text)) (sym set.divided) whole

byte_form : (byte code : ℕ) (rest : List ℕ) → (byte == code) ≡ true → HasForm (code ∷ rest) → HasForm (byte ∷ rest)
byte_form byte code rest is form = subst (λ b. HasForm (b ∷ rest)) (sym (eqb-true byte code is)) form

between_before : (after : Phase) (byte : ℕ) (rest : List ℕ) → between_next byte ≡ Some after → Follows after rest → HasForm (byte ∷ rest)
between_before after byte rest leads follows = elim (cases_Bool (is_gap byte)) [
  | inl is ↦ gap is (phase_is between after rest (sym (rw is refl) ∙ leads) follows)
  | inr no_gap ↦ at_star no_gap (cases_Bool (byte == 42)) (cases_Bool (byte == 91))
]
  where
    at_star : is_gap byte ≡ false → ((byte == 42) ≡ true) ⊎ ((byte == 42) ≡ false) → ((byte == 91) ≡ true) ⊎ ((byte == 91) ≡ false)
        → HasForm (byte ∷ rest)
    at_star no_gap (inl is) bracket = search (rules, shut, byte_form, starred_form, phase_is)
    at_star no_gap (inr no_star) (inl is) = search (rules, begun, byte_form, phase_is, bracketed_form, excepted_form)
    at_star no_gap (inr no_star) (inr no_bracket) =
        let to : between_next byte ≡ letter_next (piece_with_letter byte) between = rw (no_gap, no_star, no_bracket) refl in
        let found = letter_is (piece_with_letter byte) between after (sym to ∙ leads) in
        element (letter found.0) (phase_is between after rest found.1 follows)

listed_before : (byte : ℕ) (rest : List ℕ) → is_letter byte ≡ true → AfterLetter rest → AfterExcept (byte ∷ rest)
listed_before byte rest is later = record { first = byte; more = rest; divided = refl; is = is; later = later }

unlisted_before : (after : Phase) (byte : ℕ) (rest : List ℕ) → letter_next (piece_with_letter byte) listed ≡ Some after
    → Follows after rest → AfterExcept (byte ∷ rest)
unlisted_before after byte rest leads follows = search (rules, letter_is, listed, listed_before, phase_is)

begun_before : (after : Phase) (byte : ℕ) (rest : List ℕ) → next begun byte ≡ Some after → Follows after rest
    → Follows begun (byte ∷ rest)
begun_before after byte rest leads follows =
    search (rules, cases_Bool, begun, unlisted, eqb-true, phase_is, listed, unlisted_before)

listed_on : (byte : ℕ) (rest : List ℕ) → is_letter byte ≡ true → AfterLetter rest → AfterLetter (byte ∷ rest)
listed_on byte rest is later = record {
  letters = byte ∷ later.letters;
  more = later.more;
  divided = ap (λ text. byte ∷ text) later.divided;
  are = All-cons (λ b. is_letter b ≡ true) byte later.letters is later.are;
  set = later.set;
}

listed_more : (after : Phase) (byte : ℕ) (rest : List ℕ) → next listed byte ≡ Some after → Follows after rest
    → AfterLetter (byte ∷ rest)
listed_more after byte rest leads follows =
    search (rules, cases_Bool, listed, shut, eqb-true, All-nil, phase_is, letter_is, listed_on)

choosing_before : (byte : ℕ) (rest : List ℕ) → (byte == 112 || byte == 80) ≡ true → AfterMark rest → AfterSet (byte ∷ rest)
choosing_before byte rest is mark = record {
  back = byte ∷ (48 + mark.n) ∷ [];
  more = mark.more;
  divided = ap (λ text. byte ∷ text) mark.divided;
  says = digit (mark_of byte is) mark.least mark.most;
  form = mark.form;
}

shut_before : (after : Phase) (byte : ℕ) (rest : List ℕ) → next shut byte ≡ Some after → Follows after rest
    → AfterSet (byte ∷ rest)
shut_before after byte rest leads follows =
    search (rules, cases_Bool, shut, marked, choosing_before, phase_is, between, eqb-true, every, one, between_before)

marked_before : (after : Phase) (byte : ℕ) (rest : List ℕ) → next marked byte ≡ Some after → Follows after rest
    → AfterMark (byte ∷ rest)
marked_before after byte rest leads follows = elim (cases_Bool (nat_le 49 byte && nat_le byte 57)) [
  | inl is ↦
      let to : next marked byte ≡ Some between = rw is refl in
      let parts = and_parts (nat_le 49 byte) (nat_le byte 57) is in
      let least : 49 ≤ byte = leb-true 49 byte parts.0 in
      record {
        n = byte - 48;
        more = rest;
        divided = ap (λ b. b ∷ rest) (omega (arith, least));
        least = omega (arith, least);
        most = omega (arith, leb-true byte 57 parts.1);
        form = phase_is between after rest (sym to ∙ leads) follows;
      }
  | inr other ↦
      search (rules, marked)
]

pub follows_before : (phase after : Phase) (byte : ℕ) (rest : List ℕ) → next phase byte ≡ Some after → Follows after rest
    → Follows phase (byte ∷ rest)
follows_before phase after byte rest leads follows =
    search (rules, between_before, begun_before, unlisted_before, listed_more, shut_before, marked_before)

-- what is enough to end with
nothing_chosen : AfterSet []
nothing_chosen = record { back = []; more = []; divided = refl; says = one; form = none }

closed_by : AfterLetter (93 ∷ [])
closed_by = search (rules, eqb-true, All-nil, nothing_chosen)

pub ending : Phase → List ℕ
ending between = []
ending begun = 73 ∷ 93 ∷ []
ending unlisted = 73 ∷ 93 ∷ []
ending listed = 93 ∷ []
ending shut = []
ending marked = 49 ∷ []

pub ending_follows : (phase : Phase) → Follows phase (ending phase)
unfolding ending
ending_follows phase = search (rules, none, listed_before, closed_by, nothing_chosen)

pub end_follows : (phase : Phase) → is_end phase ≡ true → Follows phase []
end_follows phase is = search (rules, none, nothing_chosen)
