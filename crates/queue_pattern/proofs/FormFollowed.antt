-- A byte of a text of the form leads on, to what may follow.
use Rattle.std.proofs.Common.{◌≡◌, ℕ, true, false, ◌==◌, nat_le, Option, Some, is_some, List, [], ◌∷◌, ◌++◌, refl, sym, subst, ◌∙◌, inl, inr, rules}
use Rattle.std.proofs.lemmas.Bool.{ne_eqb, eq-eqb, and_from, or_from, le-leb}
use Rattle.std.proofs.lemmas.List.Elements.{All-head, All-tail}
use Rattle.srs.specs.declared.piece.Piece.{Piece}
use Rattle.srs.specs.Piece.{piece_with_letter}
use Rattle.queue_pattern.specs.Form.{is_letter, AreLetters, HasSetForm, all, these, others, HasChosenForm, one, digit, every, HasElementForm, letter, chosen, HasForm}
use Rattle.queue_pattern.proofs.Phases.{Phase, between, begun, unlisted, listed, shut, marked, letter_next, between_next, next, is_end}
use Rattle.queue_pattern.proofs.FormPhases.{AfterSet, AfterMark, AfterLetter, AfterExcept, Follows, brackets}

-- a byte leads on, to what follows
pub record LeadsOn (phase : Phase) (byte : ℕ) (rest : List ℕ) : Type 0 where
  pub after : Phase
  pub leads : next phase byte ≡ Some after
  pub follows : Follows after rest

-- a letter is no byte that means something else
other_byte : (byte code : ℕ) → is_letter byte ≡ true → is_letter code ≡ false → (byte == code) ≡ false
other_byte byte code is free = ne_eqb byte code (λ same. let bad : is_letter code ≡ true = subst (λ b. is_letter b ≡ true) same is in cc)

some_piece : (o : Option Piece) (after : Phase) → is_some o ≡ true → letter_next o after ≡ Some after
some_piece o after is = search rules

letter_between : (byte : ℕ) → is_letter byte ≡ true → between_next byte ≡ Some between
letter_between byte is = search (rules, between, or_from, other_byte, some_piece)

after_letters : (first : ℕ) (letters back more : List ℕ) → AreLetters (first ∷ letters) → HasChosenForm back → HasForm more
    → AfterExcept (first ∷ ((letters ++ 93 ∷ []) ++ back) ++ more)
after_letters first letters back more are says form = record {
  first = first;
  more = ((letters ++ 93 ∷ []) ++ back) ++ more;
  divided = refl;
  is = All-head (λ byte. is_letter byte ≡ true) first letters are;
  later = record {
    letters = letters;
    more = back ++ more;
    divided = brackets letters back more;
    are = All-tail (λ byte. is_letter byte ≡ true) first letters are;
    set = record { back = back; more = more; divided = refl; says = says; form = form };
  };
}

abbrev IsAhead : List ℕ → Type 0
IsAhead [] = Unit {0}
IsAhead (byte ∷ rest) = LeadsOn between byte rest

set_ahead : (front back more : List ℕ) → HasSetForm front → HasChosenForm back → HasForm more → IsAhead ((front ++ back) ++ more)
set_ahead front back more all says form = search (rules, shut)
set_ahead front back more (these {letters = []} some are) says form = absurd (some refl)
set_ahead front back more (these {letters = first ∷ letters} some are) says form = search (rules, begun, after_letters)
set_ahead front back more (others {letters = []} some are) says form = absurd (some refl)
set_ahead front back more (others {letters = first ∷ letters} some are) says form = search (rules, begun, after_letters)

element_ahead : (front more : List ℕ) → HasElementForm front → HasForm more → IsAhead (front ++ more)
element_ahead front more (letter {byte = byte} is) form = record { after = between; leads = letter_between byte is; follows = form }
element_ahead front more (chosen {front = set} {back = back} has says) form = set_ahead set back more has says form

ahead : (text : List ℕ) → HasForm text → IsAhead text
ahead text h1 = search (rules, between, element_ahead)

-- of two texts that are equal, the first bytes and the rests are
first_is : (byte first : ℕ) (rest more : List ℕ) → byte ∷ rest ≡ first ∷ more → byte ≡ first
first_is byte first rest more same = cc

rest_is : (byte first : ℕ) (rest more : List ℕ) → byte ∷ rest ≡ first ∷ more → rest ≡ more
rest_is byte first rest more same = cc

on_letter : (byte : ℕ) (rest : List ℕ) → AfterExcept (byte ∷ rest) → (is_letter byte ≡ true) × AfterLetter rest
on_letter byte rest after = search (rules, first_is, rest_is)

unlisted_ahead : (byte : ℕ) (rest : List ℕ) → AfterExcept (byte ∷ rest) → LeadsOn unlisted byte rest
unlisted_ahead byte rest after = search (rules, on_letter, listed, some_piece)

begun_ahead : (byte : ℕ) (rest : List ℕ) → Follows begun (byte ∷ rest) → LeadsOn begun byte rest
begun_ahead byte rest (inl after) = search (rules, on_letter, begun, listed, other_byte, some_piece)
begun_ahead byte rest (inr bracket) = search (rules, eq-eqb, first_is, unlisted, rest_is)

listed_ahead_of : (byte : ℕ) (rest letters more : List ℕ) → byte ∷ rest ≡ letters ++ 93 ∷ more → AreLetters letters → AfterSet more
    → LeadsOn listed byte rest
listed_ahead_of byte rest [] more divided are set = search (rules, eq-eqb, first_is, shut, rest_is)
listed_ahead_of byte rest (first ∷ letters) more divided are set =
    let same : byte ≡ first = first_is byte first rest (letters ++ 93 ∷ more) divided in
    let is : is_letter byte ≡ true = subst (λ b. is_letter b ≡ true) (sym same) (All-head (λ b. is_letter b ≡ true) first letters are) in
    let past : next listed byte ≡ letter_next (piece_with_letter byte) listed = rw (other_byte byte 93 is refl) refl in
    record {
      after = listed;
      leads = past ∙ some_piece (piece_with_letter byte) listed is;
      follows = record {
        letters = letters;
        more = more;
        divided = rest_is byte first rest (letters ++ 93 ∷ more) divided;
        are = All-tail (λ b. is_letter b ≡ true) first letters are;
        set = set;
      };
    }

past_shut : (byte : ℕ) (rest : List ℕ) → LeadsOn between byte rest → LeadsOn shut byte rest
past_shut byte rest on = search (rules, or_from, ne_eqb, shut)

shut_ahead : (byte : ℕ) (rest back more : List ℕ) → byte ∷ rest ≡ back ++ more → HasChosenForm back → HasForm more
    → LeadsOn shut byte rest
shut_ahead byte rest back more divided one form = past_shut byte rest (ahead (byte ∷ rest) (subst HasForm (sym divided) form))
shut_ahead byte rest back more divided (digit {mark = mark} {n = n} either least most) form =
    search (rules, first_is, marked, rest_is)
shut_ahead byte rest back more divided every form = search (rules, first_is, between, shut, rest_is)

marked_ahead : (byte : ℕ) (rest : List ℕ) → AfterMark (byte ∷ rest) → LeadsOn marked byte rest
marked_ahead byte rest mark = search (rules, first_is, nat_le, and_from, le-leb, between, rest_is)

pub leads_on : (phase : Phase) (byte : ℕ) (rest : List ℕ) → Follows phase (byte ∷ rest) → LeadsOn phase byte rest
leads_on between byte rest follows = ahead (byte ∷ rest) follows
leads_on begun byte rest follows = begun_ahead byte rest follows
leads_on unlisted byte rest follows = unlisted_ahead byte rest follows
leads_on listed byte rest follows = listed_ahead_of byte rest follows.letters follows.more follows.divided follows.are follows.set
leads_on shut byte rest follows = shut_ahead byte rest follows.back follows.more follows.divided follows.says follows.form
leads_on marked byte rest follows = marked_ahead byte rest follows

-- no text ends within an element
ends_there : (text letters more : List ℕ) → [] ≡ letters ++ 93 ∷ more → ⊥
ends_there text [] more divided = cc
ends_there text (first ∷ letters) more divided = cc

pub ends : (phase : Phase) → Follows phase [] → is_end phase ≡ true
ends phase follows = search (rules, ends_there)
