-- What is spelled is of the form, and a byte that leaves the form leads on nowhere.
use Rattle.std.proofs.Common.{◌≡◌, ℕ, true, List, [], ◌∷◌, ◌++◌, append_assoc, ap, sym, subst, Option, Some, None, is_some, rules}
use Rattle.std.proofs.lemmas.List.Elements.{All-nil, All-cons}
use Rattle.srs.specs.declared.piece.Piece.{Piece}
use Rattle.srs.specs.Piece.{piece_with_letter}
use Rattle.queue_pattern.specs.declared.element.Element.{Element}
use Rattle.queue_pattern.specs.Spelling.{SpellsLetters, SpellsSet, SpellsChosen, SpellsElement, SpellsElements}
use Rattle.queue_pattern.specs.Spelling as spelling
use Rattle.srs.specs.Forms.{IsStopped}
use Rattle.queue_pattern.specs.Form.{is_letter, AreLetters, HasSetForm, all, these, others, HasChosenForm, one, digit, every, HasElementForm, letter, chosen, HasForm, none, gap, element}

pub letter_of : (byte : ℕ) (piece : Piece) → piece_with_letter byte ≡ Some piece → is_letter byte ≡ true
letter_of byte piece is = ap is_some is

pub letters_form : (letters : List ℕ) (so_far total : ℕ) → SpellsLetters so_far letters total → AreLetters letters
letters_form [] so_far total spelled = All-nil (λ byte. is_letter byte ≡ true)
letters_form (byte ∷ letters) so_far total spelled =
    All-cons (λ byte. is_letter byte ≡ true) byte letters (letter_of byte spelled.0 spelled.1) (letters_form letters _ total spelled.3)

pub set_form : (text : List ℕ) (set : ℕ) → SpellsSet text set → HasSetForm text
set_form text set h2 = search (rules, all, these, letters_form, others)

chosen_form : (size n : ℕ) (text : List ℕ) → SpellsChosen size text n → HasChosenForm text
chosen_form size n text spelling.one = one
chosen_form size n text (spelling.digit mark low high) = digit mark low high
chosen_form size n text spelling.every = every

element_form : (text : List ℕ) (e : Element) → SpellsElement text e → HasElementForm text
element_form text e h2 = search (rules, letter, letter_of, chosen, set_form, chosen_form)

pub elements_form : (text : List ℕ) (es : List Element) → SpellsElements text es → HasForm text
elements_form text es spelling.none = none
elements_form text es (spelling.gap {text = later} {elements = more} is spelled) = gap is (elements_form later more spelled)
elements_form text es (spelling.element {front = front} {rest = rest} {first = first} {elements = later} is spelled) =
    element (element_form front first is) (elements_form rest later spelled)

pub forms_join : (text more : List ℕ) → HasForm text → HasForm more → HasForm (text ++ more)
forms_join text more none after = after
forms_join text more (gap {byte = byte} {text = later} is form) after = gap is (forms_join later more form after)
forms_join text more (element {front = front} {rest = rest} is form) after =
    subst HasForm (sym (append_assoc front rest more)) (element is (forms_join rest more form after))

-- at a byte that leaves the form, nothing of the form goes on
pub no_byte : (whole begun more : List ℕ) (byte : ℕ) → HasForm whole → IsStopped HasForm (whole ++ begun) (byte ∷ more) → (rest : List ℕ) → HasForm (begun ++ byte ∷ rest) → ⊥
no_byte whole begun more byte form stops rest goes =
    stops (record {
      rest = rest;
      form = search (rules, append_assoc, forms_join);
    })

pub no_end : (whole begun : List ℕ) → HasForm whole → IsStopped HasForm (whole ++ begun) [] → HasForm begun → ⊥
no_end whole begun form stops goes = stops (forms_join whole begun form goes)

-- what has no piece is no letter
pub no_piece : (found : Option Piece) → ((piece : Piece) → found ≡ Some piece → ⊥) → found ≡ None
no_piece found bad = search rules
