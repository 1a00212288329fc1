-- What stands before a position in a text, and how a fault there is explained by it.
use Rattle.std.proofs.Common.{◌≡◌, ℕ, ◌<◌, ◌≤◌, Bool, true, false, nat_lt, nat_le, leb-true, ltb-true, List, [], ◌∷◌, ◌++◌, length, append_assoc, append-nil, bit_or, sym, subst, Some, Ok, Err, ◌⊎◌, rules}
use Rattle.std.proofs.lemmas.Bool.{cases_Bool, and_parts}
use Rattle.std.proofs.lemmas.Bool.Decides.{nat_tests}
use Rattle.srs.specs.declared.piece.Piece.{Piece}
use Rattle.srs.specs.Piece.{piece_with_letter}
use Rattle.queue_pattern.specs.declared.element.Element.{Element}
use Rattle.queue_pattern.specs.declared.fault.PatternFault.{PatternFault}
use Rattle.queue_pattern.specs.declared.fault.PatternFault.TheVariants.{Unexpected, RepeatedPiece, TooManyChosen}
use Rattle.queue_pattern.specs.Queues.{is_in, pieces_in}
use Rattle.queue_pattern.specs.Grammar.{Elements, TextPosition, outside, opened, listing, closed, choosing, choice, before, is_gap, set_of}
use Rattle.queue_pattern.specs.Spelling.{SpellsLetters, SpellsSet, SpellsElement, SpellsElements, none, gap, element}
use Rattle.queue_pattern.specs.Faults.{BeginsElement, IsRepeatedAt, IsTooManyAt}

-- ---- one more byte of what stands

pub elements_more : (whole text : List ℕ) (es : List Element) (e : Element) → SpellsElements whole es → SpellsElement text e → SpellsElements (whole ++ text) (es ++ e ∷ [])
elements_more whole text es e none one_more = subst (λ t. SpellsElements t (e ∷ [])) (append-nil text) (element one_more none)
elements_more whole text es e (gap {text = later} is spelled) one_more = gap is (elements_more later text es e spelled one_more)
elements_more whole text es e (element {front = front} {rest = rest} {elements = later} first spelled) one_more =
    subst (λ t. SpellsElements t (es ++ e ∷ [])) (sym (append_assoc front rest text)) (element first (elements_more rest text later e spelled one_more))

pub gap_more : (whole : List ℕ) (byte : ℕ) (es : List Element) → SpellsElements whole es → is_gap byte ≡ true → SpellsElements (whole ++ byte ∷ []) es
gap_more whole byte es none is_one = gap is_one none
gap_more whole byte es (gap {text = later} is spelled) is_one = gap is (gap_more later byte es spelled is_one)
gap_more whole byte es (element {front = front} {rest = rest} {elements = later} first spelled) is_one =
    subst (λ t. SpellsElements t es) (sym (append_assoc front rest (byte ∷ []))) (element first (gap_more rest byte later spelled is_one))

pub letters_more : (letters : List ℕ) (so_far listed byte : ℕ) (piece : Piece) → SpellsLetters so_far letters listed → piece_with_letter byte ≡ Some piece → is_in piece listed ≡ false
    → SpellsLetters so_far (letters ++ byte ∷ []) (bit_or listed (set_of piece))
letters_more [] so_far listed byte piece spelled is new = search (rules, bit_or)
letters_more (first ∷ letters) so_far listed byte piece spelled is new = search (rules, (letters_more letters))

-- ---- what stands before a position

-- whole elements
pub record Whole (front : List ℕ) : Type 0 where
  pub elements : List Element
  pub spelled : SpellsElements front elements

-- `[`, with `^` behind it or not
abbrev pub opening : Bool → List ℕ
opening true = 91 ∷ 94 ∷ []
opening false = 91 ∷ []

-- whole elements and a bracket with letters
pub record Listing (front : List ℕ) (start : ℕ) (except : Bool) (listed : ℕ) : Type 0 where
  pub whole : List ℕ
  pub is : Whole whole
  pub begins : start ≡ length whole
  pub letters : List ℕ
  pub spelled : SpellsLetters 0 letters listed
  pub joined : front ≡ whole ++ (opening except ++ letters)

-- whole elements and a set
pub record Closed (front : List ℕ) (start set : ℕ) : Type 0 where
  pub whole : List ℕ
  pub is : Whole whole
  pub begins : start ≡ length whole
  pub text : List ℕ
  pub spelled : SpellsSet text set
  pub joined : front ≡ whole ++ text

-- and `p`
pub record Choosing (front : List ℕ) (start set : ℕ) : Type 0 where
  pub whole : List ℕ
  pub is : Whole whole
  pub begins : start ≡ length whole
  pub text : List ℕ
  pub spelled : SpellsSet text set
  pub mark : ℕ
  pub marks : (mark ≡ 112) ⊎ (mark ≡ 80)
  pub joined : front ≡ whole ++ (text ++ mark ∷ [])

abbrev pub Stands : TextPosition → List ℕ → Type 0
Stands outside front = Whole front
Stands (opened start) front = Listing front start false 0
Stands (listing start except listed) front = Listing front start except listed
Stands (closed start set) front = Closed front start set
Stands (choosing start set) front = Choosing front start set

-- ---- the fault that stands in a text, but for that the form ends at an unexpected byte

pub record Begun (text : List ℕ) (place : ℕ) : Type 0 where
  pub whole : List ℕ
  pub begun : List ℕ
  pub rest : List ℕ
  pub divided : text ≡ (whole ++ begun) ++ rest
  pub is : Whole whole
  pub begins : BeginsElement begun
  pub stands : place ≡ length (whole ++ begun)

abbrev pub Explains : List ℕ → PatternFault → Type 0
Explains text (Unexpected place) = Begun text place
Explains text (RepeatedPiece place) = IsRepeatedAt text place
Explains text (TooManyChosen place) = IsTooManyAt text place
Explains text other = ⊥

pub same_fault : (f other : PatternFault) → ◌≡◌ {A = Elements} (Err f) (Err other) → f ≡ other
same_fault f other e = cc

pub no_fault : (es : List Element) (f : PatternFault) → ◌≡◌ {A = Elements} (Ok es) (Err f) → ⊥
no_fault es f e = cc

pub explained : (text : List ℕ) (g f : PatternFault) → ◌≡◌ {A = Elements} (Err g) (Err f) → Explains text g → Explains text f
explained text g f e is = subst (Explains text) (same_fault g f e) is

pub before-err : (e : Element) (read : Elements) (f : PatternFault) → before (Ok e) read ≡ Err f → read ≡ Err f
before-err e read f h = search rules

-- a choice is wrong, or what follows has the fault
pub choice-err : (start set n : ℕ) (read : Elements) (f : PatternFault) → before (choice start set n) read ≡ Err f
    → (((length (pieces_in set) ≡ 0) ⊎ (length (pieces_in set) < n)) × (◌≡◌ {A = Elements} (Err (TooManyChosen start)) (Err f)))
    ⊎ ((0 < length (pieces_in set)) × (n ≤ length (pieces_in set)) × (read ≡ Err f))
unfolding choice
choice-err start set n read f h =
    search (rules, cases_Bool, nat_lt, nat_le, and_parts, ltb-true, leb-true, before-err, nat_tests)
