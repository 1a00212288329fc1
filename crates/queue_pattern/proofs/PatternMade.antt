-- A text that is read within the limits has a pattern.
use Rattle.std.proofs.Common.{◌≡◌, ℕ, ◌-◌, ◌<◌, ◌≤◌, true, nat_lt, nat_le, List, [], ◌∷◌, ◌++◌, length, length-append, take, replicate, bit_or, refl, ap, sym, ◌∙◌, arith, Ok, Err, rules}
use Rattle.std.specs.List.{list_all}
use Rattle.std.proofs.lemmas.Bool.{and_from, lt-ltb, le-leb}
use Rattle.std.proofs.lemmas.Bool.Decides.{nat_tests}
use Rattle.std.proofs.lemmas.List.{length-replicate, take-append-le, take_all}
use Rattle.std.proofs.lemmas.Nat.{or_lt}
use Rattle.srs.specs.declared.piece.Piece.{Piece}
use Rattle.srs.proofs.CallerLemmas.{each_piece}
use Rattle.queue_pattern.specs.declared.element.Element.{Element}
use Rattle.queue_pattern.specs.declared.fault.PatternFault.{PatternFault}
use Rattle.queue_pattern.specs.declared.pattern.Pattern.{Pattern}
use Rattle.queue_pattern.specs.Grammar.{Elements, elements, limited, set_of}
use Rattle.queue_pattern.specs.Pattern.{elements_of}
use Rattle.queue_pattern.specs.Queues.{pieces_in, queue_count, queue_len}
use Rattle.queue_pattern.specs.Sound.{is_sound}
use Rattle.queue_pattern.specs.Spelling.{SpellsLetters, SpellsChosen, SpellsElement, SpellsElements, none, gap, element}
use Rattle.queue_pattern.proofs.FaultLaws.{at_most}
use Rattle.queue_pattern.proofs.LimitLemmas.{length-le-queue_len, queue_count-some}
use Rattle.queue_pattern.proofs.ReadIsSpelled.{on_if, spelled-from_read}
use Rattle.queue_pattern.proofs.SetLemmas.{single-sound}

-- ---- what is spelled is sound

set_small : (piece : Piece) → set_of piece < 128
set_small piece = grind (arith, nat_tests, each_piece (λ p. nat_lt (set_of p) 128) refl piece)

letters_small : (letters : List ℕ) (so_far total : ℕ) → so_far < 128 → SpellsLetters so_far letters total → total < 128
letters_small [] so_far total small spelled = omega (arith, small, spelled)
letters_small (byte ∷ letters) so_far total small spelled =
    letters_small letters (bit_or so_far (set_of spelled.0)) total (or_lt 7 so_far (set_of spelled.0) small (set_small spelled.0)) spelled.3

some_chosen : (size n : ℕ) (text : List ℕ) → SpellsChosen size text n → 0 < size → 0 < n
some_chosen size n text h3 some = search rules

pub sound_of : (set n : ℕ) → set < 128 → 0 < n → n ≤ length (pieces_in set) → is_sound (record { set = set; chosen = n }) ≡ true
unfolding is_sound
sound_of set n small some enough = search (rules, and_from, nat_lt, nat_le, lt-ltb, le-leb)

element_sound : (text : List ℕ) (e : Element) → SpellsElement text e → is_sound e ≡ true
element_sound text e spelled = search (rules, single-sound, sound_of, letters_small, some_chosen)

elements_sound : (text : List ℕ) (es : List Element) → SpellsElements text es → list_all is_sound es ≡ true
elements_sound text es none = refl
elements_sound text es (gap {text = later} is spelled) = elements_sound later es spelled
elements_sound text es (element {front = front} {rest = rest} {first = e} {elements = later} is spelled) =
    and_from (is_sound e) (list_all is_sound later) (element_sound front e is) (elements_sound rest later spelled)

-- ---- so a pattern keeps it

none_chosen : Element
none_chosen = record { set = 0; chosen = 0 }

kept : List Element → List Element
kept es = es ++ replicate (22 - length es) none_chosen

kept-length : (es : List Element) → length es ≤ 22 → length (kept es) ≡ 22
unfolding kept
kept-length es few = omega (arith, few, length-append es (replicate (22 - length es) none_chosen), length-replicate (22 - length es) none_chosen)

kept-front : (es : List Element) → take (length es) (kept es) ≡ es
unfolding kept
kept-front es = take-append-le (length es) es (replicate (22 - length es) none_chosen) (omega arith) ∙ take_all (length es) es (omega arith)

record Limits (es : List Element) : Type 0 where
  short : queue_len es ≤ 22
  few : queue_count es ≤ 10000000

no_fault : (f : PatternFault) (es : List Element) → ◌≡◌ {A = Elements} (Err f) (Ok es) → ⊥
no_fault f es e = cc

limits_of : (read : Elements) (es : List Element) → limited read ≡ Ok es → (read ≡ Ok es) × Limits es
limits_of read es is = search (rules, no_fault, on_if, nat_lt, at_most)

pub pattern-made : (text : List ℕ) (es : List Element) → limited (elements text) ≡ Ok es → (pattern : Pattern) × (elements_of pattern ≡ es)
unfolding elements_of
pattern-made text es read =
    let within = limits_of (elements text) es read in
    let sound = elements_sound text es (spelled-from_read text es within.0) in
    let few : length es ≤ 22 = omega (arith, within.1.short, length-le-queue_len es sound) in
    let front = kept-front es in
    let pattern : Pattern = record {
      elements = kept es;
      number = length es;
      pieces = queue_len es;
      count = queue_count es;
      room = kept-length es few;
      within = few;
      sound = ap (list_all is_sound) front ∙ sound;
      len = sym (ap queue_len front);
      short = within.1.short;
      counted = sym (ap queue_count front);
      some = queue_count-some es sound;
      few = within.1.few;
    } in
    (pattern, front)
