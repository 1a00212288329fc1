-- States as they are made are the states of the pattern.
use Rattle.std.proofs.Common.{◌≡◌, ◌==◌, not, ℕ, zero, suc, ◌+◌, ◌-◌, ◌*◌, ◌/◌, ◌%◌, ◌<◌, ◌≤◌, ◌++◌, true, List, [], ◌∷◌, Some, Contains, drop, get_or, length, refl, ap, sym, subst, ◌∙◌, inl, inr, length-append, arith, rules}
use Rattle.std.specs.List.{slice_get}
use Rattle.std.proofs.lemmas.Bool.{cases_Bool, cases_lt}
use Rattle.std.proofs.lemmas.List.{drop_all, get_or_append_left, get_or_push}
use Rattle.std.proofs.lemmas.List.Sums.{sum_by-cons}
use Rattle.std.proofs.lemmas.Option.{slice_get-get_or, slice_get_within}
use Rattle.srs.specs.declared.piece.Piece.{Piece}
use Rattle.srs.specs.Piece.{all_pieces, piece_code}
use Rattle.srs.proofs.CallerLemmas.{Contains-filter, Contains-from_filter, piece_code-small, some_same}
use Rattle.queue_pattern.specs.declared.element.Element.{Element}
use Rattle.queue_pattern.specs.declared.pattern.Pattern.{Pattern}
use Rattle.queue_pattern.specs.Pattern.{elements_of}
use Rattle.queue_pattern.specs.Queues.{falling_factor, is_in, others, pieces_in, queue_count, queue_len, queues, tails}
use Rattle.queue_pattern.specs.Sound.{is_sound}
use Rattle.queue_pattern.proofs.CallerLemmas.{length-others, length-tails, others-set, pattern-sound_at, pieces_in-set, queues-none, queues-tails, sound-set, sound-some, tails-none}
use Rattle.tails.specs.declared.states.State.{State}
use Rattle.tails.specs.MadeStates.{AreEntries, IsEntry, IsMade, IsMadeAt, IsPart, LeadsTo, end_state, tail_count}
use Rattle.tails.specs.States.{no_state, state_at, tails_of}
use Rattle.tails.specs.Trees.{AreStates, IsState, first_number}
use Rattle.tails.proofs.LetterLemmas.{next_of}
use Rattle.tails.proofs.MadeLemmas.{drop-at, few-elements, fewer-pieces, first-number, last-number, tail_count-more}

-- the states of an element are entries, and the last is the end
pub record AreMade (elements : List Element) (states : List State) : Type 0 where
  pub size : length states ≡ length elements * 128 + 1
  pub few : length elements ≤ 22
  pub sound : (index : ℕ) (element : Element) → slice_get elements index ≡ Some element → is_sound element ≡ true
  pub each : (number : ℕ) → number < length elements * 128 → IsEntry elements number (state_at states number)
  pub last : state_at states (length elements * 128) ≡ end_state (length elements)

pub are-made : (pattern : Pattern) (states : List State) (count : ℕ) (last : State) → count ≡ length (elements_of pattern) * 128
    → AreEntries (elements_of pattern) states count → last ≡ end_state (length (elements_of pattern))
    → AreMade (elements_of pattern) (states ++ last ∷ [])
unfolding state_at
are-made pattern states count last count_is entries last_is =
    let elements = elements_of pattern in
    record {
      size = length-append states (last ∷ []) ∙ omega (arith, entries.size, count_is);
      few = few-elements pattern;
      sound = pattern-sound_at pattern;
      each = λ number within.
          subst (IsEntry elements number) (sym (get_or_append_left states (last ∷ []) no_state number (omega (arith, within, entries.size, count_is))))
          (entries.each number (omega (arith, within, count_is)));
      last = get_or_push states last no_state (length elements * 128) (omega (arith, entries.size, count_is)) ∙ last_is;
    }

tail_count-length : (set draws : ℕ) (rest : List Element) → length (tails (pieces_in set) draws rest) ≡ tail_count (length (pieces_in set)) draws rest
unfolding tail_count
tail_count-length set draws rest = length-tails (pieces_in set) draws rest (pieces_in-set set)

-- the tails of a state that is made
made-tails : (elements : List Element) (index set : ℕ) (element : Element) (state : State) → IsMade elements index set element state
    → tails_of elements state ≡ tails (pieces_in set) state.draws (drop (index + 1) elements)
unfolding tails_of
made-tails elements index set element state made = λ i. tails (pieces_in (made.set_is i)) state.draws (drop (made.behind_is i) elements)

made-counted : (elements : List Element) (index set : ℕ) (element : Element) (state : State) → IsMade elements index set element state
    → state.count ≡ length (tails_of elements state)
made-counted elements index set element state made =
    made.count_is ∙ sym (tail_count-length set state.draws (drop (index + 1) elements)) ∙ ap length (sym (made-tails elements index set element state made))

-- the entry with an element's index and a set is the state that is made for them
entry-made : (elements : List Element) (states : List State) (index set : ℕ) (element : Element) → AreMade elements states
    → slice_get elements index ≡ Some element → set < 128 → IsPart set element.set
    → length (pieces_in element.set) - length (pieces_in set) < element.chosen
    → IsMade elements index set element (state_at states (index * 128 + set))
entry-made elements states index set element are there within part chooses =
    let number = index * 128 + set in
    let below : index < length elements = slice_get_within elements index element there in
    let entry = are.each number (omega (arith, within, below)) in
    let index_is : number / 128 ≡ index = omega (arith, within) in
    let set_is : number % 128 ≡ set = omega (arith, within) in
    let same : entry.element ≡ element = some_same (sym entry.there ∙ ap (slice_get elements) index_is ∙ there) in
    let state = state_at states number in
    let at : IsMadeAt elements index set element state =
    subst (λ n. IsMadeAt elements n set element state) index_is
    (subst (λ n. IsMadeAt elements (number / 128) n element state) set_is (subst (λ e. IsMadeAt elements (number / 128) (number % 128) e state) same entry.is)) in
    at.made part chooses

leads-within : (elements : List Element) (states : List State) (index set : ℕ) (element : Element) → AreMade elements states
    → slice_get elements index ≡ Some element → set < 128 → IsPart set element.set
    → length (pieces_in element.set) - length (pieces_in set) < element.chosen
    → LeadsTo elements states (index * 128 + set) (tails (pieces_in set) (element.chosen - (length (pieces_in element.set) - length (pieces_in set))) (drop (index + 1) elements))
leads-within elements states index set element are there within part chooses =
    let number = index * 128 + set in
    let state = state_at states number in
    let made = entry-made elements states index set element are there within part chooses in
    let fewer = fewer-pieces set element.set part in
    let below : index < length elements = slice_get_within elements index element there in
    let draws : state.draws ≡ element.chosen - (length (pieces_in element.set) - length (pieces_in set)) = omega (arith, made.draws_are, fewer, chooses) in
    let all : tails_of elements state ≡ tails (pieces_in set) (element.chosen - (length (pieces_in element.set) - length (pieces_in set))) (drop (index + 1) elements) =
    made-tails elements index set element state made ∙ ap (λ n. tails (pieces_in set) n (drop (index + 1) elements)) draws in
    record {
      within = omega (arith, are.size, within, below);
      tails_are = all;
      counted = made-counted elements index set element state made ∙ ap length all;
    }

-- the first state of an element leads to all queues from it on
leads-first : (elements : List Element) (states : List State) (index : ℕ) (element : Element) → AreMade elements states
    → slice_get elements index ≡ Some element → LeadsTo elements states (first_number elements index) (queues (drop index elements))
leads-first elements states index element are there =
    let sound = are.sound index element there in
    let pieces = length (pieces_in element.set) in
    let rest = drop (index + 1) elements in
    let none : element.chosen - (pieces - pieces) ≡ element.chosen = omega arith in
    let whole : IsPart element.set element.set = record { each = λ piece inside. inside } in
    let leads = leads-within elements states index element.set element are there (sound-set element sound) whole (omega (arith, sound-some element sound)) in
    let all : tails (pieces_in element.set) (element.chosen - (pieces - pieces)) rest ≡ queues (drop index elements) =
    ap (λ n. tails (pieces_in element.set) n rest) none ∙ sym (queues-tails element rest) ∙ ap queues (sym (drop-at elements index element there)) in
    subst (λ n. LeadsTo elements states n (queues (drop index elements))) (sym (first-number elements index element there))
    (subst (LeadsTo elements states (index * 128 + element.set)) all leads)

-- the last state leads to the empty queue
end-tails : (elements : List Element) (behind : ℕ) → tails_of elements (end_state behind) ≡ queues (drop behind elements)
unfolding tails_of end_state
end-tails elements behind = tails-none (pieces_in 0) (drop behind elements)

end-count : (behind : ℕ) → (end_state behind).count ≡ 1
unfolding end_state
end-count behind = refl

one-queue : (elements : List Element) (behind : ℕ) → length elements ≤ behind → length (queues (drop behind elements)) ≡ 1
one-queue elements behind past = ap (λ l. length (queues l)) (drop_all behind elements past) ∙ ap length queues-none

leads-end : (elements : List Element) (states : List State) (index : ℕ) → AreMade elements states
    → index ≡ length elements → LeadsTo elements states (first_number elements index) (queues (drop index elements))
leads-end elements states index are is =
    let number_is : first_number elements index ≡ length elements * 128 = last-number elements index (omega (arith, is)) ∙ omega (arith, is) in
    let state_is : state_at states (first_number elements index) ≡ end_state (length elements) = ap (state_at states) number_is ∙ are.last in
    record {
      within = omega (arith, number_is, are.size);
      tails_are = ap (tails_of elements) state_is ∙ end-tails elements (length elements) ∙ ap (λ n. queues (drop n elements)) (sym is);
      counted = ap (λ (s : State). s.count) state_is ∙ end-count (length elements) ∙ sym (one-queue elements index (omega (arith, is)));
    }

-- where no piece of an element, or those of no other, are drawn
pub leads-from : (elements : List Element) (states : List State) (index : ℕ) → AreMade elements states
    → index ≤ length elements → LeadsTo elements states (first_number elements index) (queues (drop index elements))
leads-from elements states index are within = elim (cases_lt index (length elements)) [
  | inl before ↦
      let none : Element = record { set = 0; chosen = 0 } in
      leads-first elements states index (get_or elements index none) are (slice_get-get_or elements index none before)
  | inr past ↦ leads-end elements states index are (omega (arith, within, past))
]

stands-at : (piece : Piece) → get_or all_pieces (piece_code piece - 1) piece ≡ piece
stands-at piece = search rules

stands : (piece : Piece) → Contains all_pieces piece
stands piece = (piece_code piece - 1, omega (arith, piece_code-small piece), stands-at piece)

pub piece-contained : (set : ℕ) (piece : Piece) → is_in piece set ≡ true → Contains (pieces_in set) piece
unfolding pieces_in
piece-contained set piece inside = Contains-filter (λ p. is_in p set) all_pieces piece (stands piece) inside

piece-member : (set : ℕ) (piece : Piece) → Contains (pieces_in set) piece → is_in piece set ≡ true
unfolding pieces_in
piece-member set piece there = (Contains-from_filter (λ p. is_in p set) all_pieces piece there).1

member-before : (piece other : Piece) (pieces : List Piece) → Contains (others piece pieces) other → Contains pieces other
unfolding others
member-before piece other pieces there = (Contains-from_filter (λ p. not (piece_code p == piece_code piece)) pieces other there).0

-- a set without a piece is a part
part-without : (set rest whole : ℕ) (piece : Piece) → pieces_in rest ≡ others piece (pieces_in set) → IsPart set whole → IsPart rest whole
part-without set rest whole piece is part = record {
  each = λ other inside.
      part.each other (piece-member set other (member-before piece other (pieces_in set) (subst (λ l. Contains l other) is (piece-contained rest other inside))));
}

-- after each piece that may be drawn comes a state with the tails that begin with it
made-leads : (elements : List Element) (states : List State) (index set : ℕ) (element : Element) (state : State) (piece : Piece) → AreMade elements states
    → slice_get elements index ≡ Some element → IsMade elements index set element state → is_in piece set ≡ true
    → LeadsTo elements states (next_of state piece) (tails (others piece (pieces_in set)) (state.draws - 1) (drop (index + 1) elements))
made-leads elements states index set element state piece are there made inside =
    let rest = drop (index + 1) elements in
    let left = others piece (pieces_in set) in
    let after = made.after.each piece in
    let below : index < length elements = slice_get_within elements index element there in
    let fewer : length left + 1 ≡ length (pieces_in set) = length-others piece (pieces_in set) (pieces_in-set set) (piece-contained set piece inside) in
    elim (cases_Bool made.last) [
      | inl last ↦
          let none : 0 ≡ state.draws - 1 = omega (arith, made.last_is last) in
          let all : queues rest ≡ tails left (state.draws - 1) rest = sym (tails-none left rest) ∙ ap (λ n. tails left n rest) none in
          subst (LeadsTo elements states (next_of state piece)) all
          (subst (λ n. LeadsTo elements states n (queues rest)) (sym (after.ended last)) (leads-from elements states (index + 1) are (omega (arith, below))))
      | inr more ↦
          let without = after.goes_on more in
          let pieces = length (pieces_in without.rest) in
          let one_less : pieces + 1 ≡ length (pieces_in set) = ap (λ l. length l + 1) without.pieces ∙ fewer in
          let several = made.not_last more in
          let part = part-without set without.rest element.set piece without.pieces made.part in
          let within = fewer-pieces set element.set made.part in
          let draws : element.chosen - (length (pieces_in element.set) - pieces) ≡ state.draws - 1 = omega (arith, made.draws_are, one_less, several, within) in
          let leads = leads-within elements states index without.rest element are there without.within part (omega (arith, made.draws_are, one_less, several, within)) in
          subst (λ n. LeadsTo elements states n (tails left (state.draws - 1) rest)) (sym without.number_is)
          (subst (LeadsTo elements states (index * 128 + without.rest)) (λ i. tails (without.pieces i) (draws i) rest) leads)
    ]

left-count : (elements : List Element) (index set : ℕ) (element : Element) (state : State) (piece : Piece) → IsMade elements index set element state → is_in piece set ≡ true
    → length (tails (others piece (pieces_in set)) (state.draws - 1) (drop (index + 1) elements)) ≡ state.each
unfolding tail_count
left-count elements index set element state piece made inside =
    let rest = drop (index + 1) elements in
    let left = others piece (pieces_in set) in
    let fewer : length left ≡ length (pieces_in set) - 1 = omega (arith, length-others piece (pieces_in set) (pieces_in-set set) (piece-contained set piece inside)) in
    length-tails left (state.draws - 1) rest (others-set piece (pieces_in set) (pieces_in-set set))
    ∙ ap (λ n. falling_factor n (state.draws - 1) * queue_count rest) fewer ∙ sym made.each_is

-- the last elements choose no more pieces than all
last-shorter : (elements : List Element) (index : ℕ) → queue_len (drop index elements) ≤ queue_len elements
last-shorter elements zero = omega arith
last-shorter [] (suc index) = omega arith
last-shorter (element ∷ elements) (suc index) =
    omega (arith, last-shorter elements index, sum_by-cons (λ (e : Element). e.chosen) element elements)

-- a state that is made is one
made-state : (elements : List Element) (states : List State) (index : ℕ) (element : Element) (state : State) → AreMade elements states
    → slice_get elements index ≡ Some element → IsMade elements index state.set element state → IsState elements states state
made-state elements states index element state are there made =
    let rest = drop (index + 1) elements in
    let behind : rest ≡ drop state.behind elements = ap (λ n. drop n elements) (sym made.behind_is) in
    record {
      size = made.after.size;
      few = made.few;
      counted = λ some. made-counted elements index state.set element state made;
      short = λ some.
          let fewer = fewer-pieces state.set element.set made.part in
          let last = last-shorter elements index in
          let split : queue_len (drop index elements) ≡ element.chosen + queue_len rest = ap queue_len (drop-at elements index element there) ∙ sum_by-cons (λ (e : Element). e.chosen) element rest in
          let same = ap queue_len behind in
          omega (arith, fewer, last, split, same, made.draws_are);
      ended = λ some none. absurd (omega (arith, none, made.some));
      shared = λ some draws.
          made.count_is ∙ tail_count-more (length (pieces_in state.set)) state.draws rest made.some ∙ ap (λ n. length (pieces_in state.set) * n) (sym made.each_is);
      steps = λ piece some draws inside.
          let leads = made-leads elements states index state.set element state piece are there made inside in
          record {
            within = leads.within;
            tails_are = leads.tails_are ∙ ap (tails (others piece (pieces_in state.set)) (state.draws - 1)) behind;
            counted = leads.counted ∙ left-count elements index state.set element state piece made inside;
          };
    }

none-state : (elements : List Element) (states : List State) → IsState elements states no_state
unfolding no_state
none-state elements states = record {
  size = refl;
  few = omega arith;
  short = λ some. absurd (omega (arith, some));
  counted = λ some. absurd (omega (arith, some));
  ended = λ some. absurd (omega (arith, some));
  shared = λ some. absurd (omega (arith, some));
  steps = λ piece some. absurd (omega (arith, some));
}

ended-state : (elements : List Element) (states : List State) → IsState elements states (end_state (length elements))
unfolding end_state
ended-state elements states = record {
  size = refl;
  few = omega arith;
  short = λ some. let last = last-shorter elements (length elements) in omega (arith, last);
  counted = λ some. sym (ap length (end-tails elements (length elements)) ∙ one-queue elements (length elements) (omega arith));
  ended = λ some none. drop_all (length elements) elements (omega arith);
  shared = λ some draws. absurd (omega (arith, draws));
  steps = λ piece some draws. absurd (omega (arith, draws));
}

entry-state : (elements : List Element) (states : List State) (number : ℕ) (state : State) → AreMade elements states
    → IsEntry elements number state → IsState elements states state
entry-state elements states number state are entry = elim entry.is.either [
  | inl made ↦ made-state elements states (number / 128) entry.element state are entry.there
      (subst (λ n. IsMade elements (number / 128) n entry.element state) (sym made.set_is) made)
  | inr none ↦ subst (IsState elements states) (sym none) (none-state elements states)
]

-- the states are those of the pattern
pub are-states : (elements : List Element) (states : List State) → AreMade elements states → AreStates elements states
are-states elements states are = record {
  few = omega (arith, are.size, are.few);
  each = λ number within. elim (cases_lt number (length elements * 128)) [
    | inl before ↦ entry-state elements states number (state_at states number) are (are.each number before)
    | inr past ↦
        let at : number ≡ length elements * 128 = omega (arith, within, past, are.size) in
        subst (IsState elements states) (sym (ap (state_at states) at ∙ are.last)) (ended-state elements states)
  ];
}
