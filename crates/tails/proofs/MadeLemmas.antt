-- Making the states of a pattern.
use Rattle.std.proofs.Common.{◌≡◌, ◌≢◌, ◌==◌, ◌↔◌, ◌++◌, IsTrue, length-append, ℕ, suc, ◌+◌, ◌-◌, ◌*◌, ◌/◌, ◌%◌, ◌<◌, ◌≤◌, Bool, true, List, [], ◌∷◌, Some, drop, filter, get_or, length, set, refl, ap, sym, subst, ◌∙◌, inl, inr, arith}
use Rattle.std.specs.List.{slice_get}
use Rattle.std.proofs.Math.Nat.{div-le_self, mul-div_cancel_left, mul_assoc}
use Rattle.std.proofs.Math.Seq.{drop-cons}
use Rattle.std.proofs.lemmas.Bool.{agree_below_at, cases_Bool, cases_eq, cases_lt, eqb-false, eqb-true}
use Rattle.std.proofs.lemmas.Grind.{get_or-set_at}
use Rattle.std.proofs.lemmas.List.{drop_all, get_or-set_other, get_or_append_left, get_or_push, length-set}
use Rattle.std.proofs.lemmas.Option.{get_or_from_slice_get, slice_get_within}
use Rattle.srs.specs.declared.piece.Piece.{Piece}
use Rattle.srs.specs.declared.piece.Piece.TheVariants.{I}
use Rattle.srs.specs.Piece.{all_pieces, piece_code}
use Rattle.srs.proofs.CallerLemmas.{filter-false, filter-true, piece_code-injective, piece_code-small}
use Rattle.queue_pattern.specs.declared.element.Element.{Element}
use Rattle.queue_pattern.specs.declared.pattern.Pattern.{Pattern}
use Rattle.queue_pattern.specs.Pattern.{elements_of}
use Rattle.queue_pattern.specs.Queues.{falling_factor, is_in, pieces_in, queue_count, queues}
use Rattle.queue_pattern.proofs.CallerLemmas.{falling_factor-more, last-fewer, length-le-queue_len, length-queues, pattern-few, pattern-short, pattern-sound, pattern-sound_at, sound-within}
use Rattle.tails.specs.declared.states.State.{State}
use Rattle.tails.specs.MadeStates.{AreAfter, AreEntries, IsAfter, IsEntry, IsMade, IsMadeAt, IsPart, tail_count}
use Rattle.tails.specs.States.{no_state, state_at}
use Rattle.tails.specs.Trees.{first_number, first_set}

-- each piece stands among all at the index before its code
pub code-stands : (k : ℕ) → k < 7 → piece_code (get_or all_pieces k I) ≡ k + 1
code-stands k few = eqb-true _ _ (agree_below_at (λ n. piece_code (get_or all_pieces n I) == n + 1) (λ _. true) 7 k refl few)

-- the numbers of the states after the first pieces
pub record AfterSoFar (elements : List Element) (index pieces : ℕ) (last : Bool) (next : List ℕ) (count : ℕ) : Type 0 where
  pub size : length next ≡ 8
  pub each : (piece : Piece) → piece_code piece ≤ count → IsAfter elements index pieces last piece (get_or next (piece_code piece) 0)

-- so many of the pieces that an element chooses are drawn
pub record CountSoFar (most chosen drawn : ℕ) (rest : List Element) (count : ℕ) : Type 0 where
  pub count_is : count ≡ tail_count (most - drawn) (chosen - drawn) rest
  pub few : count ≤ 10000000

pub drop-at : {A : Type 0} (xs : List A) (i : ℕ) (x : A) → slice_get xs i ≡ Some x → drop i xs ≡ x ∷ drop (i + 1) xs
drop-at xs i x there =
    let within : i < length xs = slice_get_within xs i x there in
    let next : suc i ≡ i + 1 = omega arith in
    drop-cons xs i x within ∙ (λ k. get_or_from_slice_get xs i x x there k ∷ drop (next k) xs)

-- the number of the first state of an element, and of the last state
pub first-number : (elements : List Element) (index : ℕ) (element : Element) → slice_get elements index ≡ Some element
    → first_number elements index ≡ index * 128 + element.set
unfolding first_number first_set
first-number elements index element there = ap (λ l. index * 128 + first_set l) (drop-at elements index element there)

pub last-number : (elements : List Element) (index : ℕ) → length elements ≤ index → first_number elements index ≡ index * 128
unfolding first_number first_set
last-number elements index past = ap (λ l. index * 128 + first_set l) (drop_all index elements past) ∙ omega arith

pub after-more : (elements : List Element) (index pieces : ℕ) (last : Bool) (next : List ℕ) (count code number : ℕ) → count < 7
    → code ≡ piece_code (get_or all_pieces count I) → IsAfter elements index pieces last (get_or all_pieces count I) number
    → AfterSoFar elements index pieces last next count → AfterSoFar elements index pieces last (set next code number) (count + 1)
after-more elements index pieces last next count code number few code_is after so_far =
    let at : code ≡ count + 1 = code_is ∙ code-stands count few in
    record {
      size = length-set next code number ∙ so_far.size;
      each = λ piece upto. elim (cases_eq (piece_code piece) code) [
        | inl same ↦
            let is : get_or all_pieces count I ≡ piece = piece_code-injective (get_or all_pieces count I) piece (sym code_is ∙ sym same) in
            let read : get_or (set next code number) (piece_code piece) 0 ≡ number = get_or-set_at next code (piece_code piece) number 0 same (omega (arith, at, few, so_far.size)) in
            subst (IsAfter elements index pieces last piece) (sym read) (subst (λ p. IsAfter elements index pieces last p number) is after)
        | inr other ↦
            let read : get_or (set next code number) (piece_code piece) 0 ≡ get_or next (piece_code piece) 0 = get_or-set_other next code (piece_code piece) number 0 other in
            subst (IsAfter elements index pieces last piece) (sym read) (so_far.each piece (omega (arith, at, upto, other)))
      ];
    }

pub all-after : (elements : List Element) (index pieces : ℕ) (last : Bool) (next : List ℕ) (count : ℕ) → 7 ≤ count → AfterSoFar elements index pieces last next count
    → AreAfter elements index pieces last next
all-after elements index pieces last next count all so_far =
    record { size = so_far.size; each = λ piece. so_far.each piece (omega (arith, all, piece_code-small piece)) }

-- equally many tails begin with each piece
pub tail_count-more : (pieces draws : ℕ) (rest : List Element) → 0 < draws → tail_count pieces draws rest ≡ pieces * tail_count (pieces - 1) (draws - 1) rest
unfolding tail_count
tail_count-more pieces draws rest some =
    ap (λ f. f * queue_count rest) (falling_factor-more pieces draws (draws - 1) (omega arith))
    ∙ mul_assoc pieces (falling_factor (pieces - 1) (draws - 1)) (queue_count rest)

pub tail_count-divided : (pieces draws count : ℕ) (rest : List Element) → 0 < pieces → 0 < draws → count ≡ tail_count pieces draws rest
    → count / pieces ≡ tail_count (pieces - 1) (draws - 1) rest
tail_count-divided pieces draws count rest some draws_some is =
    ap (λ n. n / pieces) (is ∙ tail_count-more pieces draws rest draws_some) ∙ mul-div_cancel_left (tail_count (pieces - 1) (draws - 1) rest) some

-- the queues of an element and those behind it
pub front-count : (elements : List Element) (index : ℕ) (element : Element) → slice_get elements index ≡ Some element
    → length (queues (drop index elements)) ≡ tail_count (length (pieces_in element.set)) element.chosen (drop (index + 1) elements)
unfolding tail_count queue_count
front-count elements index element there = length-queues (drop index elements) ∙ ap queue_count (drop-at elements index element there)

pub count-starts : (pattern : Pattern) (index : ℕ) (element : Element) (most count : ℕ) → slice_get (elements_of pattern) index ≡ Some element
    → most ≡ length (pieces_in element.set) → count ≡ length (queues (drop index (elements_of pattern)))
    → CountSoFar most element.chosen 0 (drop (index + 1) (elements_of pattern)) count
count-starts pattern index element most count there most_is is =
    let elements = elements_of pattern in
    let all : tail_count (length (pieces_in element.set)) element.chosen (drop (index + 1) elements) ≡ tail_count (most - 0) (element.chosen - 0) (drop (index + 1) elements) =
    let m : length (pieces_in element.set) ≡ most - 0 = omega (arith, most_is) in
    let c : element.chosen ≡ element.chosen - 0 = omega arith in
    λ i. tail_count (m i) (c i) (drop (index + 1) elements) in
    let fewer = last-fewer pattern 0 index (omega arith) in
    record {
      count_is = is ∙ front-count elements index element there ∙ all;
      few = omega (arith, is, fewer, pattern-few pattern);
    }

pub count-more : (most chosen drawn : ℕ) (rest : List Element) (count by : ℕ) → by ≡ most - drawn → drawn < most → drawn < chosen
    → CountSoFar most chosen drawn rest count → CountSoFar most chosen (drawn + 1) rest (count / by)
count-more most chosen drawn rest count by by_is within chooses so_far =
    let m : most - drawn - 1 ≡ most - (drawn + 1) = omega arith in
    let c : chosen - drawn - 1 ≡ chosen - (drawn + 1) = omega arith in
    let fewer = div-le_self count by in
    record {
      count_is = ap (λ b. count / b) by_is ∙ tail_count-divided (most - drawn) (chosen - drawn) count rest (omega arith) (omega arith) so_far.count_is ∙ (λ i. tail_count (m i) (c i) rest);
      few = omega (arith, fewer, so_far.few);
    }

-- a stronger test lets no more through
fewer-filter : {A : Type 0} (p q : A → Bool) → ((x : A) → p x ≡ true → q x ≡ true) → (xs : List A) → length (filter p xs) ≤ length (filter q xs)
fewer-filter p q stronger [] = omega arith
fewer-filter p q stronger (x ∷ xs) =
    let rest = fewer-filter p q stronger xs in
    elim (cases_Bool (p x)) [
      | inl kept ↦ omega (arith, rest, ap length (filter-true p x xs kept), ap length (filter-true q x xs (stronger x kept)))
      | inr dropped ↦ elim (cases_Bool (q x)) [
        | inl kept ↦ omega (arith, rest, ap length (filter-false p x xs dropped), ap length (filter-true q x xs kept))
        | inr out ↦ omega (arith, rest, ap length (filter-false p x xs dropped), ap length (filter-false q x xs out))
      ]
    ]

pub fewer-pieces : (set whole : ℕ) → IsPart set whole → length (pieces_in set) ≤ length (pieces_in whole)
unfolding pieces_in
fewer-pieces set whole part = fewer-filter (λ piece. is_in piece set) (λ piece. is_in piece whole) part.each all_pieces

pub part-is : (found : Bool) (set whole : ℕ) → (IsTrue found ↔ ((piece : Piece) → is_in piece set ≡ true → is_in piece whole ≡ true)) → found ≡ true → IsPart set whole
part-is found set whole tells is = record { each = tells.0 is }

-- a pattern has few elements
pub few-elements : (pattern : Pattern) → length (elements_of pattern) ≤ 22
few-elements pattern =
    let short = length-le-queue_len (elements_of pattern) (pattern-sound pattern) in
    omega (arith, short, pattern-short pattern)

-- some pieces are left where some are to be drawn
pub some-left : (pattern : Pattern) (index set : ℕ) (element : Element) → slice_get (elements_of pattern) index ≡ Some element
    → length (pieces_in element.set) - length (pieces_in set) < element.chosen → 0 < length (pieces_in set)
some-left pattern index set element there chooses =
    let enough = sound-within element (pattern-sound_at pattern index element there) in
    omega (arith, enough, chooses)

pub made : (pattern : Pattern) (index set : ℕ) (element : Element) (drawn pieces count : ℕ) (next : List ℕ)
    → slice_get (elements_of pattern) index ≡ Some element → IsPart set element.set
    → drawn ≡ length (pieces_in element.set) - length (pieces_in set) → drawn < element.chosen → pieces ≡ length (pieces_in set)
    → count ≡ tail_count (length (pieces_in set)) (element.chosen - (length (pieces_in element.set) - length (pieces_in set))) (drop (index + 1) (elements_of pattern))
    → count ≤ 10000000 → AreAfter (elements_of pattern) index set (element.chosen - drawn == 1) next
    → IsMade (elements_of pattern) index set element (record {
      set = set;
      draws = element.chosen - drawn;
      behind = index + 1;
      count = count;
      each = count / pieces;
      next = next;
    })
made pattern index set element drawn pieces count next there part drawn_is chooses pieces_are count_is few after =
    let rest = drop (index + 1) (elements_of pattern) in
    let some : 0 < length (pieces_in set) = some-left pattern index set element there (omega (arith, drawn_is, chooses)) in
    let fewer = fewer-pieces set element.set part in
    let draws : element.chosen - (length (pieces_in element.set) - length (pieces_in set)) ≡ element.chosen - drawn = omega (arith, drawn_is) in
    let counted : count ≡ tail_count (length (pieces_in set)) (element.chosen - drawn) rest = count_is ∙ ap (λ n. tail_count (length (pieces_in set)) n rest) draws in
    record {
      set_is = refl;
      behind_is = refl;
      part = part;
      draws_are = omega (arith, drawn_is, fewer, chooses);
      some = omega (arith, chooses);
      some_pieces = some;
      count_is = counted;
      each_is = ap (λ n. count / n) pieces_are ∙ tail_count-divided (length (pieces_in set)) (element.chosen - drawn) count rest some (omega (arith, chooses)) counted;
      few = few;
      last = element.chosen - drawn == 1;
      last_is = λ is. eqb-true (element.chosen - drawn) 1 is;
      not_last = λ is. let other : element.chosen - drawn ≢ 1 = eqb-false (element.chosen - drawn) 1 is in omega (arith, other, chooses);
      after = after;
    }

-- one state more
pub entries-more : (elements : List Element) (states : List State) (count : ℕ) (state : State) → IsEntry elements count state
    → AreEntries elements states count → AreEntries elements (states ++ state ∷ []) (count + 1)
unfolding state_at
entries-more elements states count state entry entries = record {
  size = length-append states (state ∷ []) ∙ omega (arith, entries.size);
  each = λ number within. elim (cases_lt number count) [
    | inl before ↦ subst (IsEntry elements number) (sym (get_or_append_left states (state ∷ []) no_state number (omega (arith, before, entries.size)))) (entries.each number before)
    | inr past ↦
        let at : number ≡ count = omega (arith, within, past) in
        let read : get_or (states ++ state ∷ []) number no_state ≡ state = get_or_push states state no_state number (omega (arith, at, entries.size)) in
        subst (IsEntry elements number) (sym read) (subst (λ n. IsEntry elements n state) (sym at) entry)
  ];
}

pub entry-is : (pattern : Pattern) (index set : ℕ) (element : Element) (state : State) → slice_get (elements_of pattern) index ≡ Some element → set < 128
    → IsMadeAt (elements_of pattern) index set element state → IsEntry (elements_of pattern) (index * 128 + set) state
entry-is pattern index set element state there within is =
    let elements = elements_of pattern in
    let index_is : index ≡ (index * 128 + set) / 128 = omega (arith, within) in
    let set_is : set ≡ (index * 128 + set) % 128 = omega (arith, within) in
    record {
      element = element;
      there = subst (λ n. slice_get elements n ≡ Some element) index_is there;
      sound = pattern-sound_at pattern index element there;
      is = subst (λ n. IsMadeAt elements n ((index * 128 + set) % 128) element state) index_is (subst (λ n. IsMadeAt elements index n element state) set_is is);
    }
