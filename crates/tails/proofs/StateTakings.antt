-- The ways to take a piece from the tails of a state.
use Rattle.std.proofs.Common.{ℕ, ◌≡◌, ◌≢◌, ◌+◌, ◌-◌, ◌*◌, ◌/◌, ◌%◌, ◌^◌, ◌<◌, ◌≤◌, Bool, true, false, ◌&&◌, ◌||◌, ◌==◌, List, [], ◌∷◌, All, Contains, length, get_or, sym, ap, subst, ◌∙◌, inl, inr, arith}
use Rattle.std.specs.List.{list_any, slice_index}
use Rattle.std.specs.Prelude.{if◌then◌else◌}
use Rattle.std.proofs.Math.Nat.{div-add-mod}
use Rattle.std.proofs.lemmas.Bool.Decides.{nat_tests}
use Rattle.std.proofs.lemmas.Bool.{eq-eqb, ne_eqb}
use Rattle.std.proofs.lemmas.List.{get_or_read}
use Rattle.std.proofs.lemmas.List.Elements.{All-append, All-cons, All-nil, All-same}
use Rattle.std.proofs.lemmas.Option.{get_or_from_slice_get, slice_get_within}
use Rattle.srs.specs.declared.piece.Piece.{Piece}
use Rattle.srs.specs.declared.piece.Piece.TheVariants.{I}
use Rattle.srs.specs.Piece.{all_pieces, piece_code}
use Rattle.srs.proofs.CallerLemmas.{Contains-from_filter, Contains-here, Contains-there, piece_code-small, piece_code-some}
use Rattle.queue_pattern.specs.Queues.{is_in, pieces_in}
use Rattle.tails.specs.declared.states.State.{State}
use Rattle.tails.specs.declared.takings.Taking.{Taking}
use Rattle.tails.specs.declared.tree.TailTree.{TailTree}
use Rattle.tails.specs.Numbers.{held_of, place_of, state_of, tail_number}
use Rattle.tails.specs.States.{no_state, state_at}
use Rattle.tails.specs.Takings.{AreTakings, IsTaking, in_run, left_of, run_at, taken_at}
use Rattle.tails.specs.Tails.{IsTail, behind_letter, leads, letter_at, state_before}
use Rattle.tails.proofs.LetterLemmas.{next_of}
use Rattle.tails.proofs.NumberLemmas.{number-fits, place_of-number}
use Rattle.tails.proofs.TailLemmas.{Draws, DrawsNone, tail-cases}
use Rattle.tails.proofs.TakenLetters.{from-letter, leads_at, leads_by, taken_from}

-- the state that is read
pub state-read : (states : List State) (number index : ℕ) (state : State) → index ≡ number → index < length states
    → state ≡ get_or states index state → state_at states number ≡ state
unfolding state_at
state-read states number index state index_is within is =
    ap (λ n. get_or states n no_state) (sym index_is) ∙ sym (get_or_read states index state within is no_state)

-- the runs stand where runs stand
run-taking : (state : State) (first held : ℕ) (letter : Piece) → held < 8 → slice_index state.next (piece_code letter) < 2 ^ 16
    → first + state.each ≤ 10000000 → IsTaking (run_at state first letter held)
run-taking state first held letter small next few = record {
  begins = place_of-number (slice_index state.next (piece_code letter)) held 0 (omega arith);
  fits = number-fits (slice_index state.next (piece_code letter)) held 0 next small (omega arith);
  few = few;
}

if-taking : (test : Bool) (taking : Taking) → IsTaking taking → All IsTaking (if test then taking ∷ [] else [])
if-taking true taking is = All-cons IsTaking taking [] is (All-nil IsTaking)
if-taking false taking is = All-nil IsTaking

at-takings : (state : State) (first held code : ℕ) (letter : Piece) → held < 8 → slice_index state.next (piece_code letter) < 2 ^ 16
    → first + state.each ≤ 10000000 → All IsTaking (taken_at state first held code letter)
unfolding taken_at
at-takings state first held code letter small next few =
    All-append IsTaking (if held == code then run_at state first letter (piece_code letter) ∷ [] else [])
    (if piece_code letter == code then run_at state first letter held ∷ [] else [])
    (if-taking (held == code) _ (run-taking state first (piece_code letter) letter (omega (arith, piece_code-small letter)) next few))
    (if-taking (piece_code letter == code) _ (run-taking state first held letter small next few))

from-takings : (state : State) (first held code : ℕ) (letters : List Piece) → held < 8
    → ((letter : Piece) → Contains letters letter → slice_index state.next (piece_code letter) < 2 ^ 16)
    → first + length letters * state.each ≤ 10000000 → All IsTaking (taken_from state first held code letters)
unfolding taken_from
from-takings state first held code [] small next few = All-nil IsTaking
from-takings state first held code (letter ∷ letters) small next few =
    All-append IsTaking (taken_at state first held code letter) (taken_from state (first + state.each) held code letters)
    (at-takings state first held code letter small (next letter (Contains-here letter letters)) (omega arith))
    (from-takings state (first + state.each) held code letters small (λ other there. next other (Contains-there letter letters other there)) (omega arith))

-- a state without tails
pub takings-none : (tree : TailTree) (number held code : ℕ) (items : List Taking) → items ≡ []
    → ((tail : ℕ) → IsTail tree tail → state_of tail ≡ number → ⊥) → AreTakings tree number held code items
takings-none tree number held code items none no_tail = record {
  are = All-same IsTaking items [] none (All-nil IsTaking);
  all = λ tail goes_on is at held_is. absurd (no_tail tail is at);
}

pub no-state : (tree : TailTree) (number : ℕ) → length tree.states.items ≤ number → (tail : ℕ) → IsTail tree tail → state_of tail ≡ number → ⊥
no-state tree number past tail is at = let within = is.within in omega arith

pub no-tails : (tree : TailTree) (number : ℕ) (state : State) → state_at tree.states.items number ≡ state → state.count ≡ 0
    → (tail : ℕ) → IsTail tree tail → state_of tail ≡ number → ⊥
unfolding state_before
no-tails tree number state state_is none tail is at =
    let there = is.there in
    omega (arith, there, none, ap (λ n. (state_at tree.states.items n).count) at, ap (λ (s : State). s.count) state_is)

-- a tail with a first piece
draws-leads : (tree : TailTree) (tail code held : ℕ) (goes_on : ℕ → Bool) (piece : Piece) (rest : List Piece) → Draws tree tail piece rest → held_of tail ≡ held
    → leads tree code goes_on tail ≡ leads_at (state_before tree tail) held code goes_on piece (place_of tail % (state_before tree tail).each)
unfolding leads leads_at
draws-leads tree tail code held goes_on piece rest draws held_is =
    let next = next_of (state_before tree tail) piece in
    let place = place_of tail % (state_before tree tail).each in
    let held_left : behind_letter tree tail (letter_at tree tail) ≡ tail_number next (piece_code piece) place =
    draws.behind (letter_at tree tail) ∙ ap (λ h. tail_number next h place) draws.letter in
    let drawn_left : behind_letter tree tail (held_of tail) ≡ tail_number next held place =
    draws.behind (held_of tail) ∙ ap (λ h. tail_number next h place) held_is in
    λ i. ((held_is i == code) && goes_on (held_left i)) || ((draws.letter i == code) && goes_on (drawn_left i))

draws-taken : (tree : TailTree) (tail code held : ℕ) (goes_on : ℕ → Bool) (piece : Piece) (rest : List Piece) → Draws tree tail piece rest → held_of tail ≡ held
    → leads tree code goes_on tail
    ≡ list_any (leads_by goes_on tail) (taken_from (state_before tree tail) 0 held code (pieces_in (state_before tree tail).set))
draws-taken tree tail code held goes_on piece rest draws held_is =
    let state = state_before tree tail in
    let number = place_of tail / state.each in
    let place = place_of tail % state.each in
    let first = draws.first in
    let is = get_or_from_slice_get (pieces_in state.set) number piece I first.there in
    let split : place_of tail ≡ 0 + number * state.each + place = omega (arith, div-add-mod (place_of tail) state.each) in
    draws-leads tree tail code held goes_on piece rest draws held_is
    ∙ ap (λ l. leads_at state held code goes_on l place) (sym is)
    ∙ sym (from-letter state 0 held code tail goes_on (pieces_in state.set) number place (slice_get_within (pieces_in state.set) number piece first.there) first.left split)

-- the ways where pieces are drawn
takings-from : (tree : TailTree) (number held code : ℕ) (items : List Taking) → number < length tree.states.items → held < 8
    → 0 < (state_at tree.states.items number).count → 0 < (state_at tree.states.items number).draws
    → items ≡ taken_from (state_at tree.states.items number) 0 held code (pieces_in (state_at tree.states.items number).set)
    → AreTakings tree number held code items
unfolding pieces_in state_before
takings-from tree number held code items within small some draws is =
    let states = tree.states.items in
    let state = state_at states number in
    let facts = tree.are_states.each number within in
    let next : (letter : Piece) → Contains (pieces_in state.set) letter → slice_index state.next (piece_code letter) < 2 ^ 16 = λ letter there.
    let member = (Contains-from_filter (λ p. is_in p state.set) all_pieces letter there).1 in
    let step = (facts.steps letter some draws member).within in
    let few = tree.are_states.few in
    omega (arith, step, few) in
    record {
      are = All-same IsTaking items (taken_from state 0 held code (pieces_in state.set)) is
          (from-takings state 0 held code (pieces_in state.set) small next (let few = facts.few in let shared = facts.shared some draws in omega (arith, few, shared)));
      all = λ tail goes_on is_tail at held_is. elim (tail-cases tree tail is_tail) [
        | inl drawn ↦
            draws-taken tree tail code held goes_on drawn.0 drawn.1 drawn.2 held_is
            ∙ ap (λ n. list_any (leads_by goes_on tail) (taken_from (state_at states n) 0 held code (pieces_in (state_at states n).set))) at
            ∙ ap (list_any (leads_by goes_on tail)) (sym is)
        | inr none ↦ let none_drawn = none.draws in absurd (omega (arith, draws, none_drawn, ap (λ n. (state_at states n).draws) at))
      ];
    }

pub takings-drawn : (tree : TailTree) (number held code : ℕ) (state : State) (items : List Taking) → state_at tree.states.items number ≡ state
    → number < length tree.states.items → held < 8 → 0 < state.count → 0 < state.draws
    → items ≡ taken_from state 0 held code (pieces_in state.set) → AreTakings tree number held code items
takings-drawn tree number held code state items state_is within small =
    subst (λ (s : State). 0 < s.count → 0 < s.draws → items ≡ taken_from s 0 held code (pieces_in s.set) → AreTakings tree number held code items)
    state_is (takings-from tree number held code items within small)

-- how many tails there may be, and how many begin with each letter
pub few-each : (tree : TailTree) (number : ℕ) (state : State) → state_at tree.states.items number ≡ state → number < length tree.states.items
    → 0 < state.count → 0 < state.draws → length (pieces_in state.set) * state.each ≤ 10000000
few-each tree number state state_is within =
    subst (λ (s : State). 0 < s.count → 0 < s.draws → length (pieces_in s.set) * s.each ≤ 10000000) state_is
    (λ some draws.
    let facts = tree.are_states.each number within in
    let few = facts.few in
    let shared = facts.shared some draws in
    omega (arith, few, shared))

pub next-size : (tree : TailTree) (number : ℕ) (state : State) → state_at tree.states.items number ≡ state → number < length tree.states.items
    → length state.next ≡ 8
next-size tree number state state_is within =
    subst (λ (s : State). length s.next ≡ 8) state_is (tree.are_states.each number within).size

-- where no piece is drawn, the held one can be taken
no-other : (b x : Bool) (code : ℕ) → 0 < code → (b || ((0 == code) && x)) ≡ b
no-other b x code some = grind (arith, nat_tests)

end-leads : (tree : TailTree) (tail number held code : ℕ) (goes_on : ℕ → Bool) → DrawsNone tree tail → state_of tail ≡ number → held_of tail ≡ held → 0 < code
    → leads tree code goes_on tail ≡ ((held == code) && goes_on (tail_number number 0 0))
unfolding leads
end-leads tree tail number held code goes_on end at held_is some =
    let left : behind_letter tree tail (letter_at tree tail) ≡ tail_number number 0 0 =
    end.behind (letter_at tree tail) ∙ (λ i. tail_number (at i) (end.letter i) (end.end.first i)) in
    let other = goes_on (behind_letter tree tail (held_of tail)) in
    (λ i. ((held_is i == code) && goes_on (left i)) || ((end.letter i == code) && other))
    ∙ no-other ((held == code) && goes_on (tail_number number 0 0)) other code some

abbrev pub end_run : ℕ → Taking
end_run base = record { first = 0; count = 1; base = base }

end-taken : (goes_on : ℕ → Bool) (tail base : ℕ) → place_of tail ≡ 0 → list_any (leads_by goes_on tail) (end_run base ∷ []) ≡ goes_on base
unfolding in_run left_of
end-taken goes_on tail base first =
    let left = ap goes_on {x = base + (place_of tail - 0)} {y = base} (omega (arith, first)) in
    grind (arith, nat_tests)

takings-end : (tree : TailTree) (number held code : ℕ) (items : List Taking) → (state_at tree.states.items number).draws ≡ 0 → All IsTaking items
    → ((tail : ℕ) (goes_on : ℕ → Bool) → place_of tail ≡ 0 → ((held == code) && goes_on (tail_number number 0 0)) ≡ list_any (leads_by goes_on tail) items)
    → 0 < code → AreTakings tree number held code items
unfolding state_before
takings-end tree number held code items none are same some = record {
  are = are;
  all = λ tail goes_on is_tail at held_is. elim (tail-cases tree tail is_tail) [
    | inl drawn ↦
        let draws = drawn.2.first.draws in
        absurd (omega (arith, none, draws, ap (λ n. (state_at tree.states.items n).draws) at))
    | inr end ↦ end-leads tree tail number held code goes_on end at held_is some ∙ same tail goes_on end.end.first
  ];
}

pub takings-held : (tree : TailTree) (number held base : ℕ) (piece : Piece) (state : State) (items : List Taking) → state_at tree.states.items number ≡ state
    → number < 2 ^ 16 → state.draws ≡ 0 → held ≡ piece_code piece → base ≡ tail_number number 0 0 → items ≡ end_run base ∷ []
    → AreTakings tree number held (piece_code piece) items
takings-held tree number held base piece state items state_is small none same base_is is =
    let run : Taking = end_run (tail_number number 0 0) in
    let all : items ≡ run ∷ [] = is ∙ ap (λ b. end_run b ∷ []) base_is in
    let taken : IsTaking run = record {
      begins = place_of-number number 0 0 (omega arith);
      fits = number-fits number 0 0 small (omega arith) (omega arith);
      few = omega arith;
    } in
    takings-end tree number held (piece_code piece) items (ap (λ (s : State). s.draws) state_is ∙ none)
    (All-same IsTaking items (run ∷ []) all (All-cons IsTaking run [] taken (All-nil IsTaking)))
    (λ tail goes_on first.
    ap (λ b. b && goes_on (tail_number number 0 0)) (eq-eqb held (piece_code piece) same)
    ∙ sym (end-taken goes_on tail (tail_number number 0 0) first) ∙ ap (list_any (leads_by goes_on tail)) (sym all))
    (piece_code-some piece)

pub takings-other : (tree : TailTree) (number held : ℕ) (piece : Piece) (state : State) (items : List Taking) → state_at tree.states.items number ≡ state
    → state.draws ≡ 0 → held ≢ piece_code piece → items ≡ [] → AreTakings tree number held (piece_code piece) items
takings-other tree number held piece state items state_is none other is =
    takings-end tree number held (piece_code piece) items (ap (λ (s : State). s.draws) state_is ∙ none)
    (All-same IsTaking items [] is (All-nil IsTaking))
    (λ tail goes_on first.
    ap (λ b. b && goes_on (tail_number number 0 0)) (ne_eqb held (piece_code piece) other) ∙ ap (list_any (leads_by goes_on tail)) (sym is))
    (piece_code-some piece)
