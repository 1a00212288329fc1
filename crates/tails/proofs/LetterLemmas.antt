-- The first piece of a tail of a state, and what is left of the tail.
use Rattle.std.proofs.Common.{◌≡◌, ℕ, zero, suc, ◌+◌, ◌-◌, ◌*◌, ◌/◌, ◌%◌, ◌<◌, true, List, [], ◌∷◌, Some, Contains, drop, get_or, length, ap, sym, subst, ◌∙◌, arith}
use Rattle.std.specs.List.{slice_get, slice_index}
use Rattle.std.specs.Option.{option_map}
use Rattle.std.proofs.Math.Nat.{div-add-mod, div-lt_iff_lt-mul, mod-lt}
use Rattle.std.proofs.lemmas.Option.{get_or_from_slice_get, slice_get-get_or, slice_get_within}
use Rattle.srs.specs.declared.piece.Piece.{Piece}
use Rattle.srs.specs.declared.piece.Piece.TheVariants.{I}
use Rattle.srs.specs.Piece.{all_pieces, piece_code}
use Rattle.srs.proofs.CallerLemmas.{Contains-from_filter}
use Rattle.queue_pattern.specs.declared.element.Element.{Element}
use Rattle.queue_pattern.specs.Queues.{falling_factor, is_in, others, pieces_in, queue_count, tails}
use Rattle.queue_pattern.proofs.CallerLemmas.{length-others, length-tails, others-set, pieces_in-set, queues-none, tails-get, tails-none}
use Rattle.tails.specs.declared.states.State.{State}
use Rattle.tails.specs.States.{state_at, tails_of}
use Rattle.tails.specs.Trees.{AreStates, IsStep}

-- the number of the state after a piece
abbrev pub next_of : State → Piece → ℕ
next_of state piece = slice_index state.next (piece_code piece)

-- A tail of the state begins with this piece, and what is left of it is a tail of the next state.
pub record IsLetter (elements : List Element) (states : List State) (state : State) (place : ℕ) (piece : Piece) : Type 0 where
  pub draws : 0 < state.draws
  pub there : slice_get (pieces_in state.set) (place / state.each) ≡ Some piece
  pub member : is_in piece state.set ≡ true
  pub drawn : get_or (tails_of elements state) place []
      ≡ piece ∷ get_or (tails_of elements (state_at states (next_of state piece))) (place % state.each) []
  pub within : next_of state piece < length states
  pub counted : (state_at states (next_of state piece)).count ≡ state.each
  pub left : place % state.each < state.each
  pub some : 0 < state.each

-- the index of a block is that of a piece
each-some : (place pieces each : ℕ) → place < pieces * each → 0 < each
each-some place pieces zero within = absurd (omega (arith, within))
each-some place pieces (suc each) within = omega arith

index-within : (place pieces each : ℕ) → place < pieces * each → place / each < pieces
index-within place pieces each within = (div-lt_iff_lt-mul {k = each} {x = place} {y = pieces} (each-some place pieces each within)).1 within

pub piece-in : (set index : ℕ) (piece : Piece) → slice_get (pieces_in set) index ≡ Some piece → is_in piece set ≡ true
unfolding pieces_in
piece-in set index piece there =
    (Contains-from_filter (λ p. is_in p set) all_pieces piece
    (index, slice_get_within (pieces_in set) index piece there, get_or_from_slice_get (pieces_in set) index piece piece there)).1

-- as many begin with each piece as are left behind it
each-is : (elements : List Element) (states : List State) (state : State) (piece : Piece) → AreStates elements states
    → IsStep elements states state piece → Contains (pieces_in state.set) piece → 0 < state.each
    → state.each ≡ falling_factor (length (pieces_in state.set) - 1) (state.draws - 1) * queue_count (drop state.behind elements)
each-is elements states state piece are step member some =
    let pieces = pieces_in state.set in
    let rest = drop state.behind elements in
    let next = next_of state piece in
    let whole = (are.each next step.within).counted (subst (λ n. 0 < n) (sym step.counted) some) in
    let fewer : length (others piece pieces) ≡ length pieces - 1 = omega (arith, length-others piece pieces (pieces_in-set state.set) member) in
    sym step.counted ∙ whole ∙ ap length step.tails_are
    ∙ length-tails (others piece pieces) (state.draws - 1) rest (others-set piece pieces (pieces_in-set state.set))
    ∙ ap (λ m. falling_factor m (state.draws - 1) * queue_count rest) fewer

-- the letter with the number of whole blocks
letter-at : (elements : List Element) (states : List State) (state : State) (place : ℕ) (piece : Piece) → AreStates elements states
    → IsStep elements states state piece → 0 < state.each → 0 < state.draws → slice_get (pieces_in state.set) (place / state.each) ≡ Some piece
    → get_or (tails_of elements state) place []
    ≡ piece ∷ get_or (tails_of elements (state_at states (next_of state piece))) (place % state.each) []
unfolding tails_of
letter-at elements states state place piece are step some draws there =
    let pieces = pieces_in state.set in
    let rest = drop state.behind elements in
    let left = tails (others piece pieces) (state.draws - 1) rest in
    let index = place / state.each in
    let at = place % state.each in
    let contained : Contains pieces piece = (index, slice_get_within pieces index piece there, get_or_from_slice_get pieces index piece piece there) in
    let each : state.each ≡ falling_factor (length pieces - 1) (state.draws - 1) * queue_count rest = each-is elements states state piece are step contained some in
    let below : at < state.each = mod-lt place some in
    let counted : length left ≡ state.each =
    ap length (sym step.tails_are) ∙ sym ((are.each (next_of state piece) step.within).counted (subst (λ n. 0 < n) (sym step.counted) some)) ∙ step.counted in
    let found = slice_get-get_or left at [] (subst (λ n. at < n) (sym counted) below) in
    let one = tails-get pieces (state.draws - 1) rest index at state.each piece (pieces_in-set state.set) each below there in
    let split : index * state.each + at ≡ place = omega (arith, div-add-mod place state.each) in
    let draws_are : suc (state.draws - 1) ≡ state.draws = omega arith in
    let whole : slice_get (tails pieces state.draws rest) place ≡ Some (piece ∷ get_or left at []) =
    (λ i. slice_get (tails pieces (sym draws_are i) rest) (sym split i)) ∙ one ∙ ap (option_map (λ rest. piece ∷ rest)) found in
    get_or_from_slice_get (tails pieces state.draws rest) place (piece ∷ get_or left at []) [] whole
    ∙ ap (λ ts. piece ∷ get_or ts at []) (sym step.tails_are)

-- a piece that stands at the index is the letter
pub letter-is : (elements : List Element) (states : List State) (number place : ℕ) (piece : Piece) → AreStates elements states
    → number < length states → place < (state_at states number).count → 0 < (state_at states number).draws
    → slice_get (pieces_in (state_at states number).set) (place / (state_at states number).each) ≡ Some piece
    → IsLetter elements states (state_at states number) place piece
letter-is elements states number place piece are within below draws there =
    let state = state_at states number in
    let is = are.each number within in
    let shared = is.shared (omega (arith, below)) draws in
    let some = each-some place (length (pieces_in state.set)) state.each (omega (arith, below, shared)) in
    let member = piece-in state.set (place / state.each) piece there in
    let step = is.steps piece (omega (arith, below)) draws member in
    record {
      draws = draws;
      there = there;
      member = member;
      drawn = letter-at elements states state place piece are step some draws there;
      within = step.within;
      counted = step.counted;
      left = mod-lt place some;
      some = some;
    }

-- some piece does
pub index-of-piece : (elements : List Element) (states : List State) (number place : ℕ) → AreStates elements states
    → number < length states → place < (state_at states number).count → 0 < (state_at states number).draws
    → place / (state_at states number).each < length (pieces_in (state_at states number).set)
index-of-piece elements states number place are within below draws =
    let state = state_at states number in
    let shared = (are.each number within).shared (omega (arith, below)) draws in
    index-within place (length (pieces_in state.set)) state.each (omega (arith, below, shared))

pub letter-found : (elements : List Element) (states : List State) (number place : ℕ) → AreStates elements states
    → number < length states → place < (state_at states number).count → 0 < (state_at states number).draws
    → (piece : Piece) × IsLetter elements states (state_at states number) place piece
letter-found elements states number place are within below draws =
    let state = state_at states number in
    let piece = get_or (pieces_in state.set) (place / state.each) I in (
      piece,
      letter-is elements states number place piece are within below draws
          (slice_get-get_or (pieces_in state.set) (place / state.each) I (index-of-piece elements states number place are within below draws)),
    )

-- where nothing is to be drawn there is one tail, and nothing in it
pub record IsEnd (elements : List Element) (state : State) (place : ℕ) : Type 0 where
  pub one : state.count ≡ 1
  pub first : place ≡ 0
  pub drawn : get_or (tails_of elements state) place [] ≡ []

pub end-is : (elements : List Element) (states : List State) (number place : ℕ) → AreStates elements states
    → number < length states → place < (state_at states number).count → (state_at states number).draws ≡ 0
    → IsEnd elements (state_at states number) place
unfolding tails_of
end-is elements states number place are within below none =
    let state = state_at states number in
    let is = are.each number within in
    let rest : drop state.behind elements ≡ [] = is.ended (omega (arith, below)) none in
    let all : tails (pieces_in state.set) state.draws (drop state.behind elements) ≡ [] ∷ [] =
    (λ i. tails (pieces_in state.set) (none i) (rest i)) ∙ tails-none (pieces_in state.set) [] ∙ queues-none in
    let one : state.count ≡ 1 = is.counted (omega (arith, below)) ∙ ap length all in
    let first : place ≡ 0 = omega (arith, below, one) in
    record { one = one; first = first; drawn = (λ i. get_or (all i) (first i) []) }
