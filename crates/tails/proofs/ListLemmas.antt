-- Reading and listing the numbers of tails' pieces.
use Rattle.std.proofs.Common.{◌≡◌, ◌≢◌, ℕ, suc, ◌+◌, ◌*◌, ◌/◌, ◌%◌, ◌^◌, ◌<◌, ◌≤◌, List, [], ◌∷◌, Option, Some, get_or, drop, length, refl, ap, sym, subst, ◌∙◌, arith}
use Rattle.std.specs.List.{slice_get}
use Rattle.std.proofs.Math.Nat.{pow-le-pow_right, pow-suc, pow-succ'}
use Rattle.std.proofs.lemmas.List.{get_or_default}
use Rattle.std.proofs.lemmas.List.Sums.{sum_by-cons}
use Rattle.std.proofs.lemmas.Option.{slice_get_read}
use Rattle.srs.specs.declared.piece.Piece.{Piece}
use Rattle.srs.specs.Piece.{piece_code}
use Rattle.srs.proofs.CallerLemmas.{piece_code-small}
use Rattle.queue_pattern.specs.declared.element.Element.{Element}
use Rattle.queue_pattern.specs.Queues.{pieces_in, queue_len, tails}
use Rattle.queue_pattern.proofs.CallerLemmas.{queues-long, queues-tails}
use Rattle.hands.specs.Hands.{number_of}
use Rattle.tails.specs.declared.lists.Lists.{Lists}
use Rattle.tails.specs.declared.states.State.{State}
use Rattle.tails.specs.Listings.{AreShort, IsListing}
use Rattle.tails.specs.Lists.{number_at}
use Rattle.tails.specs.States.{no_state, state_at, tails_of}
use Rattle.tails.proofs.LetterLemmas.{end-is, index-of-piece, letter-found, letter-is, next_of}

-- the pieces of a tail
unfoldable pub pieces_at : List Element → List State → ℕ → ℕ → List Piece
pieces_at elements states number place = get_or (tails_of elements (state_at states number)) place []

-- After so many letters the rest of the number is that of a tail.
pub record Reading (elements : List Element) (states : List State) (whole number place turn unit sum : ℕ) : Type 0 where
  pub within : number < length states
  pub there : place < (state_at states number).count
  pub unit_is : unit ≡ 8 ^ turn
  pub sum_is : sum + unit * number_at elements (state_at states number) place ≡ whole
  pub short : turn + length (pieces_at elements states number place) ≤ 21
  pub small : whole < 8 ^ 21

pub state-read : (states : List State) (number : ℕ) (d : State) → number < length states → get_or states number d ≡ state_at states number
unfolding state_at
state-read states number d within = get_or_default states number d no_state within

-- a tail is no longer than a queue
tails-long : (set draws : ℕ) (rest : List Element) (place : ℕ) → place < length (tails (pieces_in set) draws rest)
    → length (get_or (tails (pieces_in set) draws rest) place []) ≡ draws + queue_len rest
tails-long set draws rest place within =
    let element : Element = record { set = set; chosen = draws } in
    let all = queues-tails element rest in
    let long = queues-long (element ∷ rest) place [] (subst (λ l. place < length l) (sym all) within) in
    ap (λ l. length (get_or l place [])) (sym all) ∙ long ∙ sum_by-cons (λ (e : Element). e.chosen) element rest

pub pieces-long : (elements : List Element) (states : List State) (number place : ℕ) → AreShort elements states → number < length states
    → place < (state_at states number).count → length (pieces_at elements states number place) ≤ 21
unfolding pieces_at tails_of
pieces-long elements states number place are within there =
    let state = state_at states number in
    let is = are.are.each number within in
    let some : 0 < state.count = omega (arith, there) in
    let counted = is.counted some in
    let long = tails-long state.set state.draws (drop state.behind elements) place (omega (arith, there, counted)) in
    omega (arith, long, is.short some, are.short)

pub number-pieces : (elements : List Element) (states : List State) (number place : ℕ)
    → number_at elements (state_at states number) place ≡ number_of (pieces_at elements states number place)
unfolding number_at pieces_at
number-pieces elements states number place = refl

pub number-below : (pieces : List Piece) → number_of pieces < 8 ^ length pieces
unfolding number_of
number-below [] = omega arith
number-below (piece ∷ pieces) = omega (arith, piece_code-small piece, number-below pieces, pow-succ' 8 (length pieces))

number-small : (elements : List Element) (states : List State) (number place : ℕ) → AreShort elements states → number < length states
    → place < (state_at states number).count → number_at elements (state_at states number) place < 8 ^ 21
number-small elements states number place are within there =
    let pieces = pieces_at elements states number place in
    let long = pieces-long elements states number place are within there in
    let more : 8 ^ length pieces ≤ 8 ^ 21 = pow-le-pow_right {n = 8} (omega arith) {i = length pieces} {j = 21} long in
    omega (arith, number-pieces elements states number place, number-below pieces, more)

pub reading-starts : (elements : List Element) (states : List State) (whole number place : ℕ) → AreShort elements states → number < length states
    → place < (state_at states number).count → whole ≡ number_at elements (state_at states number) place
    → Reading elements states whole number place 0 1 0
reading-starts elements states whole number place are within there is = record {
  within = within;
  there = there;
  unit_is = refl;
  sum_is = omega (arith, is);
  short = omega (arith, pieces-long elements states number place are within there);
  small = omega (arith, is, number-small elements states number place are within there);
}

-- where the rest is listed
pub start-is : (elements : List Element) (states : List State) (lists : Lists) (number start : ℕ) (entry : Option ℕ) → IsListing elements states lists
    → number < length states → entry ≡ get_or lists.starts.items number entry → entry ≡ Some start → slice_get lists.starts.items number ≡ Some (Some start)
start-is elements states lists number start entry listing within read is =
    slice_get_read lists.starts.items (length states) number entry (sym listing.listed.size) within read ∙ ap Some is

pub listed-ends : (elements : List Element) (states : List State) (lists : Lists) (whole number place turn unit sum start value : ℕ) → IsListing elements states lists
    → Reading elements states whole number place turn unit sum → slice_get lists.starts.items number ≡ Some (Some start)
    → value ≡ get_or lists.numbers.items (start + place) value → sum + unit * value ≡ whole
listed-ends elements states lists whole number place turn unit sum start value listing reading starts read =
    let within = listing.listed.each number start place starts reading.there in
    let is : value ≡ number_at elements (state_at states number) place =
    read ∙ get_or_default lists.numbers.items (start + place) value 0 within ∙ listing.listed.numbers number start place starts reading.there in
    ap (λ n. sum + unit * n) is ∙ reading.sum_is

-- where nothing is left to be drawn
pub drawn-ends : (elements : List Element) (states : List State) (whole number place turn unit sum : ℕ) → AreShort elements states
    → Reading elements states whole number place turn unit sum → (state_at states number).draws ≡ 0 → sum ≡ whole
unfolding number_of number_at
drawn-ends elements states whole number place turn unit sum are reading none =
    let end = end-is elements states number place are.are reading.within reading.there none in
    let zero_left : number_at elements (state_at states number) place ≡ 0 = number-none elements states number place end.drawn in
    omega (arith, reading.sum_is, ap (λ n. unit * n) zero_left)
  where
    number-none : (elements : List Element) (states : List State) (number place : ℕ) → get_or (tails_of elements (state_at states number)) place [] ≡ []
        → number_at elements (state_at states number) place ≡ 0
    number-none elements states number place none = ap number_of none

-- one letter more
pub record Next (elements : List Element) (states : List State) (whole number place turn unit sum : ℕ) (piece : Piece) (code : ℕ) : Type 0 where
  pub reading : Reading elements states whole (next_of (state_at states number) piece) (place % (state_at states number).each) (turn + 1) (unit * 8) (sum + unit * code)
  pub unit_small : unit ≤ 8 ^ 20
  pub upto : sum + unit * code ≤ whole

pub reading-more : (elements : List Element) (states : List State) (whole number place turn unit sum : ℕ) (piece : Piece) (code : ℕ) → AreShort elements states
    → Reading elements states whole number place turn unit sum → 0 < (state_at states number).draws
    → slice_get (pieces_in (state_at states number).set) (place / (state_at states number).each) ≡ Some piece → code ≡ piece_code piece
    → Next elements states whole number place turn unit sum piece code
unfolding pieces_at number_at number_of
reading-more elements states whole number place turn unit sum piece code are reading draws there is =
    let state = state_at states number in
    let letter = letter-is elements states number place piece are.are reading.within reading.there draws there in
    let next = next_of state piece in
    let left = place % state.each in
    let shorter : length (get_or (tails_of elements state) place []) ≡ suc (length (get_or (tails_of elements (state_at states next)) left [])) = ap length letter.drawn in
    let value : number_of (get_or (tails_of elements state) place []) ≡ piece_code piece + 8 * number_of (get_or (tails_of elements (state_at states next)) left []) = ap number_of letter.drawn in
    let below : turn ≤ 20 = omega (arith, reading.short, shorter) in
    let rest = number_of (get_or (tails_of elements (state_at states next)) left []) in
    let sums : sum + unit * code + unit * 8 * rest ≡ whole = sum-split sum unit code (number_of (get_or (tails_of elements state) place [])) rest whole (value ∙ ap (λ n. n + 8 * rest) (sym is)) reading.sum_is in
    let few : 8 ^ turn ≤ 8 ^ 20 = pow-le-pow_right {n = 8} (omega arith) {i = turn} {j = 20} below in
    record {
      reading = record {
        within = letter.within;
        there = omega (arith, letter.left, letter.counted);
        unit_is = ap (λ n. n * 8) reading.unit_is ∙ sym (pow-suc 8 turn) ∙ ap (λ n. 8 ^ n) (omega arith);
        sum_is = sums;
        short = omega (arith, reading.short, shorter);
        small = reading.small;
      };
      unit_small = omega (arith, few, reading.unit_is);
      upto = omega (arith, sums);
    }
  where
    sum-split : (sum unit code whole rest all : ℕ) → whole ≡ code + 8 * rest → sum + unit * whole ≡ all → sum + unit * code + unit * 8 * rest ≡ all
    sum-split sum unit code whole rest all is sums = omega (arith, ap (λ n. unit * n) is, sums)

-- the piece is there
pub reading-index : (elements : List Element) (states : List State) (whole number place turn unit sum : ℕ) → AreShort elements states
    → Reading elements states whole number place turn unit sum → 0 < (state_at states number).draws
    → (0 < (state_at states number).each) × (place / (state_at states number).each < length (pieces_in (state_at states number).set))
reading-index elements states whole number place turn unit sum are reading draws = (
  (letter-found elements states number place are.are reading.within reading.there draws).1.some,
  index-of-piece elements states number place are.are reading.within reading.there draws,
)

-- The state that is read is the one with the number, and the piece that is read is its letter.
pub record Turn (elements : List Element) (states : List State) (whole number place turn unit sum : ℕ) (state : State) : Type 0 where
  pub reading : Reading elements states whole number place turn unit sum
  pub short : AreShort elements states
  pub state_is : state ≡ state_at states number
  pub draws : 0 < state.draws

pub turn-is : (elements : List Element) (states : List State) (lists : Lists) (whole number place turn unit sum : ℕ) (d : State) → IsListing elements states lists
    → Reading elements states whole number place turn unit sum → ((get_or states number d).draws ≡ 0 → ⊥)
    → Turn elements states whole number place turn unit sum (get_or states number d)
turn-is elements states lists whole number place turn unit sum d listing reading some = record {
  reading = reading;
  short = listing.are;
  state_is = state-read states number d reading.within;
  draws = let other : (get_or states number d).draws ≢ 0 = some in omega (arith, other);
}

module _ (elements : List Element) (states : List State) (whole number place turn unit sum : ℕ) (state : State) (is : Turn elements states whole number place turn unit sum state) where
  draws-there : 0 < (state_at states number).draws
  draws-there = subst (λ (s : State). 0 < s.draws) is.state_is is.draws

  pub turn-each : 0 < state.each
  turn-each = subst (λ (s : State). 0 < s.each) (sym is.state_is) (reading-index elements states whole number place turn unit sum is.short is.reading draws-there).0

  pub turn-index : place / state.each < length (pieces_in state.set)
  turn-index = subst (λ (s : State). place / s.each < length (pieces_in s.set)) (sym is.state_is) (reading-index elements states whole number place turn unit sum is.short is.reading draws-there).1

  pub turn-next : (piece : Piece) (code : ℕ) → slice_get (pieces_in state.set) (place / state.each) ≡ Some piece → code ≡ piece_code piece
      → Next elements states whole number place turn unit sum piece code
  turn-next piece code there code_is =
      reading-more elements states whole number place turn unit sum piece code is.short is.reading draws-there
      (subst (λ (s : State). slice_get (pieces_in s.set) (place / s.each) ≡ Some piece) is.state_is there) code_is

  pub turn-more : (piece : Piece) (code next again : ℕ) → slice_get (pieces_in state.set) (place / state.each) ≡ Some piece → code ≡ piece_code piece
      → again ≡ piece_code piece → next ≡ get_or state.next again 0
      → Reading elements states whole next (place % state.each) (turn + 1) (unit * 8) (sum + unit * code)
  turn-more piece code next again there code_is again_is next_is =
      let more = turn-next piece code there code_is in
      let number_is : next ≡ next_of (state_at states number) piece = next_is ∙ ap (λ n. get_or state.next n 0) again_is ∙ ap (λ (s : State). next_of s piece) is.state_is in
      subst (λ n. Reading elements states whole n (place % state.each) (turn + 1) (unit * 8) (sum + unit * code)) (sym number_is)
      (subst (λ (s : State). Reading elements states whole (next_of (state_at states number) piece) (place % s.each) (turn + 1) (unit * 8) (sum + unit * code)) (sym is.state_is) more.reading)
