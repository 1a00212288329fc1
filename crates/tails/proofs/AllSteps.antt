-- The tails of all queues, run by run.
use Rattle.std.proofs.Common.{◌≡◌, ℕ, suc, ◌+◌, ◌-◌, ◌*◌, ◌/◌, ◌%◌, ◌^◌, ◌<◌, ◌≤◌, ◌&&◌, ◌||◌, Bool, true, false, nat_le, nat_lt, Option, Some, None, get_or, length, refl, ap, sym, subst, ◌∙◌, inl, inr, arith}
use Rattle.std.specs.List.{slice_get}
use Rattle.std.proofs.Math.Nat.{add-mul-div_right, div-eq_of_lt, mod-eq_of_lt, mod-lt, mul-add-mod_self_right, mul-le-mul, suc-mul}
use Rattle.std.proofs.lemmas.Bool.{and_from, and_parts, cases_lt, le-leb, leb-true, lt-ltb, ltb-true, or_cases, or_left, or_right, true≢false}
use Rattle.std.proofs.lemmas.Option.{slice_get-get_or}
use Rattle.srs.specs.declared.piece.Piece.{Piece}
use Rattle.srs.specs.declared.piece.Piece.TheVariants.{I}
use Rattle.srs.specs.Piece.{all_pieces, piece_code}
use Rattle.srs.proofs.CallerLemmas.{piece_code-injective, piece_code-small}
use Rattle.queue_pattern.specs.Pattern.{elements_of}
use Rattle.queue_pattern.specs.Queues.{is_in, pieces_in, queues}
use Rattle.queue_pattern.proofs.CallerLemmas.{pattern-some}
use Rattle.hold_queue.specs.AtHand.{playable}
use Rattle.hold_queue.specs.declared.hold.Hold.{Hold}
use Rattle.hold_queue.specs.declared.hold.Hold.TheVariants.{Allowed, Avoided}
use Rattle.tails.specs.declared.states.State.{State}
use Rattle.tails.specs.declared.tree.TailTree.{TailTree}
use Rattle.tails.specs.Numbers.{tail_number}
use Rattle.tails.specs.States.{state_at}
use Rattle.tails.specs.Tails.{AreTails, IsTail, start_tail}
use Rattle.tails.proofs.LetterLemmas.{next_of, piece-in}
use Rattle.tails.proofs.MadeLemmas.{code-stands}
use Rattle.tails.proofs.NumberLemmas.{number-fits}
use Rattle.tails.proofs.StartLemmas.{IsStart, first-there, first-within, letter-there, start-read}
use Rattle.tails.proofs.StateLemmas.{piece-contained}

-- the tails with the first places of a state, behind a held piece
pub record IsRun (tails : ℕ → Bool) (state held count : ℕ) : Type 0 where
  pub each : (place : ℕ) → place < count → tails (tail_number state held place) ≡ true
  pub only : (tail : ℕ) → tails tail ≡ true → (place : ℕ) × (place < count) × (tail ≡ tail_number state held place)

number-from : (state held place : ℕ) → tail_number state held place ≡ tail_number state held 0 + place
unfolding tail_number
number-from state held place = omega arith

pub run-is : (tails : ℕ → Bool) (first count state held : ℕ) → first ≡ tail_number state held 0
    → ((tail : ℕ) → tails tail ≡ (nat_le first tail && nat_lt (tail - first) count)) → IsRun tails state held count
run-is tails first count state held first_is are = record {
  each = λ place within.
      let at = number-from state held place in
      are (tail_number state held place)
      ∙ and_from _ _ (le-leb first (tail_number state held place) (omega (arith, at, first_is)))
      (lt-ltb (tail_number state held place - first) count (omega (arith, at, first_is, within)));
  only = λ tail has.
      let parts = and_parts (nat_le first tail) (nat_lt (tail - first) count) (sym (are tail) ∙ has) in
      let behind : first ≤ tail = leb-true first tail parts.0 in
      let below : tail - first < count = ltb-true (tail - first) count parts.1 in
      let at = number-from state held (tail - first) in
      (tail - first, below, omega (arith, at, first_is, behind));
}

-- a run begins with a block, and its tails have numbers of 51 bits
pub run-begins : (first state held : ℕ) → first ≡ tail_number state held 0 → first % 64 ≡ 0
unfolding tail_number
run-begins first state held is = omega (arith, is)

pub run-fits : (first state held : ℕ) → first ≡ tail_number state held 0 → state < 2 ^ 16 → held < 8 → first < 2 ^ 51
run-fits first state held is within small = subst (λ n. n < 2 ^ 51) (sym is) (number-fits state held 0 within small (omega arith))

-- the tail of some queue
abbrev pub IsOfQueue : (tree : TailTree) (held : Option Piece) (tail : ℕ) → Type 0
IsOfQueue tree held tail = (number : ℕ) × (number < length (queues (elements_of tree.pattern))) × (tail ≡ start_tail tree held number)

-- the tails of all queues, and no others
pub record AreStarts (tree : TailTree) (held : Option Piece) (found : ℕ → Bool) : Type 0 where
  pub tails : AreTails tree found
  pub all : (number : ℕ) → number < length (queues (elements_of tree.pattern)) → found (start_tail tree held number) ≡ true
  pub only : (tail : ℕ) → found tail ≡ true → IsOfQueue tree held tail

pub run-starts : (tree : TailTree) (held : Option Piece) (tails : ℕ → Bool) (state code count : ℕ) → IsRun tails state code count
    → count ≡ length (queues (elements_of tree.pattern))
    → ((number result : ℕ) → number < length (queues (elements_of tree.pattern)) → result ≡ tail_number state code number → IsStart tree held number result)
    → AreStarts tree held tails
run-starts tree held tails state code count run count_is starts = record {
  tails = λ tail has.
      let found = run.only tail has in
      (starts found.0 tail (omega (arith, found.1, count_is)) found.2).tail;
  all = λ number within.
      let start = starts number (tail_number state code number) within refl in
      subst (λ t. tails t ≡ true) start.value (run.each number (omega (arith, within, count_is)));
  only = λ tail has.
      let found = run.only tail has in
      let within : found.0 < length (queues (elements_of tree.pattern)) = omega (arith, found.1, count_is) in
      (found.0, within, (starts found.0 tail within found.2).value);
}

-- where the first letters are held: the tails behind those that were passed
pub record AreBehind (tree : TailTree) (state : State) (found : ℕ → Bool) (count : ℕ) : Type 0 where
  pub tails : AreTails tree found
  pub only : (tail : ℕ) → found tail ≡ true → IsOfQueue tree None tail
  pub all : (piece : Piece) → piece_code piece ≤ count → is_in piece state.set ≡ true → (place : ℕ) → place < state.each
      → found (tail_number (next_of state piece) (piece_code piece) place) ≡ true

-- a piece that is in no set is passed
pub behind-passed : (tree : TailTree) (state : State) (tails : ℕ → Bool) (count : ℕ) → count < 7 → is_in (get_or all_pieces count I) state.set ≡ false
    → AreBehind tree state tails count → AreBehind tree state tails (count + 1)
behind-passed tree state tails count few out behind = record {
  tails = behind.tails;
  only = behind.only;
  all = λ piece upto inside place below. elim (cases_lt (piece_code piece) (count + 1)) [
    | inl before ↦ behind.all piece (omega (arith, before)) inside place below
    | inr at ↦
        let code : piece_code (get_or all_pieces count I) ≡ piece_code piece = code-stands count few ∙ omega (arith, at, upto) in
        let same : get_or all_pieces count I ≡ piece = piece_code-injective (get_or all_pieces count I) piece code in
        absurd (true≢false (sym inside ∙ ap (λ p. is_in p state.set) (sym same) ∙ out))
  ];
}

-- the number of the queue with a letter and a place behind it
block-div : (index each place : ℕ) → place < each → (index * each + place) / each ≡ index
block-div index each place below =
    ap (λ n. n / each) (omega arith) ∙ add-mul-div_right place index {z = each} (omega (arith, below)) ∙ ap (λ n. n + index) (div-eq_of_lt below) ∙ omega arith

block-mod : (index each place : ℕ) → place < each → (index * each + place) % each ≡ place
block-mod index each place below = mul-add-mod_self_right index each place ∙ mod-eq_of_lt below

block-within : (index each place pieces : ℕ) → index < pieces → place < each → index * each + place < pieces * each
block-within index each place pieces within below =
    let more : suc index * each ≤ pieces * each = mul-le-mul within (omega arith) in
    omega (arith, suc-mul index each, more, below)

-- the first state, where hold is allowed
pub record IsFirst (tree : TailTree) (state : State) : Type 0 where
  pub hold : tree.hold ≡ Allowed
  pub is : state ≡ state_at tree.states.items tree.first
  pub draws : 0 < state.draws
  pub some : 0 < length (queues (elements_of tree.pattern))

none-playable : (hold : Hold) → playable hold None ≡ None
none-playable Allowed = refl
none-playable Avoided = refl

-- its tails are shared among its letters
first-shared : (tree : TailTree) (state : State) → IsFirst tree state → length (queues (elements_of tree.pattern)) ≡ length (pieces_in state.set) * state.each
first-shared tree state first =
    let at = state_at tree.states.items tree.first in
    let draws : 0 < at.draws = subst (λ (s : State). 0 < s.draws) first.is first.draws in
    let there = first-there tree 0 first.some in
    let shared = (tree.are_states.each tree.first (first-within tree 0 first.some)).shared there draws in
    sym tree.first_count ∙ shared ∙ ap (λ (s : State). length (pieces_in s.set) * s.each) (sym first.is)

first-start : (tree : TailTree) (state : State) (piece : Piece) (number result : ℕ) → IsFirst tree state → number < length (queues (elements_of tree.pattern))
    → slice_get (pieces_in state.set) (number / state.each) ≡ Some piece
    → result ≡ tail_number (next_of state piece) (piece_code piece) (number % state.each) → IsStart tree None number result
first-start tree state piece number result first within there is =
    start-read tree None piece number result state first.hold (none-playable tree.hold) within first.is first.draws there is

-- each tail behind a letter is that of a queue
behind-letter : (tree : TailTree) (state : State) (piece : Piece) (place : ℕ) → IsFirst tree state → is_in piece state.set ≡ true → place < state.each
    → (number : ℕ) × (number < length (queues (elements_of tree.pattern)))
    × IsStart tree None number (tail_number (next_of state piece) (piece_code piece) place)
behind-letter tree state piece place first inside below =
    let there = piece-contained state.set piece inside in
    let index = there.0 in
    let number = index * state.each + place in
    let counted : length (queues (elements_of tree.pattern)) ≡ length (pieces_in state.set) * state.each = first-shared tree state first in
    let within : number < length (queues (elements_of tree.pattern)) = omega (arith, counted, block-within index state.each place (length (pieces_in state.set)) there.1 below) in
    let found : slice_get (pieces_in state.set) (number / state.each) ≡ Some piece =
    ap (slice_get (pieces_in state.set)) (block-div index state.each place below) ∙ slice_get-get_or (pieces_in state.set) index piece there.1 ∙ ap Some there.2 in
    let start = first-start tree state piece number (tail_number (next_of state piece) (piece_code piece) place) first within found
    (ap (tail_number (next_of state piece) (piece_code piece)) (sym (block-mod index state.each place below))) in
    (number, within, start)

-- one letter more
pub behind-more : (tree : TailTree) (state : State) (tails run merged : ℕ → Bool) (count : ℕ) (next code : ℕ) → count < 7 → IsFirst tree state
    → is_in (get_or all_pieces count I) state.set ≡ true → next ≡ next_of state (get_or all_pieces count I) → code ≡ piece_code (get_or all_pieces count I)
    → IsRun run next code state.each → ((tail : ℕ) → merged tail ≡ (tails tail || run tail))
    → AreBehind tree state tails count → AreBehind tree state merged (count + 1)
behind-more tree state tails run merged count next code few first inside next_is code_is is_run are behind =
    let letter = get_or all_pieces count I in
    let run_is : IsRun run (next_of state letter) (piece_code letter) state.each = subst (λ n. IsRun run n (piece_code letter) state.each) next_is (subst (λ n. IsRun run next n state.each) code_is is_run) in
    record {
      tails = λ tail has. elim (or_cases (tails tail) (run tail) (sym (are tail) ∙ has)) [
        | inl old ↦ behind.tails tail old
        | inr new ↦
            let found = run_is.only tail new in
            subst (IsTail tree) (sym found.2) (behind-letter tree state letter found.0 first inside found.1).2.tail
      ];
      only = λ tail has. elim (or_cases (tails tail) (run tail) (sym (are tail) ∙ has)) [
        | inl old ↦ behind.only tail old
        | inr new ↦
            let found = run_is.only tail new in
            let start = behind-letter tree state letter found.0 first inside found.1 in
            (start.0, start.1, found.2 ∙ start.2.value)
      ];
      all = λ piece upto within place below. elim (cases_lt (piece_code piece) (count + 1)) [
        | inl before ↦
            let tail = tail_number (next_of state piece) (piece_code piece) place in
            are tail ∙ or_left (tails tail) (run tail) (behind.all piece (omega (arith, before)) within place below)
        | inr at ↦
            let same : letter ≡ piece = piece_code-injective letter piece (code-stands count few ∙ omega (arith, at, upto)) in
            let tail = tail_number (next_of state piece) (piece_code piece) place in
            are tail ∙ or_right (tails tail) (run tail) (subst (λ p. run (tail_number (next_of state p) (piece_code p) place) ≡ true) same (run_is.each place below))
      ];
    }

-- behind all letters are the tails of all queues
pub behind-all : (tree : TailTree) (state : State) (tails : ℕ → Bool) (count : ℕ) → 7 ≤ count → IsFirst tree state → AreBehind tree state tails count → AreStarts tree None tails
behind-all tree state tails count all first behind = record {
  tails = behind.tails;
  only = behind.only;
  all = λ number within.
      let there = letter-there tree number state within first.is first.draws in
      let piece = get_or (pieces_in state.set) (number / state.each) I in
      let found = slice_get-get_or (pieces_in state.set) (number / state.each) I there.1 in
      let start = first-start tree state piece number (tail_number (next_of state piece) (piece_code piece) (number % state.each)) first within found refl in
      subst (λ t. tails t ≡ true) start.value
      (behind.all piece (omega (arith, all, piece_code-small piece)) (piece-in state.set (number / state.each) piece found) (number % state.each) (mod-lt number there.0));
}

pub first-is : (tree : TailTree) (state : State) → tree.hold ≡ Allowed → state ≡ state_at tree.states.items tree.first → 0 < state.draws → IsFirst tree state
first-is tree state hold is draws = record { hold = hold; is = is; draws = draws; some = pattern-some tree.pattern }

-- the number of the state after a letter is small
pub next-small : (tree : TailTree) (state : State) (piece : Piece) → IsFirst tree state → is_in piece state.set ≡ true → next_of state piece < 2 ^ 16
next-small tree state piece first inside =
    let at = state_at tree.states.items tree.first in
    let draws : 0 < at.draws = subst (λ (s : State). 0 < s.draws) first.is first.draws in
    let member : is_in piece at.set ≡ true = ap (λ (s : State). is_in piece s.set) (sym first.is) ∙ inside in
    let step = (tree.are_states.each tree.first (first-within tree 0 first.some)).steps piece (first-there tree 0 first.some) draws member in
    let next : next_of state piece ≡ next_of at piece = ap (λ (s : State). next_of s piece) first.is in
    omega (arith, next, step.within, tree.are_states.few)

pub first-small : (tree : TailTree) → tree.first < 2 ^ 16
first-small tree = let within = first-within tree 0 (pattern-some tree.pattern) in omega (arith, within, tree.are_states.few)
