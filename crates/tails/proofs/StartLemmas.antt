-- The tails of a pattern's queues, and the pieces at hand.
use Rattle.std.proofs.Common.{◌≡◌, ℕ, ◌+◌, ◌*◌, ◌/◌, ◌%◌, ◌^◌, ◌<◌, ◌≤◌, Option, Some, None, List, [], ◌∷◌, get_or, length, refl, ap, sym, subst, ◌∙◌, inl, inr, arith}
use Rattle.std.specs.List.{slice_get}
use Rattle.std.proofs.lemmas.Bool.{cases_lt, true≢false}
use Rattle.std.proofs.Math.ListN.{get_or-eq_default}
use Rattle.std.proofs.Math.Nat.{pow-le-pow_right}
use Rattle.srs.specs.declared.piece.Piece.{Piece}
use Rattle.srs.specs.Piece.{piece_code}
use Rattle.srs.proofs.CallerLemmas.{piece_code-small, piece_code-some, some_same}
use Rattle.queue_pattern.specs.declared.element.Element.{Element}
use Rattle.queue_pattern.specs.Pattern.{elements_of}
use Rattle.queue_pattern.specs.Queues.{pieces_in, queue_len, queues}
use Rattle.queue_pattern.proofs.CallerLemmas.{pattern-few, queues-long}
use Rattle.hold_queue.specs.AtHand.{at_hand, count_held, playable}
use Rattle.hold_queue.specs.declared.hold.Hold.{Hold}
use Rattle.hold_queue.specs.declared.hold.Hold.TheVariants.{Allowed, Avoided}
use Rattle.hands.specs.Hands.{allows_hold, number_of}
use Rattle.tails.specs.declared.states.State.{State}
use Rattle.tails.specs.declared.tree.TailTree.{TailTree}
use Rattle.tails.specs.Listings.{IsListing}
use Rattle.tails.specs.Lists.{number_at}
use Rattle.tails.specs.Numbers.{held_of, place_of, state_of, tail_number}
use Rattle.tails.specs.States.{no_state, state_at, tails_of}
use Rattle.tails.specs.Tails.{IsTail, behind_letter, drawn_by, hand_at, start_tail, start_with, state_before}
use Rattle.tails.proofs.LawLemmas.{behind-no, behind-some}
use Rattle.tails.proofs.LetterLemmas.{IsEnd, IsLetter, end-is, index-of-piece, letter-found, letter-is, next_of}
use Rattle.tails.proofs.ListLemmas.{number-below, state-read}
use Rattle.tails.proofs.NumberLemmas.{held_of-small, number-fits, number-parts, place_of-small}
use Rattle.tails.proofs.TailLemmas.{IsNumbered, draws-first, draws-none, hand-is, left-is-tail, numbered, rest-long}

-- a tail's number has 51 bits
pub tail-fits : (tree : TailTree) (tail : ℕ) → IsTail tree tail → tail < 2 ^ 51
tail-fits tree tail is =
    let within : state_of tail < 2 ^ 16 = omega (arith, is.within, tree.are_states.few) in
    subst (λ n. n < 2 ^ 51) (number-parts tail) (number-fits (state_of tail) (held_of tail) (place_of tail) within (held_of-small tail) (place_of-small tail))

pub hand-none : (tree : TailTree) (tail number : ℕ) → number ≡ number_of (drawn_by tree tail) → held_of tail ≡ 0 → number ≡ hand_at tree tail
hand-none tree tail number is none = is ∙ sym (hand-is tree tail 0 (drawn_by tree tail) none refl ∙ behind-no 0 (drawn_by tree tail) refl)

pub hand-held : (tree : TailTree) (tail held number : ℕ) → number ≡ number_of (drawn_by tree tail) → held_of tail ≡ held → 0 < held
    → held + 8 * number ≡ hand_at tree tail
hand-held tree tail held number is held_is some =
    ap (λ n. held + 8 * n) is ∙ sym (hand-is tree tail held (drawn_by tree tail) held_is refl ∙ behind-some held (drawn_by tree tail) some)

-- it has 60 bits where a piece is held
pub number-few : (tree : TailTree) (tail number : ℕ) → IsTail tree tail → 0 < held_of tail → number ≡ number_of (drawn_by tree tail) → number < 8 ^ 20
number-few tree tail number tail_is some is =
    let below = number-below (drawn_by tree tail) in
    let more : 8 ^ length (drawn_by tree tail) ≤ 8 ^ 20 = pow-le-pow_right {n = 8} (omega arith) {i = length (drawn_by tree tail)} {j = 20} (tail_is.room some) in
    omega (arith, is, below, more)

-- the state before is the one with the number that is read
pub state-there : (tree : TailTree) (tail number place : ℕ) (states : List State) → IsTail tree tail → states ≡ tree.states.items → number ≡ state_of tail → place ≡ place_of tail
    → place < (state_at states number).count
unfolding state_before
state-there tree tail number place states tail_is states_are number_is place_is =
    let count : (state_at states number).count ≡ (state_before tree tail).count = λ i. (state_at (states_are i) (number_is i)).count in
    omega (arith, count, place_is, tail_is.there)

-- the number of the pieces that are drawn is read
pub value-read : (tree : TailTree) (tail : ℕ) (states : List State) (number place value : ℕ) → states ≡ tree.states.items → number ≡ state_of tail → place ≡ place_of tail
    → ((elements : List Element) → IsListing elements states tree.lists → value ≡ number_at elements (state_at states number) place)
    → value ≡ number_of (drawn_by tree tail)
unfolding number_at drawn_by state_before
value-read tree tail states number place value states_are number_is place_is read =
    let elements = elements_of tree.pattern in
    let listing : IsListing elements tree.states.items tree.lists = record { are = record { short = tree.short; are = tree.are_states }; listed = tree.listed } in
    read elements (subst (λ l. IsListing elements l tree.lists) (sym states_are) listing)
    ∙ (λ i. number_of (get_or (tails_of elements (state_at (states_are i) (number_is i))) (place_is i) []))

-- the first state is there, and has the tails of all queues
pub first-there : (tree : TailTree) (number : ℕ) → number < length (queues (elements_of tree.pattern)) → number < (state_at tree.states.items tree.first).count
first-there tree number within = omega (arith, within, tree.first_count)

pub first-within : (tree : TailTree) (number : ℕ) → number < length (queues (elements_of tree.pattern)) → tree.first < length tree.states.items
unfolding state_at no_state
first-within tree number within = elim (cases_lt tree.first (length tree.states.items)) [
  | inl before ↦ before
  | inr past ↦
      let none : (state_at tree.states.items tree.first).count ≡ 0 = ap (λ (s : State). s.count) (get_or-eq_default tree.states.items no_state past) in
      absurd (omega (arith, none, within, tree.first_count))
]

-- the tail of a queue behind a held piece
pub record IsFront (tree : TailTree) (tail held number : ℕ) : Type 0 where
  pub is : IsNumbered tree tail tree.first held number
  pub drawn : drawn_by tree tail ≡ get_or (queues (elements_of tree.pattern)) number []
  pub within : state_of tail < length tree.states.items
  pub there : place_of tail < (state_before tree tail).count

pub front-is : (tree : TailTree) (tail held number : ℕ) → number < length (queues (elements_of tree.pattern)) → held < 8
    → tail ≡ tail_number tree.first held number → IsFront tree tail held number
front-is tree tail held number within small is =
    let few : number < 2 ^ 32 = omega (arith, within, pattern-few tree.pattern) in
    let numbered_so = numbered tree tail tree.first held number is small few in
    let count : (state_before tree tail).count ≡ (state_at tree.states.items tree.first).count = ap (λ (s : State). s.count) numbered_so.before in
    record {
      is = numbered_so;
      drawn = numbered_so.drawn ∙ ap (λ ts. get_or ts number []) tree.first_tails;
      within = omega (arith, numbered_so.state_is, first-within tree number within);
      there = omega (arith, numbered_so.place_is, count, first-there tree number within);
    }

queue-long : (tree : TailTree) (number : ℕ) → number < length (queues (elements_of tree.pattern))
    → length (get_or (queues (elements_of tree.pattern)) number []) ≡ queue_len (elements_of tree.pattern)
queue-long tree number within = queues-long (elements_of tree.pattern) number [] within

-- what a start promises
pub record IsStart (tree : TailTree) (held : Option Piece) (number result : ℕ) : Type 0 where
  pub value : result ≡ start_tail tree held number
  pub tail : IsTail tree result
  pub hand : hand_at tree result ≡ number_of (at_hand tree.hold held (get_or (queues (elements_of tree.pattern)) number []))

start-by : (tree : TailTree) (hold : Hold) (held : Option Piece) (number : ℕ) → tree.hold ≡ hold → start_tail tree held number ≡ start_with tree hold held number
unfolding start_tail
start-by tree hold held number is = ap (λ h. start_with tree h held number) is

hand-by : (tree : TailTree) (hold : Hold) (held : Option Piece) (queue : List Piece) → tree.hold ≡ hold
    → number_of (at_hand tree.hold held queue) ≡ number_of (at_hand hold held queue)
hand-by tree hold held queue is = ap (λ h. number_of (at_hand h held queue)) is

avoided-is : {P : Type 0} (hold : Hold) → hold ≡ Allowed → hold ≡ Avoided → P
avoided-is hold is other = cc

-- a piece is held that may be played
start-held-by : (tree : TailTree) (hold : Hold) (held : Option Piece) (piece : Piece) (number result : ℕ) → tree.hold ≡ hold → playable hold held ≡ Some piece
    → number < length (queues (elements_of tree.pattern)) → queue_len (elements_of tree.pattern) ≤ 20
    → result ≡ tail_number tree.first (piece_code piece) number → IsStart tree held number result
unfolding start_with number_of
start-held-by tree Avoided held piece number result hold_is plays within room is = cc
start-held-by tree Allowed None piece number result hold_is plays within room is = cc
start-held-by tree Allowed (Some kept) piece number result hold_is plays within room is =
    let same : piece ≡ kept = sym (some_same plays) in
    let some = piece_code-some piece in
    let front = front-is tree result (piece_code piece) number within (omega (arith, piece_code-small piece)) is in
    let long : length (drawn_by tree result) ≡ queue_len (elements_of tree.pattern) = ap length front.drawn ∙ queue-long tree number within in
    record {
      value = is ∙ ap (λ p. tail_number tree.first (piece_code p) number) same ∙ sym (start-by tree Allowed (Some kept) number hold_is);
      tail = record {
        within = front.within;
        there = front.there;
        held = λ allowed none. absurd (omega (arith, none, front.is.held_is, some));
        avoided = λ avoided. avoided-is tree.hold hold_is avoided;
        room = λ held_some. omega (arith, long, room);
      };
      hand =
          hand-is tree result (piece_code piece) (get_or (queues (elements_of tree.pattern)) number []) front.is.held_is front.drawn
          ∙ behind-some (piece_code piece) (get_or (queues (elements_of tree.pattern)) number []) some
          ∙ ap (λ p. piece_code p + 8 * number_of (get_or (queues (elements_of tree.pattern)) number [])) same
          ∙ sym (hand-by tree Allowed (Some kept) (get_or (queues (elements_of tree.pattern)) number []) hold_is);
    }

held-one : (hold : Hold) (held : Option Piece) (piece : Piece) → playable hold held ≡ Some piece → count_held (playable hold held) ≡ 1
held-one hold held piece plays = ap count_held plays

pub start-held : (tree : TailTree) (held : Option Piece) (piece : Piece) (number result : ℕ) → playable tree.hold held ≡ Some piece
    → number < length (queues (elements_of tree.pattern)) → count_held (playable tree.hold held) + queue_len (elements_of tree.pattern) ≤ 21
    → result ≡ tail_number tree.first (piece_code piece) number → IsStart tree held number result
start-held tree held piece number result plays within room is =
    start-held-by tree tree.hold held piece number result refl plays within (omega (arith, room, held-one tree.hold held piece plays)) is

-- no piece is held where hold is avoided
pub start-avoided : (tree : TailTree) (held : Option Piece) (number result : ℕ) → tree.hold ≡ Avoided
    → number < length (queues (elements_of tree.pattern)) → result ≡ tail_number tree.first 0 number → IsStart tree held number result
unfolding start_with
start-avoided tree held number result hold_is within is =
    let front = front-is tree result 0 number within (omega arith) is in
    record {
      value = is ∙ sym (start-by tree Avoided held number hold_is);
      tail = record {
        within = front.within;
        there = front.there;
        held = λ allowed none. absurd (true≢false (sym allowed ∙ ap allows_hold hold_is));
        avoided = λ avoided. front.is.held_is;
        room = λ held_some. absurd (omega (arith, held_some, front.is.held_is));
      };
      hand =
          hand-is tree result 0 (get_or (queues (elements_of tree.pattern)) number []) front.is.held_is front.drawn
          ∙ behind-no 0 (get_or (queues (elements_of tree.pattern)) number []) refl
          ∙ sym (hand-by tree Avoided held (get_or (queues (elements_of tree.pattern)) number []) hold_is);
    }

none-held : (hold : Hold) (held : Option Piece) → hold ≡ Allowed → playable hold held ≡ None → held ≡ None
none-held Allowed held is none = none
none-held Avoided held is none = cc

-- the front with no held piece draws a piece, or none
pub front-draws : (tree : TailTree) (number : ℕ) (piece : Piece) → number < length (queues (elements_of tree.pattern)) → 0 < (state_at tree.states.items tree.first).draws
    → slice_get (pieces_in (state_at tree.states.items tree.first).set) (number / (state_at tree.states.items tree.first).each) ≡ Some piece
    → IsLetter (elements_of tree.pattern) tree.states.items (state_before tree (tail_number tree.first 0 number)) (place_of (tail_number tree.first 0 number)) piece
unfolding state_before
front-draws tree number piece within draws there =
    let front = front-is tree (tail_number tree.first 0 number) 0 number within (omega arith) refl in
    let letter = letter-is (elements_of tree.pattern) tree.states.items tree.first number piece tree.are_states (first-within tree number within) (first-there tree number within) draws there in
    subst (λ s. IsLetter (elements_of tree.pattern) tree.states.items s (place_of (tail_number tree.first 0 number)) piece) (sym front.is.before)
    (subst (λ n. IsLetter (elements_of tree.pattern) tree.states.items (state_at tree.states.items tree.first) n piece) (sym front.is.place_is) letter)

-- the first piece of the queue is held
pub start-letter : (tree : TailTree) (held : Option Piece) (piece : Piece) (number result : ℕ) → tree.hold ≡ Allowed → playable tree.hold held ≡ None
    → number < length (queues (elements_of tree.pattern)) → 0 < (state_at tree.states.items tree.first).draws
    → slice_get (pieces_in (state_at tree.states.items tree.first).set) (number / (state_at tree.states.items tree.first).each) ≡ Some piece
    → result ≡ tail_number (next_of (state_at tree.states.items tree.first) piece) (piece_code piece) (number % (state_at tree.states.items tree.first).each)
    → IsStart tree held number result
unfolding start_with number_of
start-letter tree held piece number result hold_is none within draws there is =
    let base = tail_number tree.first 0 number in
    let code = piece_code piece in
    let some = piece_code-some piece in
    let small : code < 8 = omega (arith, piece_code-small piece) in
    let front = front-is tree base 0 number within (omega arith) refl in
    let letter = draws-first tree base piece (front-draws tree number piece within draws there) in
    let rest = get_or (tails_of (elements_of tree.pattern) (state_at tree.states.items (next_of (state_before tree base) piece))) (place_of base % (state_before tree base).each) [] in
    let few = rest-long tree base piece rest letter front.within front.there in
    let queue = get_or (queues (elements_of tree.pattern)) number [] in
    let same : result ≡ behind_letter tree base code =
    is ∙ (λ i. tail_number (next_of (sym front.is.before i) piece) code (sym front.is.place_is i % (sym front.is.before i).each)) ∙ sym (letter.behind code) in
    let no_held : held ≡ None = none-held tree.hold held hold_is none in
    let whole : queue ≡ piece ∷ rest = sym front.drawn ∙ letter.drawn in
    record {
      value = same ∙ ap (behind_letter tree base) (sym letter.letter) ∙ ap (λ h. start_with tree Allowed h number) (sym no_held) ∙ sym (start-by tree Allowed held number hold_is);
      tail = subst (IsTail tree) (sym same) (left-is-tail tree base code piece rest letter small few (λ allowed zero_held. omega (arith, zero_held, some)) (λ avoided. avoided-is tree.hold hold_is avoided));
      hand =
          ap (hand_at tree) same ∙ hand-is tree (behind_letter tree base code) code rest (letter.left code small).held_is (letter.left_drawn code small)
          ∙ behind-some code rest some ∙ ap number_of (sym whole) ∙ ap (λ h. number_of (at_hand Allowed h queue)) (sym no_held) ∙ sym (hand-by tree Allowed held queue hold_is);
    }

front-ends : (tree : TailTree) (number : ℕ) → number < length (queues (elements_of tree.pattern)) → (state_at tree.states.items tree.first).draws ≡ 0
    → IsEnd (elements_of tree.pattern) (state_before tree (tail_number tree.first 0 number)) (place_of (tail_number tree.first 0 number))
front-ends tree number within draws =
    let front = front-is tree (tail_number tree.first 0 number) 0 number within (omega arith) refl in
    let end = end-is (elements_of tree.pattern) tree.states.items tree.first number tree.are_states (first-within tree number within) (first-there tree number within) draws in
    subst (λ s. IsEnd (elements_of tree.pattern) s (place_of (tail_number tree.first 0 number))) (sym front.is.before)
    (subst (λ n. IsEnd (elements_of tree.pattern) (state_at tree.states.items tree.first) n) (sym front.is.place_is) end)

-- nothing is drawn
pub start-end : (tree : TailTree) (held : Option Piece) (number result : ℕ) → tree.hold ≡ Allowed → playable tree.hold held ≡ None
    → number < length (queues (elements_of tree.pattern)) → (state_at tree.states.items tree.first).draws ≡ 0
    → result ≡ tail_number tree.first 0 number → IsStart tree held number result
unfolding start_with
start-end tree held number result hold_is none within no_draws is =
    let base = tail_number tree.first 0 number in
    let front = front-is tree base 0 number within (omega arith) refl in
    let draws : (state_before tree base).draws ≡ 0 = ap (λ (s : State). s.draws) front.is.before ∙ no_draws in
    let end = draws-none tree base draws (front-ends tree number within no_draws) in
    let no_held : held ≡ None = none-held tree.hold held hold_is none in
    let queue = get_or (queues (elements_of tree.pattern)) number [] in
    let same : result ≡ behind_letter tree base 0 =
    is ∙ (λ i. tail_number (sym front.is.state_is i) 0 (sym front.is.place_is i)) ∙ sym (end.behind 0) in
    record {
      value = same ∙ ap (behind_letter tree base) (sym end.letter) ∙ ap (λ h. start_with tree Allowed h number) (sym no_held) ∙ sym (start-by tree Allowed held number hold_is);
      tail = subst (IsTail tree) (sym is) (record {
        within = front.within;
        there = front.there;
        held = λ allowed zero_held. draws;
        avoided = λ avoided. front.is.held_is;
        room = λ held_some. absurd (omega (arith, held_some, front.is.held_is));
      });
      hand =
          ap (hand_at tree) is ∙ hand-is tree base 0 queue front.is.held_is front.drawn
          ∙ behind-no 0 queue refl ∙ ap (λ h. number_of (at_hand Allowed h queue)) (sym no_held) ∙ sym (hand-by tree Allowed held queue hold_is);
    }

-- the state that is read is the first
pub first-state : (tree : TailTree) (number n : ℕ) (state : State) → number < length (queues (elements_of tree.pattern)) → n ≡ tree.first
    → state ≡ get_or tree.states.items n state → state ≡ state_at tree.states.items tree.first
first-state tree number n state within is read =
    read ∙ ap (λ m. get_or tree.states.items m state) is ∙ state-read tree.states.items tree.first state (first-within tree number within)

-- its letter is there
pub letter-there : (tree : TailTree) (number : ℕ) (state : State) → number < length (queues (elements_of tree.pattern))
    → state ≡ state_at tree.states.items tree.first → 0 < state.draws → (0 < state.each) × (number / state.each < length (pieces_in state.set))
letter-there tree number state within is draws =
    let there = first-there tree number within in
    let at : 0 < (state_at tree.states.items tree.first).draws = subst (λ (s : State). 0 < s.draws) is draws in
    let some = (letter-found (elements_of tree.pattern) tree.states.items tree.first number tree.are_states (first-within tree number within) there at).1.some in
    let index = index-of-piece (elements_of tree.pattern) tree.states.items tree.first number tree.are_states (first-within tree number within) there at in
    (subst (λ (s : State). 0 < s.each) (sym is) some, subst (λ (s : State). number / s.each < length (pieces_in s.set)) (sym is) index)

-- the start where a letter of the state that is read is held
pub start-read : (tree : TailTree) (held : Option Piece) (piece : Piece) (number result : ℕ) (state : State) → tree.hold ≡ Allowed → playable tree.hold held ≡ None
    → number < length (queues (elements_of tree.pattern)) → state ≡ state_at tree.states.items tree.first → 0 < state.draws
    → slice_get (pieces_in state.set) (number / state.each) ≡ Some piece
    → result ≡ tail_number (next_of state piece) (piece_code piece) (number % state.each)
    → IsStart tree held number result
start-read tree held piece number result state hold_is none within state_is draws there is =
    start-letter tree held piece number result hold_is none within (subst (λ (s : State). 0 < s.draws) state_is draws)
    (subst (λ (s : State). slice_get (pieces_in s.set) (number / s.each) ≡ Some piece) state_is there)
    (is ∙ ap (λ (s : State). tail_number (next_of s piece) (piece_code piece) (number % s.each)) state_is)
