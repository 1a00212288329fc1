-- Tails of a tree: the piece that one draws first, and what is left of it.
use Rattle.std.proofs.Common.{◌≡◌, ℕ, suc, ◌%◌, ◌^◌, ◌<◌, ◌≤◌, ◌⊎◌, ◌==◌, true, false, List, [], ◌∷◌, get_or, length, ap, sym, subst, ◌∙◌, inl, inr, arith}
use Rattle.std.specs.List.{slice_index}
use Rattle.std.specs.Prelude.{if◌then◌else◌}
use Rattle.std.proofs.Math.Nat.{mod-le}
use Rattle.std.proofs.lemmas.Bool.{cases_lt, cond-false, ne_eqb}
use Rattle.srs.specs.declared.piece.Piece.{Piece}
use Rattle.srs.specs.Piece.{piece_code}
use Rattle.srs.proofs.CallerLemmas.{piece_code-some}
use Rattle.queue_pattern.specs.Pattern.{elements_of}
use Rattle.hold_queue.specs.declared.hold.Hold.TheVariants.{Avoided}
use Rattle.hands.specs.Hands.{allows_hold}
use Rattle.tails.specs.declared.states.State.{State}
use Rattle.tails.specs.declared.tree.TailTree.{TailTree}
use Rattle.tails.specs.Numbers.{held_of, place_of, state_of, tail_number}
use Rattle.tails.specs.States.{state_at, tails_of}
use Rattle.tails.specs.Tails.{IsTail, behind_held, behind_letter, drawn_by, first_code, hand_at, letter_at, state_before}
use Rattle.tails.proofs.LetterLemmas.{IsEnd, IsLetter, end-is, letter-found, next_of}
use Rattle.tails.proofs.ListLemmas.{pieces-long, pieces_at}
use Rattle.tails.proofs.NumberLemmas.{held_of-number, place_of-number, place_of-small, state_of-number}

-- the tail with a number
pub record IsNumbered (tree : TailTree) (tail state held place : ℕ) : Type 0 where
  pub state_is : state_of tail ≡ state
  pub held_is : held_of tail ≡ held
  pub place_is : place_of tail ≡ place
  pub before : state_before tree tail ≡ state_at tree.states.items state
  pub drawn : drawn_by tree tail ≡ get_or (tails_of (elements_of tree.pattern) (state_at tree.states.items state)) place []

pub numbered : (tree : TailTree) (tail state held place : ℕ) → tail ≡ tail_number state held place → held < 8 → place < 2 ^ 32
    → IsNumbered tree tail state held place
unfolding drawn_by state_before
numbered tree tail state held place is small few =
    let state_is : state_of tail ≡ state = ap state_of is ∙ state_of-number state held place small few in
    let place_is : place_of tail ≡ place = ap place_of is ∙ place_of-number state held place few in
    record {
      state_is = state_is;
      held_is = ap held_of is ∙ held_of-number state held place small few;
      place_is = place_is;
      before = ap (state_at tree.states.items) state_is;
      drawn = (λ i. get_or (tails_of (elements_of tree.pattern) (state_at tree.states.items (state_is i))) (place_is i) []);
    }

-- the pieces at hand
pub hand-is : (tree : TailTree) (tail held : ℕ) (pieces : List Piece) → held_of tail ≡ held → drawn_by tree tail ≡ pieces
    → hand_at tree tail ≡ behind_held held pieces
unfolding hand_at
hand-is tree tail held pieces held_is drawn = (λ i. behind_held (held_is i) (drawn i))

-- The tail draws a piece first, then others.
pub record Draws (tree : TailTree) (tail : ℕ) (piece : Piece) (rest : List Piece) : Type 0 where
  pub first : IsLetter (elements_of tree.pattern) tree.states.items (state_before tree tail) (place_of tail) piece
  pub drawn : drawn_by tree tail ≡ piece ∷ rest
  pub letter : letter_at tree tail ≡ piece_code piece
  pub behind : (held : ℕ) → behind_letter tree tail held
      ≡ tail_number (next_of (state_before tree tail) piece) held (place_of tail % (state_before tree tail).each)
  pub left : (held : ℕ) → held < 8 → IsNumbered tree (behind_letter tree tail held)
      (next_of (state_before tree tail) piece) held (place_of tail % (state_before tree tail).each)
  pub left_drawn : (held : ℕ) → held < 8 → drawn_by tree (behind_letter tree tail held) ≡ rest

-- It draws none.
pub record DrawsNone (tree : TailTree) (tail : ℕ) : Type 0 where
  pub draws : (state_before tree tail).draws ≡ 0
  pub end : IsEnd (elements_of tree.pattern) (state_before tree tail) (place_of tail)
  pub drawn : drawn_by tree tail ≡ []
  pub letter : letter_at tree tail ≡ 0
  pub behind : (held : ℕ) → behind_letter tree tail held ≡ tail_number (state_of tail) held (place_of tail)
  pub left : (held : ℕ) → held < 8 → IsNumbered tree (behind_letter tree tail held) (state_of tail) held (place_of tail)
  pub left_drawn : (held : ℕ) → held < 8 → drawn_by tree (behind_letter tree tail held) ≡ []

code-is-not : (piece : Piece) → (piece_code piece == 0) ≡ false
code-is-not piece = ne_eqb (piece_code piece) 0 (λ is. omega (arith, is, piece_code-some piece))

behind-piece : (state : State) (piece : Piece) (letter number held place : ℕ) → letter ≡ piece_code piece
    → (if letter == 0 then tail_number number held place else tail_number (slice_index state.next letter) held (place % state.each))
    ≡ tail_number (next_of state piece) held (place % state.each)
behind-piece state piece letter number held place is =
    (λ i. if is i == 0 then tail_number number held place else tail_number (slice_index state.next (is i)) held (place % state.each))
    ∙ cond-false (piece_code piece == 0) _ _ (code-is-not piece)

behind-none : (state : State) (letter number held place : ℕ) → letter ≡ 0
    → (if letter == 0 then tail_number number held place else tail_number (slice_index state.next letter) held (place % state.each))
    ≡ tail_number number held place
behind-none state letter number held place is =
    λ i. if is i == 0 then tail_number number held place else tail_number (slice_index state.next (is i)) held (place % state.each)

pub draws-first : (tree : TailTree) (tail : ℕ) (piece : Piece)
    → IsLetter (elements_of tree.pattern) tree.states.items (state_before tree tail) (place_of tail) piece
    → Draws tree tail piece (get_or (tails_of (elements_of tree.pattern) (state_at tree.states.items (next_of (state_before tree tail) piece)))
    (place_of tail % (state_before tree tail).each) [])
unfolding letter_at behind_letter drawn_by first_code
draws-first tree tail piece first =
    let state = state_before tree tail in
    let place = place_of tail % state.each in
    let letter : letter_at tree tail ≡ piece_code piece = ap first_code first.drawn in
    let few : place < 2 ^ 32 = omega (arith, place_of-small tail, mod-le (place_of tail) state.each) in
    let behind : (held : ℕ) → behind_letter tree tail held ≡ tail_number (next_of state piece) held place =
    λ held. behind-piece state piece (letter_at tree tail) (state_of tail) held (place_of tail) letter in
    let left : (held : ℕ) → held < 8 → IsNumbered tree (behind_letter tree tail held) (next_of state piece) held place =
    λ held small. numbered tree (behind_letter tree tail held) (next_of state piece) held place (behind held) small few in
    record {
      first = first;
      drawn = first.drawn;
      letter = letter;
      behind = behind;
      left = left;
      left_drawn = λ held small. (left held small).drawn;
    }

pub draws-none : (tree : TailTree) (tail : ℕ) → (state_before tree tail).draws ≡ 0
    → IsEnd (elements_of tree.pattern) (state_before tree tail) (place_of tail) → DrawsNone tree tail
unfolding letter_at behind_letter drawn_by state_before first_code
draws-none tree tail draws end =
    let letter : letter_at tree tail ≡ 0 = ap first_code end.drawn in
    let behind : (held : ℕ) → behind_letter tree tail held ≡ tail_number (state_of tail) held (place_of tail) =
    λ held. behind-none (state_before tree tail) (letter_at tree tail) (state_of tail) held (place_of tail) letter in
    let left : (held : ℕ) → held < 8 → IsNumbered tree (behind_letter tree tail held) (state_of tail) held (place_of tail) =
    λ held small. numbered tree (behind_letter tree tail held) (state_of tail) held (place_of tail) (behind held) small (place_of-small tail) in
    record {
      draws = draws;
      end = end;
      drawn = end.drawn;
      letter = letter;
      behind = behind;
      left = left;
      left_drawn = λ held small. (left held small).drawn ∙ end.drawn;
    }

-- a tail draws a piece or none
pub tail-cases : (tree : TailTree) (tail : ℕ) → IsTail tree tail
    → ((piece : Piece) × (rest : List Piece) × Draws tree tail piece rest) ⊎ DrawsNone tree tail
unfolding state_before
tail-cases tree tail is =
    let elements = elements_of tree.pattern in
    let states = tree.states.items in
    elim (cases_lt 0 (state_before tree tail).draws) [
      | inl some ↦
          let found = letter-found elements states (state_of tail) (place_of tail) tree.are_states is.within is.there some in
          inl (
            found.0,
            get_or (tails_of elements (state_at states (next_of (state_before tree tail) found.0))) (place_of tail % (state_before tree tail).each) [],
            draws-first tree tail found.0 found.1,
          )
      | inr few ↦
          let none : (state_before tree tail).draws ≡ 0 = omega (arith, few) in
          inr (draws-none tree tail none (end-is elements states (state_of tail) (place_of tail) tree.are_states is.within is.there none))
    ]

-- What is left behind the first piece is a tail, where a piece is held if that is allowed, and none where it is avoided.
pub left-is-tail : (tree : TailTree) (tail held : ℕ) (piece : Piece) (rest : List Piece) → Draws tree tail piece rest → held < 8 → length rest ≤ 20
    → (allows_hold tree.hold ≡ true → held ≡ 0 → ⊥) → (tree.hold ≡ Avoided → held ≡ 0) → IsTail tree (behind_letter tree tail held)
left-is-tail tree tail held piece rest draws small few some none =
    let next = next_of (state_before tree tail) piece in
    let each = (state_before tree tail).each in
    let left = draws.left held small in
    let count : (state_before tree (behind_letter tree tail held)).count ≡ each = ap (λ (s : State). s.count) left.before ∙ draws.first.counted in
    record {
      within = subst (λ n. n < length tree.states.items) (sym left.state_is) draws.first.within;
      there = omega (arith, left.place_is, count, draws.first.left);
      held = λ allowed is. absurd (some allowed (sym left.held_is ∙ is));
      avoided = λ avoided. left.held_is ∙ none avoided;
      room = λ held_some. subst (λ l. length l ≤ 20) (sym (draws.left_drawn held small)) few;
    }

-- the same where no piece is left to draw and none is held
pub end-is-tail : (tree : TailTree) (tail : ℕ) → IsTail tree tail → DrawsNone tree tail → IsTail tree (behind_letter tree tail 0)
unfolding state_before
end-is-tail tree tail is end =
    let left = end.left 0 (omega arith) in
    let count : (state_before tree (behind_letter tree tail 0)).count ≡ (state_before tree tail).count = ap (λ (s : State). s.count) left.before in
    record {
      within = subst (λ n. n < length tree.states.items) (sym left.state_is) is.within;
      there = omega (arith, left.place_is, count, is.there);
      held = λ allowed none. ap (λ (s : State). s.draws) left.before ∙ end.draws;
      avoided = λ avoided. left.held_is;
      room = λ held_some. subst (λ l. length l ≤ 20) (sym (end.left_drawn 0 (omega arith))) (omega arith);
    }

-- no tail draws more than 21 pieces
pub tail-long : (tree : TailTree) (tail : ℕ) → state_of tail < length tree.states.items → place_of tail < (state_before tree tail).count
    → length (drawn_by tree tail) ≤ 21
unfolding drawn_by state_before pieces_at
tail-long tree tail within there =
    pieces-long (elements_of tree.pattern) tree.states.items (state_of tail) (place_of tail) (record { short = tree.short; are = tree.are_states }) within there

-- behind the first there are at most 20
pub rest-long : (tree : TailTree) (tail : ℕ) (piece : Piece) (rest : List Piece) → Draws tree tail piece rest → state_of tail < length tree.states.items
    → place_of tail < (state_before tree tail).count → length rest ≤ 20
rest-long tree tail piece rest draws within there =
    let long = tail-long tree tail within there in
    let whole : length (drawn_by tree tail) ≡ suc (length rest) = ap length draws.drawn in
    omega (arith, long, whole)
