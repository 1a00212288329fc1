-- How a piece is taken from the tails of a state: the loop over the letters.
use Rattle.std.proofs.Common.{ℕ, ◌≡◌, ◌+◌, ◌*◌, ◌<◌, ◌≤◌, ◌==◌, true, false, List, [], ◌∷◌, ◌++◌, drop, drop-cons, add-one, filter, length, get_or, refl, sym, ap, append_assoc, append-nil, ◌∙◌, inl, inr, arith}
use Rattle.std.proofs.lemmas.Bool.{agree_below_at, cases_eq, eqb-true}
use Rattle.std.proofs.lemmas.List.{drop_all, length-append}
use Rattle.srs.specs.declared.piece.Piece.{Piece}
use Rattle.srs.specs.declared.piece.Piece.TheVariants.{I}
use Rattle.srs.specs.Piece.{all_pieces, piece_code}
use Rattle.queue_pattern.specs.Queues.{is_in, pieces_in}
use Rattle.tails.specs.declared.states.State.{State}
use Rattle.tails.specs.declared.takings.Taking.{Taking}
use Rattle.tails.specs.Takings.{taken_at}
use Rattle.tails.proofs.TakenLetters.{taken_from}
use Rattle.tails.proofs.TakingSteps.{few-counted, other-counted}

-- the pieces stand in the order of their codes
code-at : (i : ℕ) → i < 7 → piece_code (get_or all_pieces i I) ≡ i + 1
code-at i below =
    eqb-true (piece_code (get_or all_pieces i I)) (i + 1)
    (agree_below_at (λ k. piece_code (get_or all_pieces k I) == k + 1) (λ _. true) 7 i refl below)

-- the letters that are still to come
abbrev pub letters_left : State → ℕ → List Piece
letters_left state i = filter (λ piece. is_in piece state.set) (drop i all_pieces)

letters-all : (state : State) → pieces_in state.set ≡ letters_left state 0
unfolding pieces_in
letters-all state = refl

-- the runs of the letters before an index, from which the place of the next one follows
pub record HasTaken (state : State) (held code i first : ℕ) (items : List Taking) : Type 0 where
  pub taken : items ++ taken_from state first held code (letters_left state i) ≡ taken_from state 0 held code (pieces_in state.set)
  pub placed : first + length (letters_left state i) * state.each ≡ length (pieces_in state.set) * state.each
  pub room : length items ≤ i + 1
  pub room_before : i < code → length items ≤ i

pub taken-starts : (state : State) (held code : ℕ) (items : List Taking) → items ≡ [] → HasTaken state held code 0 0 items
taken-starts state held code items none =
    let all = letters-all state in
    record {
      taken = (λ i. none i ++ taken_from state 0 held code (sym all i));
      placed = omega (arith, ap (λ (l : List Piece). length l * state.each) all);
      room = omega (arith, ap length none);
      room_before = λ below. omega (arith, ap length none);
    }

-- the piece at an index is the first of those left
letters-first : (state : State) (i : ℕ) → i < 7 → is_in (get_or all_pieces i I) state.set ≡ true
    → letters_left state i ≡ get_or all_pieces i I ∷ letters_left state (i + 1)
letters-first state i below member = rw (drop-cons all_pieces i I, member, add-one) refl

letters-other : (state : State) (i : ℕ) → i < 7 → is_in (get_or all_pieces i I) state.set ≡ false
    → letters_left state i ≡ letters_left state (i + 1)
letters-other state i below missing = rw (drop-cons all_pieces i I, missing, add-one) refl

one-placed : (first count rest each total : ℕ) → first + count * each ≡ total → count ≡ 1 + rest → first + each + rest * each ≡ total
one-placed first count rest each total placed is = omega (arith, placed, ap (λ n. n * each) is)

pub taken-more : (state : State) (held code i first : ℕ) (items new : List Taking) → i < 7
    → is_in (get_or all_pieces i I) state.set ≡ true → new ≡ items ++ taken_at state first held code (get_or all_pieces i I)
    → HasTaken state held code i first items → HasTaken state held code (i + 1) (first + state.each) new
unfolding taken_from
taken-more state held code i first items new below member new_is before =
    let letter = get_or all_pieces i I in
    let code_is = code-at i below in
    let at = taken_at state first held code letter in
    let rest = letters_left state (i + 1) in
    let left = letters-first state i below member in
    let count = ap length new_is ∙ length-append items at in
    let room = before.room in
    let room_before = before.room_before in
    record {
      taken =
          ap (λ xs. xs ++ taken_from state (first + state.each) held code rest) new_is
          ∙ append_assoc items at (taken_from state (first + state.each) held code rest)
          ∙ ap (λ l. items ++ taken_from state first held code l) (sym left)
          ∙ before.taken;
      placed = one-placed first (length (letters_left state i)) (length rest) state.each (length (pieces_in state.set) * state.each) before.placed (omega (arith, ap length left));
      room = elim (cases_eq (piece_code letter) code) [
        | inl same ↦ let fewer = room_before (omega (arith, same)) in omega (arith, count, few-counted state first held code letter)
        | inr other ↦ omega (arith, count, other-counted state first held code letter other)
      ];
      room_before = λ past. omega (arith, count, other-counted state first held code letter (λ same. omega (arith, same, past)));
    }

pub taken-passed : (state : State) (held code i first : ℕ) (items : List Taking) → i < 7
    → is_in (get_or all_pieces i I) state.set ≡ false → HasTaken state held code i first items → HasTaken state held code (i + 1) first items
taken-passed state held code i first items below missing before =
    let left = letters-other state i below missing in
    let room = before.room in
    let room_before = before.room_before in
    record {
      taken = ap (λ l. items ++ taken_from state first held code l) (sym left) ∙ before.taken;
      placed = ap (λ (l : List Piece). first + length l * state.each) (sym left) ∙ before.placed;
      room = omega arith;
      room_before = λ past. let fewer = room_before (omega arith) in omega arith;
    }

-- where the next letter's runs have room, and its place fits
pub taken-room : (state : State) (held code i first : ℕ) (items : List Taking) → i < 7
    → HasTaken state held code i first items → length items + length (taken_at state first held code (get_or all_pieces i I)) ≤ 8
taken-room state held code i first items below before =
    let letter = get_or all_pieces i I in
    let code_is = code-at i below in
    let room = before.room in
    let room_before = before.room_before in
    elim (cases_eq (piece_code letter) code) [
      | inl same ↦ let fewer = room_before (omega (arith, same)) in omega (arith, few-counted state first held code letter)
      | inr other ↦ omega (arith, other-counted state first held code letter other)
    ]

pub taken-fits : (state : State) (held code i first : ℕ) (items : List Taking) → i < 7 → is_in (get_or all_pieces i I) state.set ≡ true
    → HasTaken state held code i first items → first + state.each ≤ length (pieces_in state.set) * state.each
taken-fits state held code i first items below member before =
    let left = letters-first state i below member in
    let after = one-placed first (length (letters_left state i)) (length (letters_left state (i + 1))) state.each (length (pieces_in state.set) * state.each) before.placed (omega (arith, ap length left)) in
    omega arith

pub taken-done : (state : State) (held code i first : ℕ) (items : List Taking) → 7 ≤ i → HasTaken state held code i first items
    → items ≡ taken_from state 0 held code (pieces_in state.set)
unfolding taken_from
taken-done state held code i first items past done =
    let none : letters_left state i ≡ [] = ap (λ pieces. filter (λ piece. is_in piece state.set) pieces) (drop_all i all_pieces past) in
    sym (append-nil items) ∙ ap (λ l. items ++ taken_from state first held code l) (sym none) ∙ done.taken
