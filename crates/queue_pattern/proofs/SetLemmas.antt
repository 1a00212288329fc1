-- Sets of pieces as bits: a set without one piece, and the piece with a number.
use Rattle.std.proofs.Common.{◌≡◌, ℕ, ◌-◌, Bool, true, false, not, cond, ◌&&◌, ◌==◌, List, [], ◌∷◌, refl, sym, ◌∙◌, bit_and, filter, drop, length, get_or, drop-cons, add-one, sub-one, Some, None, ◌≢◌, ◌≤◌, slice_get, ◌<◌, ◌+◌, rules, arith}
use Rattle.std.specs.List.{list_all}
use Rattle.std.proofs.lemmas.Bool.{agree_below_at, cases_Bool}
use Rattle.std.proofs.lemmas.List.{drop_all}
use Rattle.std.proofs.lemmas.Option.{slice_get-get_or}
use Rattle.srs.specs.declared.piece.Piece.{Piece}
use Rattle.srs.specs.declared.piece.Piece.TheVariants.{I}
use Rattle.srs.specs.Piece.{all_pieces, piece_code}
use Rattle.queue_pattern.specs.Queues.{is_in, pieces_in, others}
use Rattle.srs.proofs.CallerLemmas.{each_piece}
use Rattle.queue_pattern.specs.Grammar.{set_of, single}
use Rattle.queue_pattern.specs.Sound.{is_sound}
use Rattle.std.proofs.lemmas.Grind.{common_steps}

-- whether two tests answer alike
abbrev pub same : Bool → Bool → Bool
same a b = cond a b (not b)

pub same_true : (a b : Bool) → same a b ≡ true → a ≡ b
same_true a b e = search rules

abbrev clears : ℕ → Piece → Piece → Bool
clears set piece other = same (is_in other (bit_and set (255 - set_of piece))) (is_in other set && not (piece_code other == piece_code piece))

abbrev clears_all : ℕ → Bool
clears_all set = list_all (λ piece. list_all (clears set piece) all_pieces) all_pieces

cleared : (set : ℕ) → set < 128 → (piece other : Piece) → is_in other (bit_and set (255 - set_of piece)) ≡ (is_in other set && not (piece_code other == piece_code piece))
cleared set within piece other =
    same_true _ _ (each_piece (clears set piece) (each_piece (λ p. list_all (clears set p) all_pieces) (agree_below_at clears_all (λ _. true) 128 set refl within) piece) other)

-- a filter of a filter, where the tests together are one
pub filter_twice : (p q r : Piece → Bool) → ((x : Piece) → r x ≡ (p x && q x)) → (xs : List Piece) → filter r xs ≡ filter q (filter p xs)
filter_twice p q r is [] = refl
filter_twice p q r is (x ∷ xs) = search (rules, cases_Bool, filter_twice p q r is xs, filter_twice p q r is xs)

pub pieces_in-without : (set : ℕ) → set < 128 → (piece : Piece) → pieces_in (bit_and set (255 - set_of piece)) ≡ others piece (pieces_in set)
unfolding pieces_in others
pieces_in-without set within piece = filter_twice (λ other. is_in other set) (λ other. not (piece_code other == piece_code piece)) (λ other. is_in other (bit_and set (255 - set_of piece))) (cleared set within piece) all_pieces

-- those of some pieces that are in a set
unfoldable pub members : ℕ → List Piece → List Piece
members set pieces = filter (λ piece. is_in piece set) pieces

pub pieces_in-members : (set : ℕ) → pieces_in set ≡ members set all_pieces
unfolding pieces_in members
pieces_in-members set = refl

pub members-out : (set : ℕ) (pieces : List Piece) (i : ℕ) (d : Piece) → i < length pieces → is_in (get_or pieces i d) set ≡ false
    → members set (drop i pieces) ≡ members set (drop (i + 1) pieces)
unfolding members
members-out set pieces i d within outside = rw (drop-cons pieces i d, outside, add-one) refl

-- the piece with a number among those of a set: steps along the list of all pieces
pub first_member : (set : ℕ) (pieces : List Piece) (i : ℕ) (d : Piece) → i < length pieces → is_in (get_or pieces i d) set ≡ true
    → slice_get (members set (drop i pieces)) 0 ≡ Some (get_or pieces i d)
unfolding members
first_member set pieces i d within inside = search (rules, drop-cons, add-one)

pub later_member : (set : ℕ) (pieces : List Piece) (i left : ℕ) (d : Piece) → i < length pieces → is_in (get_or pieces i d) set ≡ true → left ≢ 0
    → slice_get (members set (drop i pieces)) left ≡ slice_get (members set (drop (i + 1) pieces)) (left - 1)
unfolding members
later_member set pieces i left d within inside some = grind (arith, common_steps, drop-cons, add-one, sub-one)

-- past the last piece none is left
pub none_left : (set number i left : ℕ) → number < length (pieces_in set) → 7 ≤ i
    → slice_get (pieces_in set) number ≡ slice_get (members set (drop i all_pieces)) left → ⊥
unfolding members
none_left set number i left within past is =
    let none : slice_get (members set (drop i all_pieces)) left ≡ None = rw (drop_all i all_pieces past) refl in
    let some = slice_get-get_or (pieces_in set) number I within in
    cc (sym some ∙ is ∙ none)

-- one piece is a sound element
pub single-sound : (piece : Piece) → is_sound (single piece) ≡ true
unfolding is_sound pieces_in
single-sound piece = each_piece (λ p. is_sound (single p)) refl piece
