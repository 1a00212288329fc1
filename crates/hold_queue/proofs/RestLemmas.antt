-- What is left of the queues after one more piece is drawn.
use Rattle.std.proofs.Common.{◌≡◌, ℕ, suc, ◌+◌, ◌-◌, ◌<◌, ◌≤◌, Bool, true, false, not, cond, ◌&&◌, ◌==◌, Some, None, List, [], ◌∷◌, filter, refl, ap, ◌∙◌, sym, inl, inr, arith, rules}
use Rattle.std.proofs.lemmas.Bool.{agree_below_at, cases_lt, lt-ltb, le-ltb, eq-eqb, ne_eqb}
use Rattle.std.proofs.lemmas.Nat.Bits.{bit_at-zero}
use Rattle.srs.specs.declared.piece.Piece.{Piece}
use Rattle.srs.specs.Piece.{piece_code}
use Rattle.srs.proofs.CallerLemmas.{each_piece, or_second}
use Rattle.queue_pattern.specs.declared.element.Element.{Element}
use Rattle.queue_pattern.specs.Grammar.{set_of}
use Rattle.queue_pattern.specs.Queues.{is_in, pieces_in, others, queues, tails}
use Rattle.queue_pattern.proofs.CallerLemmas.{tails-none, queues-tails, queues-none, filter_twice, same_true}
use Rattle.hold_queue.specs.declared.family.Draw.{Draw}
use Rattle.hold_queue.specs.States.{in_progress, undrawn, rests}

added : (set : ℕ) → set < 128 → (piece other : Piece) → is_in piece set ≡ false
    → not (is_in other (set + set_of piece)) ≡ (not (is_in other set) && not (piece_code other == piece_code piece))
added set within piece other lacks = search (rules, same_true, or_second, each_piece, agree_below_at)

-- one more piece is drawn
pub undrawn-with : (set drawn_set : ℕ) (piece : Piece) → drawn_set < 128 → is_in piece drawn_set ≡ false
    → undrawn set (drawn_set + set_of piece) ≡ others piece (undrawn set drawn_set)
unfolding undrawn others
undrawn-with set drawn_set piece within lacks = search (rules, filter_twice, added)

filter-all : {A : Type 0} (test : A → Bool) → ((x : A) → test x ≡ true) → (xs : List A) → filter test xs ≡ xs
filter-all test all [] = refl
filter-all test all (x ∷ xs) = rw (all x) (ap (λ rest. x ∷ rest) (filter-all test all xs))

pub undrawn-none : (set : ℕ) → undrawn set 0 ≡ pieces_in set
unfolding undrawn
undrawn-none set = filter-all (λ p. not (is_in p 0)) (λ p. ap (λ n. not (n == 1)) (bit_at-zero (piece_code p - 1))) (pieces_in set)

-- before any piece is drawn, all queues are left
pub rests-start : (elements : List Element) → rests elements 0 0 ≡ queues elements
unfolding rests
rests-start [] = sym queues-none
rests-start (e ∷ elements) =
    search (rules, cases_lt, lt-ltb, undrawn-none, queues-tails, le-ltb, tails-none, (rests-start elements))

-- the drawn set after one more piece
abbrev pub set_after : Draw → ℕ → Piece → ℕ
set_after draw drawn_set piece = cond draw.is_last 0 (drawn_set + set_of piece)

-- some pieces of the element in progress are still to be chosen
pub record IsInElement (elements : List Element) (drawn : ℕ) (draw : Draw) : Type 0 where
  pub more : ℕ
  pub later : List Element
  pub now : (drawn_set : ℕ) → rests elements drawn drawn_set ≡ tails (undrawn draw.element.set drawn_set) (suc more) later
  pub next : (drawn_set : ℕ) (piece : Piece) → drawn_set < 128 → is_in piece drawn_set ≡ false
      → rests elements (drawn + 1) (set_after draw drawn_set piece) ≡ tails (others piece (undrawn draw.element.set drawn_set)) more later

abbrev drawing : Element → ℕ → Draw
drawing element drawn = record { element = element; is_last = drawn + 1 == element.chosen }

in_element_here : (e : Element) (elements : List Element) (drawn : ℕ) → drawn < e.chosen → IsInElement (e ∷ elements) drawn (drawing e drawn)
unfolding rests
in_element_here e elements drawn within = record {
  more = e.chosen - drawn - 1;
  later = elements;
  now = λ drawn_set. rw (lt-ltb drawn e.chosen within) (ap (λ n. tails (undrawn e.set drawn_set) n elements) (omega arith));
  next = λ drawn_set piece small lacks. elim (cases_lt (drawn + 1) e.chosen) [
    | inl more ↦
        search (rules, ne_eqb, lt-ltb, undrawn-with)
    | inr last ↦
        let same : (drawn + 1 == e.chosen) ≡ true = eq-eqb (drawn + 1) e.chosen (omega arith) in
        rw (same, le-ltb (drawn + 1) e.chosen last)
        (ap (λ n. rests elements n 0) (omega arith) ∙ rests-start elements ∙ sym (tails-none (others piece (undrawn e.set drawn_set)) elements)
        ∙ ap (λ n. tails (others piece (undrawn e.set drawn_set)) n elements) (omega arith))
  ];
}

in_element_later : (e : Element) (elements : List Element) (drawn : ℕ) (draw : Draw) → e.chosen ≤ drawn → IsInElement elements (drawn - e.chosen) draw → IsInElement (e ∷ elements) drawn draw
unfolding rests
in_element_later e elements drawn draw past later = search (rules, later, le-ltb)

pub in_element : (elements : List Element) (drawn : ℕ) (draw : Draw) → in_progress elements drawn ≡ Some draw → IsInElement elements drawn draw
unfolding in_progress
in_element [] drawn draw is = cc
in_element (e ∷ elements) drawn draw is =
    search (rules, cases_lt, drawing, lt-ltb, in_element_here, le-ltb, in_element_later, (in_element elements))

-- where all elements are drawn, nothing is left
pub rests-done : (elements : List Element) (drawn drawn_set : ℕ) → in_progress elements drawn ≡ None → rests elements drawn drawn_set ≡ [] ∷ []
unfolding in_progress rests
rests-done [] drawn drawn_set is = refl
rests-done (e ∷ elements) drawn drawn_set is = search (rules, cases_lt, drawing, lt-ltb, le-ltb, (rests-done elements))
