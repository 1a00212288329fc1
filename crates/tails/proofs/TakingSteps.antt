-- How a piece is taken from the tails of a state, letter by letter.
use Rattle.std.proofs.Common.{ℕ, ◌≡◌, ◌≢◌, ◌≤◌, List, [], ◌∷◌, ◌++◌, length, slice_index, sym, ap, append_assoc, append-nil, ◌∙◌, inl, inr, arith}
use Rattle.std.specs.Prelude.{if◌then◌else◌}
use Rattle.std.proofs.lemmas.Bool.{cases_eq, eq-eqb, ne_eqb}
use Rattle.srs.specs.declared.piece.Piece.{Piece}
use Rattle.srs.specs.Piece.{piece_code}
use Rattle.tails.specs.declared.states.State.{State}
use Rattle.tails.specs.declared.takings.Taking.{Taking}
use Rattle.tails.specs.Numbers.{tail_number}
use Rattle.tails.specs.Takings.{run_at, taken_at}

-- a run of the tails of a state that begin with a letter
abbrev pub run_of : State → ℕ → ℕ → Taking
run_of state first base = record { first = first; count = state.each; base = base }

module _ (state : State) (first held code : ℕ) (letter : Piece) where
  pub taken-both : held ≡ code → piece_code letter ≡ code
      → taken_at state first held code letter ≡ run_at state first letter (piece_code letter) ∷ run_at state first letter held ∷ []
  unfolding taken_at
  taken-both same letter_same =
      λ i. (if eq-eqb held code same i then run_at state first letter (piece_code letter) ∷ [] else [])
      ++ (if eq-eqb (piece_code letter) code letter_same i then run_at state first letter held ∷ [] else [])

  pub taken-held : held ≡ code → piece_code letter ≢ code → taken_at state first held code letter ≡ run_at state first letter (piece_code letter) ∷ []
  unfolding taken_at
  taken-held same other =
      λ i. (if eq-eqb held code same i then run_at state first letter (piece_code letter) ∷ [] else [])
      ++ (if ne_eqb (piece_code letter) code other i then run_at state first letter held ∷ [] else [])

  pub taken-letter : held ≢ code → piece_code letter ≡ code → taken_at state first held code letter ≡ run_at state first letter held ∷ []
  unfolding taken_at
  taken-letter differs letter_same =
      λ i. (if ne_eqb held code differs i then run_at state first letter (piece_code letter) ∷ [] else [])
      ++ (if eq-eqb (piece_code letter) code letter_same i then run_at state first letter held ∷ [] else [])

  pub taken-none : held ≢ code → piece_code letter ≢ code → taken_at state first held code letter ≡ []
  unfolding taken_at
  taken-none differs other =
      λ i. (if ne_eqb held code differs i then run_at state first letter (piece_code letter) ∷ [] else [])
      ++ (if ne_eqb (piece_code letter) code other i then run_at state first letter held ∷ [] else [])

  -- as many runs as ways
  pub held-counted : held ≡ code → 1 ≤ length (taken_at state first held code letter)
  held-counted same = elim (cases_eq (piece_code letter) code) [
    | inl letter_same ↦ omega (arith, ap length (taken-both same letter_same))
    | inr other ↦ omega (arith, ap length (taken-held same other))
  ]

  pub letter-counted : piece_code letter ≡ code → 1 ≤ length (taken_at state first held code letter)
  letter-counted letter_same = elim (cases_eq held code) [
    | inl same ↦ omega (arith, ap length (taken-both same letter_same))
    | inr differs ↦ omega (arith, ap length (taken-letter differs letter_same))
  ]

  pub both-counted : held ≡ code → piece_code letter ≡ code → length (taken_at state first held code letter) ≡ 2
  both-counted same letter_same = ap length (taken-both same letter_same)

  pub few-counted : length (taken_at state first held code letter) ≤ 2
  few-counted = elim (cases_eq held code) [
    | inl same ↦ elim (cases_eq (piece_code letter) code) [
      | inl letter_same ↦ omega (arith, ap length (taken-both same letter_same))
      | inr other ↦ omega (arith, ap length (taken-held same other))
    ]
    | inr differs ↦ elim (cases_eq (piece_code letter) code) [
      | inl letter_same ↦ omega (arith, ap length (taken-letter differs letter_same))
      | inr other ↦ omega (arith, ap length (taken-none differs other))
    ]
  ]

  pub other-counted : piece_code letter ≢ code → length (taken_at state first held code letter) ≤ 1
  other-counted other = elim (cases_eq held code) [
    | inl same ↦ omega (arith, ap length (taken-held same other))
    | inr differs ↦ omega (arith, ap length (taken-none differs other))
  ]

  -- the runs are pushed one after the other
  module _ (old mid new : List Taking) where
    pub pushed-both : (base other : ℕ) → held ≡ code → piece_code letter ≡ code
        → base ≡ tail_number (slice_index state.next (piece_code letter)) (piece_code letter) 0
        → other ≡ tail_number (slice_index state.next (piece_code letter)) held 0
        → mid ≡ old ++ run_of state first base ∷ [] → new ≡ mid ++ run_of state first other ∷ []
        → new ≡ old ++ taken_at state first held code letter
    pushed-both base other same letter_same base_is other_is mid_is new_is =
        new_is ∙ (λ i. mid_is i ++ run_of state first (other_is i) ∷ [])
        ∙ (λ i. (old ++ run_of state first (base_is i) ∷ []) ++ run_at state first letter held ∷ [])
        ∙ append_assoc old (run_at state first letter (piece_code letter) ∷ []) (run_at state first letter held ∷ []) ∙ ap (λ xs. old ++ xs) (sym (taken-both same letter_same))

    pub pushed-held : (base : ℕ) → held ≡ code → piece_code letter ≢ code
        → base ≡ tail_number (slice_index state.next (piece_code letter)) (piece_code letter) 0
        → new ≡ old ++ run_of state first base ∷ [] → new ≡ old ++ taken_at state first held code letter
    pushed-held base same other base_is new_is =
        new_is ∙ (λ i. old ++ run_of state first (base_is i) ∷ []) ∙ ap (λ xs. old ++ xs) (sym (taken-held same other))

    pub pushed-letter : (base : ℕ) → held ≢ code → piece_code letter ≡ code
        → base ≡ tail_number (slice_index state.next (piece_code letter)) held 0
        → mid ≡ old → new ≡ mid ++ run_of state first base ∷ [] → new ≡ old ++ taken_at state first held code letter
    pushed-letter base differs letter_same base_is mid_is new_is =
        new_is ∙ (λ i. mid_is i ++ run_of state first (base_is i) ∷ []) ∙ ap (λ xs. old ++ xs) (sym (taken-letter differs letter_same))

    pub pushed-none : held ≢ code → piece_code letter ≢ code → new ≡ old → new ≡ old ++ taken_at state first held code letter
    pushed-none differs other new_is = new_is ∙ sym (append-nil old) ∙ ap (λ xs. old ++ xs) (sym (taken-none differs other))
