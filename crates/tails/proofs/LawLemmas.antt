-- Taking from the pieces at hand is taking from the tail.
use Rattle.std.proofs.Common.{◌≡◌, ℕ, ◌+◌, ◌*◌, ◌/◌, ◌%◌, ◌<◌, ◌⊎◌, ◌==◌, ◌&&◌, ◌||◌, Bool, true, false, List, [], ◌∷◌, refl, ap, sym, subst, ◌∙◌, inl, inr, arith}
use Rattle.std.proofs.Math.Bool.{or-false}
use Rattle.std.proofs.lemmas.Bool.{and_left, and_parts, cases_lt, cond-false, eqb-true, ne_eqb, or_cases, or_from}
use Rattle.srs.specs.declared.piece.Piece.{Piece}
use Rattle.srs.specs.Piece.{piece_code}
use Rattle.srs.proofs.CallerLemmas.{piece_code-small, piece_code-some}
use Rattle.hold_queue.specs.declared.hold.Hold.{Hold}
use Rattle.hold_queue.specs.declared.hold.Hold.TheVariants.{Allowed, Avoided}
use Rattle.hands.specs.Hands.{allows_hold, number_of, takes, without_first, without_second}
use Rattle.tails.specs.declared.tree.TailTree.{TailTree}
use Rattle.tails.specs.Numbers.{held_of}
use Rattle.tails.specs.Tails.{IsTail, behind_held, behind_letter, hand_at, leads, letter_at, state_before}
use Rattle.tails.proofs.NumberLemmas.{held_of-small}
use Rattle.tails.proofs.TailLemmas.{Draws, DrawsNone, end-is-tail, hand-is, left-is-tail, rest-long, tail-cases}

-- a piece with the code is taken, and what is left passes
abbrev way : (ℕ → Bool) → ℕ → ℕ → ℕ → Bool
way goes_on code piece left = piece == code && goes_on left

-- either of two ways
abbrev ways : (ℕ → Bool) → ℕ → ℕ → ℕ → ℕ → ℕ → Bool
ways goes_on code piece left other rest = way goes_on code piece left || way goes_on code other rest

takes-allowed : (goes_on : ℕ → Bool) (code hand piece left other rest : ℕ) → hand % 8 ≡ piece → hand / 8 ≡ left → hand / 8 % 8 ≡ other
    → hand / 64 * 8 + hand % 8 ≡ rest → takes Allowed code goes_on hand ≡ ways goes_on code piece left other rest
unfolding takes without_first without_second
takes-allowed goes_on code hand piece left other rest p l o r = λ i. ways goes_on code (p i) (l i) (o i) (r i)

takes-avoided : (goes_on : ℕ → Bool) (code hand piece left : ℕ) → hand % 8 ≡ piece → hand / 8 ≡ left
    → takes Avoided code goes_on hand ≡ way goes_on code piece left
unfolding takes without_first
takes-avoided goes_on code hand piece left p l = or-false _ ∙ (λ i. way goes_on code (p i) (l i))

no-way : (goes_on : ℕ → Bool) (code piece left : ℕ) → 0 < code → piece ≡ 0 → way goes_on code piece left ≡ false
no-way goes_on code piece left some none = and_left (piece == code) (goes_on left) (ne_eqb piece code (λ is. omega (arith, is, some, none)))

no-ways : (goes_on : ℕ → Bool) (code piece left other rest : ℕ) → 0 < code → piece ≡ 0 → other ≡ 0 → ways goes_on code piece left other rest ≡ false
no-ways goes_on code piece left other rest some none none_too =
    or_from (way goes_on code piece left) (way goes_on code other rest) (no-way goes_on code piece left some none) (no-way goes_on code other rest some none_too)

-- nothing is taken from no pieces
takes-nothing : (hold : Hold) (goes_on : ℕ → Bool) (code hand : ℕ) → 0 < code → hand ≡ 0 → takes hold code goes_on hand ≡ false
takes-nothing Allowed goes_on code hand some none =
    takes-allowed goes_on code hand 0 0 0 0 (omega (arith, none)) (omega (arith, none)) (omega (arith, none)) (omega (arith, none))
    ∙ no-ways goes_on code 0 0 0 0 some refl refl
takes-nothing Avoided goes_on code hand some none =
    takes-avoided goes_on code hand 0 0 (omega (arith, none)) (omega (arith, none)) ∙ no-way goes_on code 0 0 some refl

pub behind-some : (held : ℕ) (pieces : List Piece) → 0 < held → behind_held held pieces ≡ held + 8 * number_of pieces
unfolding behind_held
behind-some held pieces some = cond-false (held == 0) _ _ (ne_eqb held 0 (λ is. omega (arith, is, some)))

pub behind-no : (held : ℕ) (pieces : List Piece) → held ≡ 0 → behind_held held pieces ≡ number_of pieces
unfolding behind_held
behind-no held pieces none = ap (λ n. behind_held n pieces) none

-- the ways of a tail
module _ (tree : TailTree) (code : ℕ) (goes_on : ℕ → Bool) (tail : ℕ) where
  abbrev ways_of : ℕ → Bool
  ways_of held = ways goes_on code held (hand_at tree (behind_letter tree tail (letter_at tree tail))) (letter_at tree tail) (hand_at tree (behind_letter tree tail held))

  leads-ways : leads tree code (λ rest. goes_on (hand_at tree rest)) tail ≡ ways_of (held_of tail)
  unfolding leads
  leads-ways = refl

  -- the hand that is left where the first piece is drawn and another is held
  left-hand : (held : ℕ) (piece : Piece) (rest : List Piece) → Draws tree tail piece rest → held < 8
      → hand_at tree (behind_letter tree tail held) ≡ behind_held held rest
  left-hand held piece rest draws small =
      hand-is tree (behind_letter tree tail held) held rest (draws.left held small).held_is (draws.left_drawn held small)

  end-hand : (held : ℕ) → DrawsNone tree tail → held < 8 → hand_at tree (behind_letter tree tail held) ≡ behind_held held []
  end-hand held end small =
      hand-is tree (behind_letter tree tail held) held [] (end.left held small).held_is (end.left_drawn held small)

  -- a piece is held, and another is drawn
  held-drawn : (held : ℕ) (piece : Piece) (rest : List Piece) → Draws tree tail piece rest → held_of tail ≡ held → 0 < held → held < 8
      → takes Allowed code goes_on (hand_at tree tail) ≡ ways_of held
  unfolding number_of
  held-drawn held piece rest draws is some small =
      let hand : hand_at tree tail ≡ held + 8 * (piece_code piece + 8 * number_of rest) =
      hand-is tree tail held (piece ∷ rest) is draws.drawn ∙ behind-some held (piece ∷ rest) some in
      let letter : letter_at tree tail ≡ piece_code piece = draws.letter in
      let first : hand_at tree (behind_letter tree tail (letter_at tree tail)) ≡ piece_code piece + 8 * number_of rest =
      ap (λ n. hand_at tree (behind_letter tree tail n)) letter
      ∙ left-hand (piece_code piece) piece rest draws (omega (arith, piece_code-small piece))
      ∙ behind-some (piece_code piece) rest (omega (arith, piece_code-some piece)) in
      let second : hand_at tree (behind_letter tree tail held) ≡ held + 8 * number_of rest =
      left-hand held piece rest draws small ∙ behind-some held rest some in
      let low = piece_code-small piece in
      takes-allowed goes_on code (hand_at tree tail) held (hand_at tree (behind_letter tree tail (letter_at tree tail))) (letter_at tree tail) (hand_at tree (behind_letter tree tail held))
      (omega (arith, hand, small)) (omega (arith, hand, small, first)) (omega (arith, hand, small, letter, low)) (omega (arith, hand, small, second, low))

  -- a piece is held, and no other is drawn
  held-alone : (held : ℕ) → DrawsNone tree tail → held_of tail ≡ held → 0 < held → held < 8
      → takes Allowed code goes_on (hand_at tree tail) ≡ ways_of held
  unfolding number_of
  held-alone held end is some small =
      let hand : hand_at tree tail ≡ held = hand-is tree tail held [] is end.drawn ∙ behind-some held [] some ∙ omega arith in
      let first : hand_at tree (behind_letter tree tail (letter_at tree tail)) ≡ 0 =
      ap (λ n. hand_at tree (behind_letter tree tail n)) end.letter ∙ end-hand 0 end (omega arith) ∙ behind-no 0 [] refl in
      let second : hand_at tree (behind_letter tree tail held) ≡ held = end-hand held end small ∙ behind-some held [] some ∙ omega arith in
      let letter : letter_at tree tail ≡ 0 = end.letter in
      takes-allowed goes_on code (hand_at tree tail) held (hand_at tree (behind_letter tree tail (letter_at tree tail))) (letter_at tree tail) (hand_at tree (behind_letter tree tail held))
      (omega (arith, hand, small)) (omega (arith, hand, small, first)) (omega (arith, hand, small, letter)) (omega (arith, hand, small, second))

  -- none is held
  drawn-alone : (piece : Piece) (rest : List Piece) → Draws tree tail piece rest → held_of tail ≡ 0 → 0 < code
      → takes Avoided code goes_on (hand_at tree tail) ≡ ways_of 0
  unfolding number_of
  drawn-alone piece rest draws is some =
      let hand : hand_at tree tail ≡ piece_code piece + 8 * number_of rest = hand-is tree tail 0 (piece ∷ rest) is draws.drawn ∙ behind-no 0 (piece ∷ rest) refl in
      let left : hand_at tree (behind_letter tree tail 0) ≡ number_of rest = left-hand 0 piece rest draws (omega arith) ∙ behind-no 0 rest refl in
      let letter : letter_at tree tail ≡ piece_code piece = draws.letter in
      let low = piece_code-small piece in
      takes-avoided goes_on code (hand_at tree tail) (letter_at tree tail) (hand_at tree (behind_letter tree tail 0)) (omega (arith, hand, letter, low)) (omega (arith, hand, left, low))
      ∙ ap (λ b. b || way goes_on code (letter_at tree tail) (hand_at tree (behind_letter tree tail 0))) (sym (no-way goes_on code 0 (hand_at tree (behind_letter tree tail (letter_at tree tail))) some refl))

  -- no piece is at hand
  none-at-hand : (hold : Hold) → DrawsNone tree tail → held_of tail ≡ 0 → 0 < code → takes hold code goes_on (hand_at tree tail) ≡ ways_of 0
  unfolding number_of
  none-at-hand hold end is some =
      let hand : hand_at tree tail ≡ 0 = hand-is tree tail 0 [] is end.drawn ∙ behind-no 0 [] refl in
      takes-nothing hold goes_on code (hand_at tree tail) some hand
      ∙ sym (no-ways goes_on code 0 (hand_at tree (behind_letter tree tail (letter_at tree tail))) (letter_at tree tail) (hand_at tree (behind_letter tree tail 0)) some refl end.letter)

  -- by whether hold is allowed
  taken-by : (hold : Hold) → tree.hold ≡ hold → IsTail tree tail → 0 < code
      → ((piece : Piece) × (rest : List Piece) × Draws tree tail piece rest) ⊎ DrawsNone tree tail
      → takes hold code goes_on (hand_at tree tail) ≡ ways_of (held_of tail)
  taken-by Avoided is tail_is some (inl draws) =
      let none : held_of tail ≡ 0 = tail_is.avoided is in
      drawn-alone draws.0 draws.1 draws.2 none some ∙ ap ways_of (sym none)
  taken-by Avoided is tail_is some (inr end) =
      let none : held_of tail ≡ 0 = tail_is.avoided is in
      none-at-hand Avoided end none some ∙ ap ways_of (sym none)
  taken-by Allowed is tail_is some (inr end) = elim (cases_lt 0 (held_of tail)) [
    | inl holds ↦ held-alone (held_of tail) end refl holds (held_of-small tail)
    | inr few ↦
        let none : held_of tail ≡ 0 = omega (arith, few) in
        none-at-hand Allowed end none some ∙ ap ways_of (sym none)
  ]
  taken-by Allowed is tail_is some (inl draws) = elim (cases_lt 0 (held_of tail)) [
    | inl holds ↦ held-drawn (held_of tail) draws.0 draws.1 draws.2 refl holds (held_of-small tail)
    | inr few ↦
        let none : (state_before tree tail).draws ≡ 0 = tail_is.held (ap allows_hold is) (omega (arith, few)) in
        absurd (omega (arith, none, draws.2.first.draws))
  ]

-- a piece can be taken from the hand of a tail exactly if it can be taken from the tail
pub hand-leads : (tree : TailTree) (tail code : ℕ) (goes_on : ℕ → Bool) → IsTail tree tail → 0 < code
    → takes tree.hold code goes_on (hand_at tree tail) ≡ leads tree code (λ rest. goes_on (hand_at tree rest)) tail
hand-leads tree tail code goes_on is some =
    taken-by tree code goes_on tail tree.hold refl is some (tail-cases tree tail is) ∙ sym (leads-ways tree code goes_on tail)

-- the ways to be left with one rest
rest-ways : (tree : TailTree) (tail rest code : ℕ) → leads tree code (λ other. other == rest) tail ≡ true
    → ((held_of tail ≡ code) × (behind_letter tree tail (letter_at tree tail) ≡ rest))
    ⊎ ((letter_at tree tail ≡ code) × (behind_letter tree tail (held_of tail) ≡ rest))
unfolding leads
rest-ways tree tail rest code led = elim (or_cases _ _ led) [
  | inl first ↦ let parts = and_parts _ _ first in inl (eqb-true _ _ parts.0, eqb-true _ _ parts.1)
  | inr second ↦ let parts = and_parts _ _ second in inr (eqb-true _ _ parts.0, eqb-true _ _ parts.1)
]

-- what is left is a tail
left-tail : (tree : TailTree) (tail code : ℕ) → IsTail tree tail → 0 < code
    → ((piece : Piece) × (rest : List Piece) × Draws tree tail piece rest) ⊎ DrawsNone tree tail
    → held_of tail ≡ code → IsTail tree (behind_letter tree tail (letter_at tree tail))
left-tail tree tail code is some (inl draws) same =
    let low = piece_code-small draws.0 in
    let positive = piece_code-some draws.0 in
    let letter = draws.2.letter in
    left-is-tail tree tail (letter_at tree tail) draws.0 draws.1 draws.2 (omega (arith, letter, low)) (rest-long tree tail draws.0 draws.1 draws.2 is.within is.there)
    (λ allowed none. omega (arith, letter, none, positive)) (λ avoided. absurd (let none = is.avoided avoided in omega (arith, none, same, some)))
left-tail tree tail code is some (inr end) same =
    subst (λ n. IsTail tree (behind_letter tree tail n)) (sym end.letter) (end-is-tail tree tail is end)

held-tail : (tree : TailTree) (tail code : ℕ) → IsTail tree tail → 0 < code
    → ((piece : Piece) × (rest : List Piece) × Draws tree tail piece rest) ⊎ DrawsNone tree tail
    → letter_at tree tail ≡ code → IsTail tree (behind_letter tree tail (held_of tail))
held-tail tree tail code is some (inl draws) same =
    left-is-tail tree tail (held_of tail) draws.0 draws.1 draws.2 (held_of-small tail) (rest-long tree tail draws.0 draws.1 draws.2 is.within is.there)
    (λ allowed none. let drawn = is.held allowed none in omega (arith, drawn, draws.2.first.draws)) is.avoided
held-tail tree tail code is some (inr end) same = absurd (omega (arith, same, some, end.letter))

-- what is left of a tail from which a piece is taken is a tail
pub rest-is-tail : (tree : TailTree) (tail rest code : ℕ) → IsTail tree tail → 0 < code
    → leads tree code (λ other. other == rest) tail ≡ true → IsTail tree rest
rest-is-tail tree tail rest code is some led = elim (rest-ways tree tail rest code led) [
  | inl held ↦ subst (IsTail tree) held.1 (left-tail tree tail code is some (tail-cases tree tail is) held.0)
  | inr drawn ↦ subst (IsTail tree) drawn.1 (held-tail tree tail code is some (tail-cases tree tail is) drawn.0)
]
