-- Rests are what is left of tails when a piece is taken.
use Rattle.std.proofs.Common.{◌≡◌, ℕ, suc, ◌-◌, ◌≤◌, Bool, true, ◌&&◌, ◌==◌, ap, subst, ◌∙◌, sym, inl, inr, arith}
use Rattle.std.proofs.lemmas.Bool.{and_from, and_parts, eq-eqb, eqb-true, or_cases, or_left, or_right}
use Rattle.srs.specs.declared.piece.Piece.{Piece}
use Rattle.srs.specs.Piece.{piece_code}
use Rattle.srs.proofs.CallerLemmas.{piece_code-some}
use Rattle.hands.specs.Hands.{takes}
use Rattle.hands.specs.Numbers.{has_number}
use Rattle.tails.specs.declared.tree.TailTree.{TailTree}
use Rattle.tails.specs.Numbers.{held_of}
use Rattle.tails.specs.Tails.{AreTails, IsTail, behind_letter, hand_at, leads, letter_at}
use Rattle.tails.specs.TailSets.{AreRests, has}
use Rattle.tails.proofs.CallerLemmas.{hand-leads}
use Rattle.percent.specs.declared.marks.Marks.{Marks}
use Rattle.percent.specs.declared.marks.Asked.{Asked}
use Rattle.percent.proofs.ListedTails.{listed-hand, listed-tail}
use Rattle.percent.specs.ListedHands.{AllListHand, AreMarksOf, AreMarksOfTails, AreRestsAt, AreRestsOfTails, HasHands, HasIndexes, IsAbout, IsAskedAt, IsRestAt}

-- a test that passes where another does
leads-more : (tree : TailTree) (code tail : ℕ) (f g : ℕ → Bool) → ((rest : ℕ) → f rest ≡ true → g rest ≡ true)
    → leads tree code f tail ≡ true → leads tree code g tail ≡ true
unfolding leads
leads-more tree code tail f g more led = elim (or_cases (held_of tail == code && f (behind_letter tree tail (letter_at tree tail))) _ led) [
  | inl held ↦
      let parts = and_parts (held_of tail == code) (f (behind_letter tree tail (letter_at tree tail))) held in
      or_left (held_of tail == code && g (behind_letter tree tail (letter_at tree tail))) _ (and_from _ _ parts.0 (more _ parts.1))
  | inr drawn ↦
      let parts = and_parts (letter_at tree tail == code) (f (behind_letter tree tail (held_of tail))) drawn in
      or_right (held_of tail == code && g (behind_letter tree tail (letter_at tree tail))) _ (and_from _ _ parts.0 (more _ parts.1))
]

-- what is left of a tail has what is left of its hand
taken-hand : (tree : TailTree) (piece : Piece) (tail rest : ℕ) → IsTail tree tail → leads tree (piece_code piece) (λ other. other == rest) tail ≡ true
    → takes tree.hold (piece_code piece) (λ other. other == hand_at tree rest) (hand_at tree tail) ≡ true
taken-hand tree piece tail rest is led =
    hand-leads tree tail (piece_code piece) (λ other. other == hand_at tree rest) is (piece_code-some piece)
    ∙ leads-more tree (piece_code piece) tail (λ other. other == rest) (λ other. hand_at tree other == hand_at tree rest)
    (λ other same. eq-eqb (hand_at tree other) (hand_at tree rest) (ap (hand_at tree) (eqb-true other rest same))) led

-- what is left of the tails of marks when a piece is taken
pub rests-at : (tree : TailTree) (marks : Marks) (piece : Piece) (left : ℕ) (tails asked rests : ℕ → Bool) → tree.hold ≡ marks.game.hold → ((tail : ℕ) → asked tail ≡ true → tails tail ≡ true)
    → AreRests tree (piece_code piece) asked rests → 1 ≤ left → AreMarksOfTails tree marks left tails → AreRestsOfTails tree marks piece (left - 1) rests
rests-at tree marks piece left tails asked rests same fewer rests_are some lists = record { are_tails = rests_are.are_tails; each = each }
  where
    each : (rest : ℕ) → rests rest ≡ true → IsRestAt marks piece (left - 1) (hand_at tree rest)
    each rest there =
        let from = rests_are.only rest there in
        let is = fewer from.0 from.1 in record {
          hand = hand_at tree from.0;
          taken = subst (λ h. takes h (piece_code piece) (λ other. other == hand_at tree rest) (hand_at tree from.0) ≡ true) same
              (taken-hand tree piece from.0 rest (lists.are_tails from.0 is) from.2);
          lists = subst (λ n. AllListHand marks n (hand_at tree from.0)) {x = left} {y = suc (left - 1)} (omega (arith, some)) (lists.each from.0 is);
        }

-- so are some of them
pub rests-fewer : (tree : TailTree) (marks : Marks) (piece : Piece) (left : ℕ) (few many : ℕ → Bool) → ((rest : ℕ) → few rest ≡ true → many rest ≡ true)
    → AreRestsOfTails tree marks piece left many → AreRestsOfTails tree marks piece left few
rests-fewer tree marks piece left few many fewer are = record {
  are_tails = λ rest there. are.are_tails rest (fewer rest there);
  each = λ rest there. are.each rest (fewer rest there);
}

-- the hands of the tails among some hands are rests
pub hands-at : (tree : TailTree) (marks : Marks) (piece : Piece) (left : ℕ) (tails hands : ℕ → Bool)
    → ((hand : ℕ) → hands hand ≡ true → (tail : ℕ) × (tails tail ≡ true) × (hand_at tree tail ≡ hand))
    → AreRestsOfTails tree marks piece left tails → AreRestsAt marks piece left hands
hands-at tree marks piece left tails hands only are = record {
  each = λ hand there. let from = only hand there in subst (IsRestAt marks piece left) from.2 (are.each from.0 from.1);
}

-- marks of the hands of some tails
pub marks-of-tails : (tree : TailTree) (marks : Marks) (left : ℕ) (tails hands : ℕ → Bool) → AreTails tree tails → ((tail : ℕ) → tails tail ≡ true → hands (hand_at tree tail) ≡ true)
    → AreMarksOf marks left hands → AreMarksOfTails tree marks left tails
marks-of-tails tree marks left tails hands are all lists = record { are_tails = are; each = λ tail there. lists.each (hand_at tree tail) (all tail there) }

-- the marks of tails are those of their hands
pub marks-of-hands : (tree : TailTree) (marks : Marks) (left : ℕ) (tails hands : ℕ → Bool)
    → ((hand : ℕ) → hands hand ≡ true → (tail : ℕ) × (tails tail ≡ true) × (hand_at tree tail ≡ hand))
    → AreMarksOfTails tree marks left tails → AreMarksOf marks left hands
marks-of-hands tree marks left tails hands only lists = record {
  each = λ hand there. let from = only hand there in subst (AllListHand marks left) from.2 (lists.each from.0 from.1);
}

-- the hand of a rest that is asked about is there, and there are no others
pub asked-hand : (tree : TailTree) (asked : Asked) → HasHands tree asked → (rest : ℕ) → has asked.rests rest ≡ true → has_number asked.hands.items (hand_at tree rest) ≡ true
asked-hand tree asked are rest there = listed-hand tree asked.tails.items asked.hands.items are rest (asked.listed rest ∙ there)

pub asked-rest : (tree : TailTree) (asked : Asked) → HasHands tree asked → (hand : ℕ) → has_number asked.hands.items hand ≡ true
    → (rest : ℕ) × (has asked.rests rest ≡ true) × (hand_at tree rest ≡ hand)
asked-rest tree asked are hand there =
    let from = listed-tail tree asked.tails.items asked.hands.items are hand there in
    (from.0, sym (asked.listed from.0) ∙ from.1, from.2)

-- some of them are asked about
pub asked-at : (tree : TailTree) (marks : Marks) (piece : Piece) (left : ℕ) (many : ℕ → Bool) (asked : Asked) → IsAbout piece left asked → HasIndexes marks asked → HasHands tree asked
    → ((rest : ℕ) → has asked.rests rest ≡ true → many rest ≡ true) → AreRestsOfTails tree marks piece left many → IsAskedAt marks asked
asked-at tree marks piece left many asked about indexes hands fewer are = record {
  indexes = indexes;
  rests = subst (λ p. AreRestsAt marks p asked.left (has_number asked.hands.items)) (sym about.kind)
      (subst (λ n. AreRestsAt marks piece n (has_number asked.hands.items)) (sym about.to_come)
      (hands-at tree marks piece left (has asked.rests) (has_number asked.hands.items) (asked-rest tree asked hands) (rests-fewer tree marks piece left (has asked.rests) many fewer are)));
}

-- what is among some is there
pub first-true : (a b c : Bool) → a ≡ (b && c) → a ≡ true → b ≡ true
first-true a b c is there = (and_parts b c (sym is ∙ there)).0
