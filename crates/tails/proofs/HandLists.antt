-- The hands of tails, one after the other.
use Rattle.std.proofs.Common.{ℕ, ◌≡◌, ◌+◌, ◌<◌, inl, inr, List, [], ◌∷◌, ◌++◌, length, get_or, sym, ap, ◌∙◌, arith}
use Rattle.std.proofs.lemmas.Bool.{cases_lt}
use Rattle.std.proofs.lemmas.List.{get_or_append_left, get_or_push, length_push}
use Rattle.hands.specs.Numbers.{has_number}
use Rattle.hands.proofs.CallerLemmas.{has-there}
use Rattle.tails.specs.declared.tree.TailTree.{TailTree}
use Rattle.tails.specs.Tails.{AreHandsAt, AreTails, IsTail, hand_at}

-- the hands of the first so many tails
pub record AreHandsBefore (tree : TailTree) (tails hands : List ℕ) (count : ℕ) : Type 0 where
  pub size : length hands ≡ count
  pub each : (k : ℕ) → k < count → get_or hands k 0 ≡ hand_at tree (get_or tails k 0)

pub hands-start : (tree : TailTree) (tails hands : List ℕ) → hands ≡ [] → AreHandsBefore tree tails hands 0
hands-start tree tails hands none = record { size = ap length none; each = λ k low. absurd (omega arith) }

pub hands-more : (tree : TailTree) (tails hands : List ℕ) (hand count : ℕ) → hand ≡ hand_at tree (get_or tails count 0) → AreHandsBefore tree tails hands count
    → AreHandsBefore tree tails (hands ++ hand ∷ []) (count + 1)
hands-more tree tails hands hand count is state = record {
  size = length_push hands hand ∙ ap (λ n. n + 1) state.size;
  each = λ k low. elim (cases_lt k count) [
    | inl before ↦ get_or_append_left hands (hand ∷ []) 0 k (omega (arith, state.size, before)) ∙ state.each k before
    | inr past ↦
        let last : k ≡ count = omega (arith, low, past) in
        get_or_push hands hand 0 k (state.size ∙ sym last) ∙ is ∙ ap (λ n. hand_at tree (get_or tails n 0)) (sym last)
  ];
}

pub hands-end : (tree : TailTree) (tails hands : List ℕ) (count : ℕ) → count ≡ length tails → AreHandsBefore tree tails hands count → AreHandsAt tree tails hands
hands-end tree tails hands count all state = record { size = state.size ∙ all; each = λ k below. state.each k (omega (arith, all, below)) }

pub listed-tail : (tree : TailTree) (tails : List ℕ) (k tail : ℕ) → AreTails tree (has_number tails) → k < length tails → get_or tails k 0 ≡ tail → IsTail tree tail
listed-tail tree tails k tail are within is = are tail (has-there tails k tail within is)
