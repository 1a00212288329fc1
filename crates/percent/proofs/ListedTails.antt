-- The hands of the tails of a list.
use Rattle.std.proofs.Common.{◌≡◌, ℕ, ◌<◌, true, List, length, get_or, refl, sym, subst, ap, ◌∙◌, arith}
use Rattle.hands.specs.Numbers.{has_number}
use Rattle.hands.proofs.CallerLemmas.{has-there, number-at}
use Rattle.tails.specs.declared.tail_set.TailSet.{TailSet}
use Rattle.tails.specs.declared.tree.TailTree.{TailTree}
use Rattle.tails.specs.TailSets.{has}
use Rattle.tails.specs.Tails.{AreHandsAt, hand_at}

-- a list has the tails of a set, if it is the same list as one that has them
pub listed-same : (set : TailSet) (numbers tails : List ℕ) → tails ≡ numbers → ((tail : ℕ) → has_number numbers tail ≡ has set tail) → (tail : ℕ) → has_number tails tail ≡ has set tail
listed-same set numbers tails same listed tail = ap (λ l. has_number l tail) same ∙ listed tail

-- each of these tails has its hand in the list
pub listed-hand : (tree : TailTree) (tails hands : List ℕ) → AreHandsAt tree tails hands → (tail : ℕ) → has_number tails tail ≡ true → has_number hands (hand_at tree tail) ≡ true
listed-hand tree tails hands are tail there =
    let at = number-at tails tail there in
    let size = are.size in has-there hands at.0 (hand_at tree tail) (omega (arith, size, at.1)) (are.each at.0 at.1 ∙ ap (hand_at tree) at.2)

-- and each hand of the list is that of one of these tails
pub listed-tail : (tree : TailTree) (tails hands : List ℕ) → AreHandsAt tree tails hands → (hand : ℕ) → has_number hands hand ≡ true
    → (tail : ℕ) × (has_number tails tail ≡ true) × (hand_at tree tail ≡ hand)
listed-tail tree tails hands are hand there =
    let at = number-at hands hand there in
    let size = are.size in
    let within : at.0 < length tails = omega (arith, size, at.1) in
    (get_or tails at.0 0, has-there tails at.0 (get_or tails at.0 0) within refl, sym (are.each at.0 within) ∙ at.2)

pub hands-same : (tree : TailTree) (tails hands numbers all : List ℕ) → numbers ≡ tails → all ≡ hands → AreHandsAt tree tails hands → AreHandsAt tree numbers all
hands-same tree tails hands numbers all tails_are hands_are are = subst (AreHandsAt tree numbers) (sym hands_are) (subst (λ (tails : List ℕ). AreHandsAt tree tails hands) (sym tails_are) are)
