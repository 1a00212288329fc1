-- The order of use of what a store keeps: what was used last stands first.
use Rattle.std.specs.Prelude.{◌≡◌, ℕ, ◌-◌, List, ◌∷◌, ◌++◌, Contains, take}

-- what was kept at some place goes first, and the others stay in their order
pub record IsUsed {A : Type 0} (before : List A) (x : A) (after : List A) : Type 0 where
  pub front : List A
  pub back : List A
  pub was : before ≡ front ++ x ∷ back
  pub is : after ≡ x ∷ (front ++ back)

-- What is noted goes first: where it was kept, as if it were used; where it wasn't, before the others, of which a
-- full store drops the last.
pub data IsNoted {A : Type 0} (capacity : ℕ) (before : List A) (x : A) (after : List A) : Type 0 where
  again : IsUsed before x after → IsNoted capacity before x after
  new : (Contains before x → ⊥) → after ≡ x ∷ take (capacity - 1) before → IsNoted capacity before x after
