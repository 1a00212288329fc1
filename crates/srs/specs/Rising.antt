-- Lists that rise strictly in an order, and the least of some things above a bound.
use Rattle.std.specs.Prelude.{◌≢◌, ◌↔◌, Bool, true, IsTrue, Option, Some, None, List, Contains}
use Rattle.std.specs.List.Sorted.{IsStrictlySortedBy}
use Rattle.std.specs.Ordering.{is_lt}
use Rattle.std.specs.declared.cmp.Ordering.{Ordering}
use Rattle.std.specs.declared.cmp.Ordering.TheVariants.{Less}

-- strictly before
abbrev pub is_before : {A : Type 0} → (A → A → Ordering) → A → A → Bool
is_before cmp x y = is_lt (cmp x y)

-- strictly after the bound; where there is no bound, everything is
abbrev pub is_above : {A : Type 0} → (A → A → Ordering) → Option A → A → Bool
is_above cmp None x = true
is_above cmp (Some bound) x = is_before cmp bound x

-- x is one of them, above the bound, and none of them that is above the bound comes before x
pub record IsLeastAbove {A : Type 0} (cmp : A → A → Ordering) (IsMember : A → Type 0) (bound : Option A)
    (x : A) : Type 0 where
  pub member : IsMember x
  pub above : IsTrue (is_above cmp bound x)
  pub least : (y : A) → IsMember y → IsTrue (is_above cmp bound y) → cmp y x ≢ Less

-- none of them is above the bound
pub record NoneAbove {A : Type 0} (cmp : A → A → Ordering) (IsMember : A → Type 0) (bound : Option A) : Type 0 where
  pub none : (y : A) → IsMember y → IsTrue (is_above cmp bound y) → ⊥

-- the least of them above the bound, or nothing where none is above it
abbrev pub IsNextAbove : {A : Type 0} → (A → A → Ordering) → (A → Type 0) → Option A → Option A → Type 0
IsNextAbove cmp IsMember bound None = NoneAbove cmp IsMember bound
IsNextAbove cmp IsMember bound (Some x) = IsLeastAbove cmp IsMember bound x

-- the strictly rising list of all of them
pub record IsRisingListOf {A : Type 0} (cmp : A → A → Ordering) (IsMember : A → Type 0) (xs : List A) : Type 0 where
  pub rising : IsStrictlySortedBy cmp xs
  pub members : (x : A) → Contains xs x ↔ IsMember x
