-- Which queues of a pattern are covered: those that permit the kinds of a sequence that clears the field.
use Rattle.std.specs.Prelude.{◌≡◌, ℕ, ◌≤◌, ◌⊎◌, Bool, true, false, List, [], ◌∷◌, ◌++◌, Option, Some, None, Contains, slice_get}
use Rattle.std.specs.Ordering.{nat_cmp}
use Rattle.srs.specs.Rising.{IsRisingListOf}
use Rattle.srs.specs.declared.piece.Piece.{Piece}
use Rattle.srs.specs.declared.placement.Placement.{Placement}
use Rattle.queue_pattern.specs.Pattern.{elements_of}
use Rattle.queue_pattern.specs.Queues.{queues}
use Rattle.hold_queue.specs.Permits.{Permits}
use Rattle.problem.specs.declared.problem.Problem.{Problem}
use Rattle.problem.specs.Solution.{PlaysIn, pieces_of}

-- the queue with this number permits one of these lists of kinds
pub record IsPermitted (problem : Problem) (lists : List (List Piece)) (number : ℕ) : Type 0 where
  pub queue : List Piece
  pub there : slice_get (queues (elements_of problem.pattern)) number ≡ Some queue
  pub kinds : List Piece
  pub listed : Contains lists kinds
  pub permitted : Permits problem.hold queue problem.held kinds

-- one of these sequences clears the field, and the queue with this number permits its kinds
pub record IsCovered (problem : Problem) (sequences : List (List Placement)) (number : ℕ) : Type 0 where
  pub queue : List Piece
  pub there : slice_get (queues (elements_of problem.pattern)) number ≡ Some queue
  pub sequence : List Placement
  pub given : Contains sequences sequence
  pub plays : PlaysIn problem sequence
  pub permitted : Permits problem.hold queue problem.held (pieces_of sequence)

-- the rising list of the numbers of all covered queues
abbrev pub IsCoveredList : Problem → List (List Placement) → List ℕ → Type 0
IsCoveredList problem sequences numbers = IsRisingListOf nat_cmp (IsCovered problem sequences) numbers

-- it is one of some numbers, at or above a bound, and none of those from the bound on comes before it
pub record IsLeastFrom (IsMember : ℕ → Type 0) (from number : ℕ) : Type 0 where
  pub member : IsMember number
  pub above : from ≤ number
  pub least : (other : ℕ) → IsMember other → from ≤ other → number ≤ other

-- the least of some numbers at or above a bound, or nothing where there is none
abbrev pub IsNextFrom : (ℕ → Type 0) → ℕ → Option ℕ → Type 0
IsNextFrom IsMember from None = (other : ℕ) → IsMember other → from ≤ other → ⊥
IsNextFrom IsMember from (Some number) = IsLeastFrom IsMember from number

-- a list stays among others, or comes last where it wasn't among them
abbrev pub Keeps : {A : Type 0} → List A → List A → A → Type 0
Keeps old new item = (Contains old item × (new ≡ old)) ⊎ ((Contains old item → ⊥) × (new ≡ old ++ item ∷ []))

-- the same where it is to be kept; else all stays
abbrev pub Adds : {A : Type 0} → Bool → List A → List A → A → Type 0
Adds true old new item = Keeps old new item
Adds false old new item = new ≡ old
