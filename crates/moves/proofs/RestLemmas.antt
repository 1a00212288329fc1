-- The rest of a free state exists, is one, and is what the function gives.
use Rattle.std.proofs.Common.{◌≡◌, ℕ, zero, suc, ◌+◌, ◌≤◌, true, false, ℤ, pos, negsuc, ◌-ℤ◌, sym, ap, subst, ◌∙◌, inl, inr, arith, rules}
use Rattle.std.proofs.lemmas.Bool.{cases_Bool, cond-true, cond-false, both_ways, cases_order, false_from_ne_true}
use Rattle.std.proofs.lemmas.Int.{ints}
use Rattle.lane_board.specs.Field.{Field}
use Rattle.srs.specs.declared.piece.Piece.{Piece}
use Rattle.srs.specs.declared.rotation.Rotation.{Rotation}
use Rattle.srs.specs.declared.placement.Placement.{Placement}
use Rattle.srs.specs.Cells.{Cell}
use Rattle.srs.proofs.CallerLemmas.{some_same}
use Rattle.well.specs.Free.{is_free_at, is_free}
use Rattle.well.proofs.CallerLemmas.{free_pivot}
use Rattle.moves.specs.Step.{state_at}
use Rattle.moves.specs.Rest.{lowered, IsRest, rest_from, rest_of}

abbrev state_of : Piece → Rotation → ℕ → ℕ → Placement
state_of piece rotation x y = record { piece = piece; rotation = rotation; x = x; y = y }

-- below row 0 no piece is free
below_is_blocked : (F : Field) (piece : Piece) (rotation : Rotation) (x : ℤ) (n : ℕ) → is_free_at F piece rotation (x, negsuc n) ≡ false
below_is_blocked F piece rotation x n = search (rules, false_from_ne_true, free_pivot)

-- a row further down from a row higher up is the same cell
one_lower : (x y k : ℕ) → ◌≡◌ {A = Cell} (pos x, pos (suc y) -ℤ pos (suc k)) (pos x, pos y -ℤ pos k)
one_lower x y k = let e : pos (suc y) -ℤ pos (suc k) ≡ pos y -ℤ pos k = omega (arith, ints) in λ i. (pos x, e i)

none_lower : (x y : ℕ) → ◌≡◌ {A = Cell} (pos x, pos y -ℤ pos 0) (pos x, pos y)
none_lower x y = let e : pos y -ℤ pos 0 ≡ pos y = omega (arith, ints) in λ i. (pos x, e i)

module _ (F : Field) (piece : Piece) (rotation : Rotation) (x : ℕ) where
  stays : (y : ℕ) → is_free_at F piece rotation (pos x, pos y) ≡ true → is_free_at F piece rotation (lowered (state_of piece rotation x y) 1) ≡ false → IsRest F (state_of piece rotation x y) (state_of piece rotation x y)
  stays y free blocked = search (rules, none_lower)

  falls : (y : ℕ) (rest : Placement) → is_free_at F piece rotation (pos x, pos (suc y)) ≡ true → IsRest F (state_of piece rotation x y) rest → IsRest F (state_of piece rotation x (suc y)) rest
  falls y rest free below = record {
    rows = suc below.rows;
    free = free_down;
    blocked = let more : suc (below.rows + 1) ≡ suc below.rows + 1 = omega arith in subst (λ c. is_free_at F piece rotation c ≡ false) (sym (one_lower x y (below.rows + 1)) ∙ ap (λ k. (pos x, pos (suc y) -ℤ pos k)) more) below.blocked;
    rests = ap (state_at piece rotation) (one_lower x y below.rows) ∙ below.rests;
  }
    where
      free_down : (k : ℕ) → k ≤ suc below.rows → is_free_at F piece rotation (lowered (state_of piece rotation x (suc y)) k) ≡ true
      free_down zero within = subst (λ c. is_free_at F piece rotation c ≡ true) (sym (none_lower x (suc y))) free
      free_down (suc k) within = subst (λ c. is_free_at F piece rotation c ≡ true) (sym (one_lower x y k)) (below.free k (omega arith))

  -- the function gives the rest
  pub rest_from-is : (y : ℕ) → is_free_at F piece rotation (pos x, pos y) ≡ true → IsRest F (state_of piece rotation x y) (rest_from F piece rotation x y)
  unfolding rest_from
  rest_from-is zero free = stays 0 free (below_is_blocked F piece rotation (pos x) 0)
  rest_from-is (suc y) free = elim (cases_Bool (is_free_at F piece rotation (pos x, pos y))) [
    | inl lower ↦ subst (IsRest F (state_of piece rotation x (suc y))) (sym (cond-true _ (rest_from F piece rotation x y) (state_of piece rotation x (suc y)) lower)) (falls y _ free (rest_from-is y lower))
    | inr blocked ↦ search (rules, cond-false, one_lower, none_lower)
  ]

pub rest_of-is : (F : Field) (s : Placement) → is_free F s ≡ true → IsRest F s (rest_of F s)
rest_of-is F s free = rest_from-is F s.piece s.rotation s.x s.y free

-- a state has one rest
pub rest_unique : (F : Field) (s p q : Placement) → IsRest F s p → IsRest F s q → p ≡ q
rest_unique F s p q one other = search (rules, some_same, both_ways, cases_order)

-- and the function gives it
pub rest_of-only : (F : Field) (s rest : Placement) → is_free F s ≡ true → IsRest F s rest → rest ≡ rest_of F s
rest_of-only F s rest free is = rest_unique F s rest (rest_of F s) is (rest_of-is F s free)

-- a state in row 0, or with no free state a row lower, rests
pub rests_in_row_0 : (F : Field) (s : Placement) → s.y ≡ 0 → rest_of F s ≡ s
unfolding rest_from
rests_in_row_0 F s bottom = ap (rest_from F s.piece s.rotation s.x) bottom ∙ (λ i. state_of s.piece s.rotation s.x (sym bottom i))

pub rests_blocked : (F : Field) (s : Placement) (y : ℕ) → s.y ≡ suc y → is_free_at F s.piece s.rotation (pos s.x, pos y) ≡ false → rest_of F s ≡ s
unfolding rest_from
rests_blocked F s y above blocked = search (rules, cond-false)

-- a state has the rest of the free state a row lower
pub falls_further : (F : Field) (s : Placement) (y : ℕ) → s.y ≡ suc y → is_free_at F s.piece s.rotation (pos s.x, pos y) ≡ true → rest_of F s ≡ rest_from F s.piece s.rotation s.x y
unfolding rest_from
falls_further F s y above free = search (rules, cond-true)
