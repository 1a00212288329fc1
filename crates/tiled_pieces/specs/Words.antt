-- Tests of the cells and rows of a set of cells in rows 0 to 7.
use Rattle.std.specs.Prelude.{ℕ, zero, suc, ◌+◌, Bool, true, false, not, ◌&&◌, ◌||◌, nat_lt, List, [], ◌∷◌}
use Rattle.std.specs.List.{list_any}
use Rattle.lane_board.specs.Field.{Field}
use Rattle.well.specs.Counts.{is_filled_row}

-- a row in which the set has a cell is not gone; a cell of such a row is filled if it is not in the set
unfoldable pub is_filled : Field → Field
is_filled E x y = is_filled_row E y && not (E x y)

-- a cell stands on the floor, or on a filled cell of the next row below that is not gone
unfoldable pub has_floor : Field → Field
has_floor E x zero = true
has_floor E x (suc y) = is_filled E x y || (not (is_filled_row E y) && has_floor E x y)

-- one of the next cells above a cell is in the set
unfoldable pub has_above : Field → ℕ → Field
has_above E zero x y = false
has_above E (suc n) x y = has_above E n x y || (nat_lt (y + suc n) 8 && E x (y + suc n))

-- the rows of a set
abbrev pub eight : List ℕ
eight = 0 ∷ 1 ∷ 2 ∷ 3 ∷ 4 ∷ 5 ∷ 6 ∷ 7 ∷ []

-- a row that is not among some rows lies between two of them
unfoldable pub is_between : (ℕ → Bool) → ℕ → Bool
is_between rows z = not (rows z)
    && (list_any (λ y. rows y && nat_lt y z) eight && list_any (λ v. rows v && nat_lt z v) eight)
