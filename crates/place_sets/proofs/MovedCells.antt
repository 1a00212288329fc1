-- Which cells a moved field has.
use Rattle.std.proofs.Common.{◌≡◌, ℕ, ◌<◌, true, pos, ap, rules}
use Rattle.std.specs.Prelude.{neg_ℤ}
use Rattle.std.proofs.lemmas.Bool.{and_parts, and_from, lt-ltb, false≢true}
use Rattle.lane_board.specs.Field.{Field, has_cell, rows_below, moved_within}
use Rattle.srs.specs.Cells.{Cell, moved}

pub same_cell : (c d : Cell) → c.0 ≡ d.0 → c.1 ≡ d.1 → c ≡ d
same_cell c d x y = λ i. (x i, y i)

-- a cell of the field from which the move leads to a cell
pub record MovedFrom (S : Field) (move : Cell) (x y : ℕ) : Type 0 where
  pub from_x : ℕ
  pub from_y : ℕ
  pub filled : S from_x from_y ≡ true
  pub there : moved (pos from_x, pos from_y) move ≡ (pos x, pos y)

pub moved_from : (S : Field) (n : ℕ) (move : Cell) (x y : ℕ) → moved_within S n move.0 move.1 x y ≡ true → MovedFrom S move x y
unfolding moved_within has_cell moved
moved_from S n move x y filled = search (rules, and_parts, false≢true)

pub moved_to : (S : Field) (n : ℕ) (move : Cell) (a b x y : ℕ) → S a b ≡ true → moved (pos a, pos b) move ≡ (pos x, pos y) → x < 10 → y < n → moved_within S n move.0 move.1 x y ≡ true
unfolding moved_within rows_below has_cell moved
moved_to S n move a b x y filled there column row = search (rules, and_from, lt-ltb, same_cell)

-- a move and its reverse
pub moved_back : (a b x y : ℕ) (move : Cell) → moved (pos a, pos b) move ≡ (pos x, pos y) → moved (pos x, pos y) (neg_ℤ move.0, neg_ℤ move.1) ≡ (pos a, pos b)
unfolding moved
moved_back a b x y move there = search rules

-- the cells of the well are told apart by their numbers
pub same_column : (a b x y : ℕ) → ◌≡◌ {A = Cell} (pos a, pos b) (pos x, pos y) → a ≡ x
same_column a b x y e = let p : pos a ≡ pos x = ap (λ (c : Cell). c.0) e in cc

pub same_row : (a b x y : ℕ) → ◌≡◌ {A = Cell} (pos a, pos b) (pos x, pos y) → b ≡ y
same_row a b x y e = let p : pos b ≡ pos y = ap (λ (c : Cell). c.1) e in cc

pub moved_forth : (a b x y : ℕ) (move : Cell) → moved (pos a, pos b) (neg_ℤ move.0, neg_ℤ move.1) ≡ (pos x, pos y) → moved (pos x, pos y) move ≡ (pos a, pos b)
unfolding moved
moved_forth a b x y move there = search rules
