-- Facts of the tables, tried at each piece, rotation and column.
use Rattle.std.proofs.Common.{◌≡◌, ℕ, zero, suc, ◌<◌, Bool, true, ◌&&◌, pos, ◌-ℤ◌, refl, arith, rules}
use Rattle.std.specs.Prelude.{nat_le, int_le}
use Rattle.std.specs.List.{list_all}
use Rattle.std.proofs.lemmas.Bool.{and_parts, cases_order}
use Rattle.srs.specs.declared.piece.Piece.{Piece}
use Rattle.srs.specs.declared.rotation.Rotation.{Rotation}
use Rattle.srs.specs.Cells.{Cell, minus, shape}
use Rattle.srs.proofs.CallerLemmas.{each_state, each_piece}
use Rattle.moves.specs.Height.{depth, rise}
use Rattle.moves.specs.OpenKeys.{path_leads, turns_stay}

-- each number below n passes
unfoldable pub all_below : ℕ → (ℕ → Bool) → Bool
all_below zero test = true
all_below (suc n) test = test n && all_below n test

pub below_each : (n : ℕ) (test : ℕ → Bool) → all_below n test ≡ true → (x : ℕ) → x < n → test x ≡ true
unfolding all_below
below_each zero test all x within = absurd (omega arith)
below_each (suc n) test all x within = search (rules, and_parts, cases_order, (below_each n test))

-- the cells of a state lie from two rows below its upright height to one above
unfoldable pub is_level : Piece → Rotation → Cell → Bool
is_level piece rotation cell = int_le (minus 2) (cell.1 -ℤ rise piece rotation) && int_le (cell.1 -ℤ rise piece rotation) (pos 1)

pub shape_level : (piece : Piece) (rotation : Rotation) → list_all (is_level piece rotation) (shape piece rotation) ≡ true
unfolding is_level
shape_level = each_state (λ p r. list_all (is_level p r) (shape p r)) refl

-- and no more rows below it than the depth
unfoldable pub is_not_deep : Piece → Rotation → Cell → Bool
is_not_deep piece rotation cell = int_le (minus (depth piece)) (cell.1 -ℤ rise piece rotation)

pub shape_not_deep : (piece : Piece) (rotation : Rotation) → list_all (is_not_deep piece rotation) (shape piece rotation) ≡ true
unfolding is_not_deep
shape_not_deep = each_state (λ p r. list_all (is_not_deep p r) (shape p r)) refl

pub depth_small : (piece : Piece) → (nat_le 1 (depth piece) && nat_le (depth piece) 2) ≡ true
depth_small = each_piece (λ p. nat_le 1 (depth p) && nat_le (depth p) 2) refl

-- in the open both turns succeed and keep the upright height
pub turns_kept : (piece : Piece) (rotation : Rotation) (x : ℕ) → x < 10 → turns_stay piece rotation x ≡ true
unfolding all_below
turns_kept piece rotation = below_each 10 (turns_stay piece rotation) (each_state (λ p r. all_below 10 (turns_stay p r)) refl piece rotation)

-- and the path leads to each rotation and column that are inside
pub paths_lead : (piece : Piece) (rotation : Rotation) (x : ℕ) → x < 10 → path_leads piece rotation x ≡ true
unfolding all_below
paths_lead piece rotation = below_each 10 (path_leads piece rotation) (each_state (λ p r. all_below 10 (path_leads p r)) refl piece rotation)
