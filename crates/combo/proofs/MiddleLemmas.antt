-- Walls in the outermost columns, and gaps in the four in the middle.
use Rattle.std.proofs.Common.{◌≡◌, ℕ, zero, suc, ◌+◌, ◌*◌, ◌/◌, ◌<◌, ◌≤◌, true, false, not, ◌&&◌, List, length, refl, arith, rules}
use Rattle.std.proofs.lemmas.Bool.Decides.{nat_tests}
use Rattle.std.proofs.lemmas.Bool.{and_from, both_ways, cases_Bool, cases_eq, false_from_ne_true, or_from, or_left, or_right}
use Rattle.srs.proofs.CallerLemmas.{and_first, and_second}
use Rattle.lane_board.specs.Field.{Field}
use Rattle.lane_board.specs.FullRows.{is_full}
use Rattle.lane_board.proofs.CallerLemmas.{cell_from_full}
use Rattle.srs.specs.declared.placement.Placement.{Placement}
use Rattle.srs.specs.Kick.{Table}
use Rattle.well.specs.Counts.{empties_below}
use Rattle.well.specs.Well.{filled}
use Rattle.well.specs.declared.well.Well.{Well}
use Rattle.well.proofs.CallerLemmas.{filled-within}
use Rattle.moves.specs.declared.key.DropMode.{DropMode}
use Rattle.combo.specs.Middle.{has_empty, has_gaps, has_three, is_gap, is_middle}
use Rattle.combo.specs.Room.{HasWalls, open_gaps}
use Rattle.problem.specs.Runs.{Runs}
use Rattle.combo.proofs.RoomLemmas.{runs_have_room}

-- no cell lies above the rows of a well
pub empty_from : (w : Well) (x height : ℕ) → ((y : ℕ) → height ≤ y → y < 23 → filled w x y ≡ false) → (y : ℕ) → height ≤ y → filled w x y ≡ false
empty_from w x height empty y above = false_from_ne_true _ (λ has. both_ways _ (empty y above (filled-within w x y has).1) has)

-- an empty cell below the height
pub has_empty-from : (F : Field) (x height y : ℕ) → y < height → F x y ≡ false → has_empty F x height ≡ true
unfolding has_empty
has_empty-from F x zero y below empty = absurd (omega (arith, below))
has_empty-from F x (suc n) y below empty =
    search (rules, (cases_eq y n), (or_right (has_empty F x n) (not (F x n))), (or_left (has_empty F x n) (not (F x n))), (has_empty-from F x n y))

pub has_empty-none : (F : Field) (x height : ℕ) → ((y : ℕ) → y < height → F x y ≡ true) → has_empty F x height ≡ false
unfolding has_empty
has_empty-none F x zero filled_below = refl
has_empty-none F x (suc n) filled_below = search (rules, (or_from (has_empty F x n) (not (F x n))), (has_empty-none F x n))

in_three : (F : Field) (x y : ℕ) → has_three F x y ≡ true → (F x y ≡ true) × (F (x + 1) y ≡ true) × (F (x + 2) y ≡ true)
in_three F x y three = search rules

-- an empty cell of a row with gaps lies in the middle
sides : (F : Field) (y : ℕ) → has_three F 0 y ≡ true → has_three F 7 y ≡ true → (x : ℕ) → x < 10 → F x y ≡ false → is_middle x ≡ true
sides F y left right h4 within empty = search (rules, both_ways, in_three)

module _ (F : Field) (y : ℕ) (gaps : has_gaps F y ≡ true) where
  gaps_in_middle : (x : ℕ) → x < 10 → F x y ≡ false → is_middle x ≡ true
  gaps_in_middle = let both = and_first (has_three F 0 y && has_three F 7 y) (not (has_three F 3 y && F 6 y)) gaps in
      sides F y (and_first (has_three F 0 y) (has_three F 7 y) both) (and_second (has_three F 0 y) (has_three F 7 y) both)

  not_full : is_full F y ≡ false
  unfolding is_full
  not_full =
      search (rules, (cases_Bool (is_full F y)), both_ways, (and_second (has_three F 0 y && has_three F 7 y) (not (has_three F 3 y && F 6 y)) gaps), (cell_from_full F))

-- a middle column is three or more away from the outermost ones
far : (x : ℕ) → is_middle x ≡ true → (3 ≤ x) × (x ≤ 6)
far x middle = (grind (arith, nat_tests), grind (arith, nat_tests))

pub between : (F : Field) (height : ℕ) → height ≤ 22 → ((y : ℕ) → y < height → has_gaps F y ≡ true) → ((y : ℕ) → height ≤ y → F 0 y ≡ false) → ((y : ℕ) → height ≤ y → F 9 y ≡ false)
    → HasWalls F (is_gap F height) height 0 9
between F height low gaps left right = search (rules, and_from, (gaps_in_middle F), (has_empty-from F), (not_full F), far, and_first)

pub most_by_room : (F : Field) (height below gaps : ℕ) → HasWalls F (is_gap F height) height 0 9 → below ≡ empties_below F height → gaps ≡ open_gaps F (is_gap F height) height
    → (table : Table) (mode : DropMode) (run : List Placement) → Runs table mode F run → length run ≤ (below + 3 * gaps) / 4
most_by_room F height below gaps walls empty counted table mode run runs = search (rules, (runs_have_room table mode F (is_gap F height) height 0 9 run walls runs))
