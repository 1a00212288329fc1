-- What spreads from reached pivots is reached by keys, and no key leads out of what has spread.
use Rattle.std.proofs.Common.{◌≡◌, ℕ, zero, suc, true, pos, Some, refl, sym, subst, ◌∙◌, inl, inr, ◌⊎◌, rules}
use Rattle.std.specs.Prelude.{IsTrue}
use Rattle.std.proofs.lemmas.Bool.{cases_Bool, or_cases, or_left, or_right, cond-true, cond-false, false≢true}
use Rattle.lane_board.specs.Field.{Field, union, moved_within}
use Rattle.srs.specs.declared.piece.Piece.{Piece}
use Rattle.srs.specs.declared.rotation.Rotation.{Rotation}
use Rattle.srs.specs.declared.placement.Placement.{Placement}
use Rattle.srs.specs.Cells.{Cell, minus, moved, pivot_of}
use Rattle.srs.specs.Kick.{Table}
use Rattle.moves.specs.declared.key.Key.{Key}
use Rattle.moves.specs.declared.key.Key.TheVariants.{Down}
use Rattle.moves.specs.declared.key.DropMode.{DropMode}
use Rattle.moves.specs.declared.key.DropMode.TheVariants.{Soft, Hard}
use Rattle.moves.specs.Keys.{allows}
use Rattle.moves.specs.Step.{state_at}
use Rattle.moves.proofs.CallerLemmas.{not_some}
use Rattle.place_sets.specs.States.{States}
use Rattle.place_sets.specs.Shifts.{sideways, lower, neighbours, widened, widened_by, IsSpread}
use Rattle.whole_flood.specs.Flood.{shifts_in, Ground, IsReached, first_in, shifted_in, step_in}
use Rattle.place_sets.proofs.CallerLemmas.{LiesWithin, MovedFrom, moved_from, moved_to, state_of, PivotAt, pivot_at, has_pivot-at, still-has, widened-from}
use Rattle.whole_flood.proofs.ReachedLemmas.{FieldReached, one_more}
use Rattle.srs.proofs.CallerLemmas.{some_same}

-- how a key moves the pivot within a rotation
pub record Shifted (table : Table) (mode : DropMode) (S : Field) (x y : ℕ) : Type 0 where
  pub key : Key
  pub move : Cell
  pub allowed : IsTrue (allows mode key)
  pub from : MovedFrom S move x y
  pub step : (free : States) (s : Placement) → step_in table free s key ≡ shifted_in free s move

sideways-from : (table : Table) (mode : DropMode) (N : ℕ) (S : Field) (x y : ℕ) → sideways N S x y ≡ true → Shifted table mode S x y
unfolding sideways union
sideways-from table mode N S x y beside =
    search (rules, (or_cases (moved_within S N (minus 1) (pos 0) x y)), (moved_from S N (minus 1, pos 0) x y), (moved_from S N (pos 1, pos 0) x y))

lower-from : (table : Table) (N : ℕ) (S : Field) (x y : ℕ) → lower N S x y ≡ true → Shifted table Soft S x y
unfolding lower
lower-from table N S x y beside = record { key = Down; move = (pos 0, minus 1); allowed = refl; from = moved_from S N (pos 0, minus 1) x y beside; step = λ free s. refl }

neighbours-from : (table : Table) (mode : DropMode) (N : ℕ) (S : Field) (x y : ℕ) → neighbours (shifts_in mode) N S x y ≡ true → Shifted table mode S x y
unfolding union
neighbours-from table Hard N S x y beside = sideways-from table Hard N S x y beside
neighbours-from table Soft N S x y beside = search (rules, or_cases, sideways-from, lower-from)

-- a free pivot to which a move leads
shifted_to : (free : States) (piece : Piece) (rotation : Rotation) (move : Cell) (a b x y : ℕ) → moved (pos a, pos b) move ≡ (pos x, pos y) → free rotation x y ≡ true → shifted_in free (state_of piece rotation a b) move ≡ Some (state_of piece rotation x y)
unfolding shifted_in first_in
shifted_to free piece rotation move a b x y there is_free = search (rules, cond-true, (has_pivot-at free rotation))

-- what spreads from reached pivots is reached
pub widened-reached : (ground : Ground) (start : States) (rotation : Rotation) (N : ℕ) (S : Field) → FieldReached ground start rotation S → FieldReached ground start rotation (widened (shifts_in ground.mode) N (ground.free rotation) S)
widened-reached ground start rotation N S all = record { reached = λ x y wide. at x y (widened-from (shifts_in ground.mode) N (ground.free rotation) S x y wide) }
  where
    at : (x y : ℕ) → (S x y ≡ true) ⊎ ((ground.free rotation x y ≡ true) × (neighbours (shifts_in ground.mode) N S x y ≡ true)) → IsReached ground start (state_of ground.piece rotation x y)
    at x y (inl old) = all.reached x y old
    at x y (inr new) =
        let way = neighbours-from ground.table ground.mode N S x y new.1 in
        one_more ground start (state_of ground.piece rotation way.from.from_x way.from.from_y) way.key (state_of ground.piece rotation x y)
        (all.reached way.from.from_x way.from.from_y way.from.filled) way.allowed
        (way.step ground.free (state_of ground.piece rotation way.from.from_x way.from.from_y) ∙ shifted_to ground.free ground.piece rotation way.move way.from.from_x way.from.from_y x y way.from.there new.0)

pub widened_by-reached : (ground : Ground) (start : States) (rotation : Rotation) (N rounds : ℕ) (S : Field) → FieldReached ground start rotation S → FieldReached ground start rotation (widened_by rounds (shifts_in ground.mode) N (ground.free rotation) S)
unfolding widened_by
widened_by-reached ground start rotation N zero S all = all
widened_by-reached ground start rotation N (suc rounds) S all = widened-reached ground start rotation N _ (widened_by-reached ground start rotation N rounds S all)

pub spread-reached : (ground : Ground) (start : States) (rotation : Rotation) (N : ℕ) (S result : Field) → IsSpread (shifts_in ground.mode) N (ground.free rotation) S result → FieldReached ground start rotation S → FieldReached ground start rotation result
spread-reached ground start rotation N S result spread all = subst (FieldReached ground start rotation) (sym spread.grown) (widened_by-reached ground start rotation N spread.rounds S all)

-- where a move within the rotation leads
pub record ShiftsTo (free : States) (s : Placement) (move : Cell) (t : Placement) : Type 0 where
  pub is : t ≡ state_of s.piece s.rotation t.x t.y
  pub there : moved (pivot_of s) move ≡ (pos t.x, pos t.y)
  pub is_free : free s.rotation t.x t.y ≡ true

pub shifts_to : (free : States) (s : Placement) (move : Cell) (t : Placement) → shifted_in free s move ≡ Some t → ShiftsTo free s move t
unfolding shifted_in first_in
shifts_to free s move t e = search (rules, cases_Bool, pivot_at, cond-true, not_some, cond-false, at)
  where
    at : PivotAt (free s.rotation) (moved (pivot_of s) move) → state_at s.piece s.rotation (moved (pivot_of s) move) ≡ Some t → ShiftsTo free s move t
    at pivot f = search (rules, some_same)

-- a set that is spread has each free pivot to which an allowed move leads from it
module _ (N : ℕ) (free : States) (r : Rotation) (lies : LiesWithin (free r) N) (S result : Field) where
  beside : (move : Cell) (a b x y : ℕ) → result a b ≡ true → moved (pos a, pos b) move ≡ (pos x, pos y) → free r x y ≡ true → moved_within result N move.0 move.1 x y ≡ true
  beside move a b x y filled there is_free =
      let inside = lies.inside x y is_free in
      moved_to result N move a b x y filled there inside.0 inside.1

  pub left-stays : (mode : DropMode) (a b x y : ℕ) → IsSpread (shifts_in mode) N (free r) S result → result a b ≡ true → moved (pos a, pos b) (minus 1, pos 0) ≡ (pos x, pos y) → free r x y ≡ true → result x y ≡ true
  unfolding sideways union
  left-stays Hard a b x y spread filled there is_free = still-has _ N (free r) S result spread x y is_free (or_left _ _ (beside (minus 1, pos 0) a b x y filled there is_free))
  left-stays Soft a b x y spread filled there is_free = still-has _ N (free r) S result spread x y is_free (or_left _ _ (or_left _ _ (beside (minus 1, pos 0) a b x y filled there is_free)))

  pub right-stays : (mode : DropMode) (a b x y : ℕ) → IsSpread (shifts_in mode) N (free r) S result → result a b ≡ true → moved (pos a, pos b) (pos 1, pos 0) ≡ (pos x, pos y) → free r x y ≡ true → result x y ≡ true
  unfolding sideways union
  right-stays Hard a b x y spread filled there is_free = still-has _ N (free r) S result spread x y is_free (or_right _ _ (beside (pos 1, pos 0) a b x y filled there is_free))
  right-stays Soft a b x y spread filled there is_free = still-has _ N (free r) S result spread x y is_free (or_left _ _ (or_right _ _ (beside (pos 1, pos 0) a b x y filled there is_free)))

  pub down-stays : (mode : DropMode) (a b x y : ℕ) → IsTrue (allows mode Down) → IsSpread (shifts_in mode) N (free r) S result → result a b ≡ true → moved (pos a, pos b) (pos 0, minus 1) ≡ (pos x, pos y) → free r x y ≡ true → result x y ≡ true
  unfolding lower union
  down-stays Hard a b x y allowed spread filled there is_free = absurd (false≢true allowed)
  down-stays Soft a b x y allowed spread filled there is_free = still-has _ N (free r) S result spread x y is_free (or_right _ _ (beside (pos 0, minus 1) a b x y filled there is_free))
