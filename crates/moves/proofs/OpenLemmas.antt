-- Keys in the open do what the model says.
use Rattle.std.proofs.Common.{◌&&◌, ◌≡◌, ℕ, ◌+◌, ◌≤◌, Bool, true, ℤ, pos, negsuc, ◌+ℤ◌, ◌-ℤ◌, ◌≤ℤ◌, Option, Some, None, List, [], ◌∷◌, map, refl, sym, ap, subst, ◌∙◌, arith, rules}
use Rattle.std.specs.Prelude.{int_le, nat_le, option_and_then}
use Rattle.std.specs.Ordering.{int_eq}
use Rattle.std.specs.List.{list_all}
use Rattle.std.proofs.lemmas.Int.{ints}
use Rattle.std.proofs.lemmas.Bool.{and_parts, and_from, cases_Bool, cond-true, cond-false, false≢true, leb-true, false_from_ne_true, both_ways}
use Rattle.std.proofs.lemmas.List.Folds.{list_all-map}
use Rattle.lane_board.specs.Field.{Field}
use Rattle.srs.specs.declared.piece.Piece.{Piece}
use Rattle.srs.specs.declared.rotation.Rotation.{Rotation}
use Rattle.srs.specs.declared.placement.Placement.{Placement}
use Rattle.srs.specs.Cells.{Cell, minus, moved, shape}
use Rattle.srs.specs.Kick.{srs_table, kicks_of}
use Rattle.srs.specs.Rotation.{clockwise_of, anticlockwise_of}
use Rattle.well.specs.Free.{is_open, is_free_at}
use Rattle.well.proofs.CallerLemmas.{open_at, open_in_well}
use Rattle.well.specs.LockLaws.{LiesBelow}
use Rattle.moves.specs.declared.key.Key.{Key}
use Rattle.moves.specs.declared.key.Key.TheVariants.{Left, Right, Down, Clockwise, Anti}
use Rattle.moves.specs.Step.{state_at, first_free, shifted, turned, step_of}
use Rattle.moves.specs.Walk.{led}
use Rattle.moves.proofs.WalkLemmas.{not_some}
use Rattle.moves.specs.Height.{depth, rise, is_column, fits_column}
use Rattle.moves.specs.OpenKeys.{Spot, spot_in, first_fitting, level_kick, open_turn, open_shift, open_key, open_led}
use Rattle.srs.proofs.CallerLemmas.{some_same, int_le-true}
use Rattle.moves.proofs.TableFacts.{is_level, shape_level, is_not_deep, shape_not_deep, depth_small}

-- what holds of all by two tests holds by one that follows from them
all_both : (p q t : Cell → Bool) (xs : List Cell) → ((c : Cell) → p c ≡ true → q c ≡ true → t c ≡ true) → list_all p xs ≡ true → list_all q xs ≡ true → list_all t xs ≡ true
all_both p q t [] so all_p all_q = refl
all_both p q t (c ∷ cs) so all_p all_q = search (rules, and_parts, and_from, (all_both p q t cs so))

pub all_so : (p t : Cell → Bool) (xs : List Cell) → ((c : Cell) → p c ≡ true → t c ≡ true) → list_all p xs ≡ true → list_all t xs ≡ true
all_so p t xs so all = all_both p p t xs (λ c h k. so c h) all all

-- a number that is not negative
pub record IsNatural (z : ℤ) : Type 0 where
  pub n : ℕ
  pub is : z ≡ pos n

pub natural : (z : ℤ) → pos 0 ≤ℤ z → IsNatural z
natural z h = search rules

pub record IsColumn (z : ℤ) : Type 0 where
  pub n : ℕ
  pub is : z ≡ pos n
  pub within : n ≤ 9

pub column : (z : ℤ) → is_column z ≡ true → IsColumn z
column z h = search (rules, leb-true, false≢true)

cells_same : (a b c d : ℤ) → a ≡ c → b ≡ d → ◌≡◌ {A = Cell} (a, b) (c, d)
cells_same a b c d e f = λ i. (e i, f i)

-- an open cell lies in a column of the well
open_column : (F : Field) (cell : Cell) → is_open F cell ≡ true → is_column cell.0 ≡ true
open_column F cell opened = search (rules, and_parts, open_in_well, false≢true)

-- a free piece fits the columns
pub free_fits : (F : Field) (piece : Piece) (rotation : Rotation) (pivot : Cell) → is_free_at F piece rotation pivot ≡ true → fits_column piece rotation pivot.0 ≡ true
unfolding is_free_at moved
free_fits F piece rotation pivot free = search (rules, all_so, open_column, list_all-map)

-- where one step after another gives something, each does
record Passes {A B : Type 0} (f : A → Option B) (o : Option A) (b : B) : Type 0 where
  a : A
  is : o ≡ Some a
  gives : f a ≡ Some b

and_then_some : {A B : Type 0} (f : A → Option B) (o : Option A) (b : B) → option_and_then f o ≡ Some b → Passes f o b
and_then_some f o b e = search (rules, not_some)

open_none : (piece : Piece) (keys : List Key) → open_led piece None keys ≡ None
open_none piece [] = refl
open_none piece (key ∷ keys) = open_none piece keys

-- an upright height in the open above row r
pub record IsOpenHeight (piece : Piece) (r h : ℕ) : Type 0 where
  pub low : r + depth piece ≤ h
  pub high : h ≤ 20

pub record IsDepth (piece : Piece) : Type 0 where
  pub some : 1 ≤ depth piece
  pub few : depth piece ≤ 2

pub depth_is : (piece : Piece) → IsDepth piece
depth_is piece = let parts = and_parts (nat_le 1 (depth piece)) (nat_le (depth piece) 2) (depth_small piece) in record { some = leb-true 1 (depth piece) parts.0; few = leb-true (depth piece) 2 parts.1 }

pub open_height : (piece : Piece) (r h : ℕ) → r + 2 ≤ h → h ≤ 20 → IsOpenHeight piece r h
open_height piece r h low high = record { low = omega (arith, (depth_is piece).few); high = high }

module _ (F : Field) (r : ℕ) (clear : LiesBelow F r) (h : ℕ) (piece : Piece) (room : IsOpenHeight piece r h) where
  -- there each piece that fits the columns is free
  open_cell : (rotation : Rotation) (pivot c : Cell) → pivot.1 +ℤ rise piece rotation ≡ pos h → is_column (pivot.0 +ℤ c.0) ≡ true → (is_level piece rotation c && is_not_deep piece rotation c) ≡ true → is_open F (moved pivot c) ≡ true
  unfolding moved is_level is_not_deep
  open_cell rotation pivot c height in_columns in_both =
      let both = and_parts (is_level piece rotation c) (is_not_deep piece rotation c) in_both in
      let in_rows = both.0 in
      let under = int_le-true (minus (depth piece)) (c.1 -ℤ rise piece rotation) both.1 in
      let x = column (pivot.0 +ℤ c.0) in_columns in
      let rows = and_parts (int_le (minus 2) (c.1 -ℤ rise piece rotation)) (int_le (c.1 -ℤ rise piece rotation) (pos 1)) in_rows in
      let low = int_le-true (minus 2) (c.1 -ℤ rise piece rotation) rows.0 in
      let high = int_le-true (c.1 -ℤ rise piece rotation) (pos 1) rows.1 in
      let y = natural (pivot.1 +ℤ c.1) (omega (arith, ints, room.low)) in
      search (rules, (open_at F (moved pivot c) x.n y.n), cells_same)

  pub open_free : (rotation : Rotation) (pivot : Cell) → pivot.1 +ℤ rise piece rotation ≡ pos h → fits_column piece rotation pivot.0 ≡ true → is_free_at F piece rotation pivot ≡ true
  unfolding is_free_at
  open_free rotation pivot height fits =
      list_all-map (is_open F) (moved pivot) (shape piece rotation)
      ∙ all_both (λ (c : Cell). is_column (pivot.0 +ℤ c.0)) (λ c. is_level piece rotation c && is_not_deep piece rotation c) (λ c. is_open F (moved pivot c)) (shape piece rotation) (λ c. open_cell rotation pivot c height) fits
      (all_both (is_level piece rotation) (is_not_deep piece rotation) (λ c. is_level piece rotation c && is_not_deep piece rotation c) (shape piece rotation) (λ c h k. and_from _ _ h k) (shape_level piece rotation) (shape_not_deep piece rotation))

  -- the state in a rotation and column
  abbrev pub state : Rotation → ℕ → ℕ → Placement
  state rotation x y = record { piece = piece; rotation = rotation; x = x; y = y }

  -- tests that leave the columns fail, and the first that does not is taken
  first_taken : (to : Rotation) (pivot : Cell) (kicks : List Cell) (kick : Cell) → first_fitting piece to pivot.0 kicks ≡ Some kick → is_free_at F piece to (moved pivot kick) ≡ true → first_free F piece to (map (moved pivot) kicks) ≡ state_at piece to (moved pivot kick)
  unfolding first_free moved
  first_taken to pivot [] kick e free = absurd (not_some e)
  first_taken to pivot (k ∷ ks) kick e free =
      search (rules, cases_Bool, some_same, cond-true, cond-false, false_from_ne_true, both_ways, free_fits, (first_taken to pivot ks kick))

  -- a free pivot at the height
  record Lands (to : Rotation) (pivot : Cell) (spot : Spot) : Type 0 where
    row : ℕ
    lands : state_at piece to pivot ≡ Some (state spot.0 spot.1 row)
    height : pos row +ℤ rise piece spot.0 ≡ pos h

  lands_at : (to : Rotation) (pivot : Cell) (spot : Spot) → pivot.1 +ℤ rise piece to ≡ pos h → spot_in piece to pivot.0 ≡ Some spot → Lands to pivot spot
  lands_at to (pos x, z) spot height e = search (rules, (natural z), (depth_is piece), (some_same e))
  lands_at to (negsuc x, z) spot height e = absurd (not_some e)

  -- what is found is the state of a spot at the height
  pub record Goes (found : Option Placement) (to : Spot) : Type 0 where
    pub row : ℕ
    pub is : found ≡ Some (state to.0 to.1 row)
    pub height : pos row +ℤ rise piece to.0 ≡ pos h

  goes : (found : Option Placement) (to : Rotation) (pivot : Cell) (spot : Spot) → found ≡ state_at piece to pivot → pivot.1 +ℤ rise piece to ≡ pos h → spot_in piece to pivot.0 ≡ Some spot → Goes found spot
  goes found to pivot spot e height at = let there = lands_at to pivot spot height at in record { row = there.row; is = e ∙ there.lands; height = there.height }

  shift_goes : (rotation : Rotation) (x y : ℕ) (dx : ℤ) (to : Spot) → pos y +ℤ rise piece rotation ≡ pos h → open_shift piece rotation (pos x +ℤ dx) ≡ Some to → Goes (shifted F (state rotation x y) (dx, pos 0)) to
  unfolding shifted first_free moved
  shift_goes rotation x y dx to height e =
      search (rules, (cases_Bool (fits_column piece rotation (pos x +ℤ dx))), (goes (shifted F (state rotation x y) (dx, pos 0)) rotation (pos x +ℤ dx, pos y +ℤ pos 0) to), cond-true, (open_free rotation (pos x +ℤ dx, pos y +ℤ pos 0)), not_some, cond-false)

  -- the kick that a turn in the open takes
  record IsKick (from to : Rotation) (x : ℕ) (kick : Cell) : Type 0 where
    first : first_fitting piece to (pos x) (kicks_of srs_table piece from to) ≡ Some kick
    keeps : kick.1 +ℤ rise piece to ≡ rise piece from

  level_keeps : (from to : Rotation) (kick taken : Cell) → level_kick piece from to kick ≡ Some taken → (kick ≡ taken) × (kick.1 +ℤ rise piece to ≡ rise piece from)
  level_keeps from to kick taken e =
      search (rules, (cases_Bool (int_eq (kick.1 +ℤ rise piece to) (rise piece from))), some_same, cond-true, (kick.1 +ℤ rise piece to), not_some, cond-false)

  is_kick : (from to : Rotation) (x : ℕ) (kick : Cell) → open_turn piece from to x ≡ Some kick → IsKick from to x kick
  is_kick from to x kick e =
      let parts = and_then_some (level_kick piece from to) (first_fitting piece to (pos x) (kicks_of srs_table piece from to)) kick e in
      search (rules, (level_keeps from to parts.a kick parts.gives))

  fitting_fits : (to : Rotation) (x : ℤ) (kicks : List Cell) (kick : Cell) → first_fitting piece to x kicks ≡ Some kick → fits_column piece to (x +ℤ kick.0) ≡ true
  fitting_fits to x [] kick e = absurd (not_some e)
  fitting_fits to x (k ∷ ks) kick e =
      search (rules, cases_Bool, some_same, cond-true, cond-false, (fitting_fits to x ks kick))

  turn_goes : (from to : Rotation) (x y : ℕ) (spot : Spot) → pos y +ℤ rise piece from ≡ pos h → option_and_then (λ (kick : Cell). spot_in piece to (pos x +ℤ kick.0)) (open_turn piece from to x) ≡ Some spot → Goes (turned srs_table F (state from x y) to) spot
  unfolding turned moved
  turn_goes from to x y spot height e =
      let parts = and_then_some (λ (kick : Cell). spot_in piece to (pos x +ℤ kick.0)) (open_turn piece from to x) spot e in
      let kick = parts.a in
      let is : IsKick from to x kick = is_kick from to x kick parts.is in
      let keeps = is.keeps in
      let still : (pos y +ℤ kick.1) +ℤ rise piece to ≡ pos h = omega (arith, ints) in
      let free = open_free to (pos x +ℤ kick.0, pos y +ℤ kick.1) still (fitting_fits to (pos x) (kicks_of srs_table piece from to) kick is.first) in
      goes (turned srs_table F (state from x y) to) to (pos x +ℤ kick.0, pos y +ℤ kick.1) spot (first_taken to (pos x, pos y) (kicks_of srs_table piece from to) kick is.first free) still parts.gives

  pub open_step : (rotation : Rotation) (x y : ℕ) (key : Key) (to : Spot) → pos y +ℤ rise piece rotation ≡ pos h → open_key piece (rotation, x) key ≡ Some to → Goes (step_of srs_table F (state rotation x y) key) to
  open_step rotation x y Left to height e = shift_goes rotation x y (minus 1) to height e
  open_step rotation x y Right to height e = shift_goes rotation x y (pos 1) to height e
  open_step rotation x y Down to height e = absurd (not_some e)
  open_step rotation x y Clockwise to height e = turn_goes rotation (clockwise_of rotation) x y to height e
  open_step rotation x y Anti to height e = turn_goes rotation (anticlockwise_of rotation) x y to height e

  -- and so do lists of keys
  pub open_leads : (keys : List Key) (rotation : Rotation) (x y : ℕ) (to : Spot) → pos y +ℤ rise piece rotation ≡ pos h → open_led piece (Some (rotation, x)) keys ≡ Some to → Goes (led (step_of srs_table F) (Some (state rotation x y)) keys) to
  open_leads [] rotation x y to height e =
      subst (λ (to : Spot). Goes (Some (state rotation x y)) to) (some_same e) (record { row = y; is = refl; height = height })
  open_leads (key ∷ keys) rotation x y to height e = next (open_key piece (rotation, x) key) refl (λ spot row there f. open_leads keys spot.0 spot.1 row to there f)
    where
      next : (o : Option Spot) → open_key piece (rotation, x) key ≡ o →
          ((spot : Spot) (row : ℕ) → pos row +ℤ rise piece spot.0 ≡ pos h → open_led piece (Some spot) keys ≡ Some to → Goes (led (step_of srs_table F) (Some (state spot.0 spot.1 row)) keys) to) →
          Goes (led (step_of srs_table F) (Some (state rotation x y)) (key ∷ keys)) to
      next None f later = absurd (not_some (sym (open_none piece keys) ∙ ap (λ (o : Option Spot). open_led piece o keys) (sym f) ∙ e))
      next (Some spot) f later =
          let one = open_step rotation x y key spot height f in
          let rest = later spot one.row one.height (ap (λ (o : Option Spot). open_led piece o keys) (sym f) ∙ e) in
          record { row = rest.row; is = ap (λ (o : Option Placement). led (step_of srs_table F) o keys) one.is ∙ rest.is; height = rest.height }
