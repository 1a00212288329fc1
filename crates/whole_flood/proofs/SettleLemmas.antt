-- One rotation is settled: its pivots spread, and then turn both ways.
use Rattle.std.proofs.Common.{◌≡◌, ℕ, true, false, ◌==◌, pos, Some, sym, ap, subst, ◌∙◌, inl, inr, rules}
use Rattle.std.specs.Prelude.{IsTrue}
use Rattle.std.proofs.lemmas.Bool.{or_cases, or_left, or_right, false≢true}
use Rattle.lane_board.specs.Field.{Field, empty_field, union}
use Rattle.srs.specs.declared.piece.Piece.{Piece}
use Rattle.srs.specs.declared.rotation.Rotation.{Rotation}
use Rattle.srs.specs.declared.placement.Placement.{Placement}
use Rattle.srs.specs.Cells.{minus}
use Rattle.srs.specs.Rotation.{rotation_index, clockwise_of, anticlockwise_of}
use Rattle.srs.specs.Kick.{Table, kicks_of}
use Rattle.moves.specs.declared.key.Key.{Key}
use Rattle.moves.specs.declared.key.Key.TheVariants.{Left, Right, Down, Clockwise, Anti}
use Rattle.moves.specs.declared.key.DropMode.{DropMode}
use Rattle.moves.specs.Keys.{allows}
use Rattle.place_sets.specs.declared.spreading.Shifts.{Shifts}
use Rattle.place_sets.specs.States.{States, has_state, states_with, Includes}
use Rattle.place_sets.specs.Shifts.{IsSpread}
use Rattle.whole_flood.specs.Flood.{shifts_in, Ground, IsReached, AreReached, IsSettled, turned_in, step_in}
use Rattle.whole_flood.specs.Kicks.{turned_from}
use Rattle.place_sets.proofs.CallerLemmas.{LiesWithin, state_of, with_here, with_other, includes_with, includes_trans, spread-has}
use Rattle.whole_flood.proofs.ReachedLemmas.{field_of_reached, with_reached, one_more, first_in-lands, LandsAt}
use Rattle.whole_flood.proofs.SpreadReached.{spread-reached, shifts_to, left-stays, right-stays, down-stays}
use Rattle.whole_flood.proofs.TurnLemmas.{Arrives, arrives, reaches}

-- a key that turns from one rotation to another
record IsTurn (key : Key) (from to : Rotation) : Type 0 where
  allowed : (mode : DropMode) → IsTrue (allows mode key)
  apart : (rotation_index from == rotation_index to) ≡ false
  step : (table : Table) (free : States) (piece : Piece) (x y : ℕ) → step_in table free (state_of piece from x y) key ≡ turned_in table free (state_of piece from x y) to

clockwise_turn : (r : Rotation) → IsTurn Clockwise r (clockwise_of r)
clockwise_turn r = search rules

anti_turn : (r : Rotation) → IsTurn Anti r (anticlockwise_of r)
anti_turn r = search rules

module _ (N : ℕ) (ground : Ground) (lies : (r : Rotation) → LiesWithin (ground.free r) N) where
  abbrev arrivals : Rotation → Rotation → States → Field
  arrivals from to S = turned_from (ground.free to) N (kicks_of ground.table ground.piece from to) (S from) empty_field

  -- the set with what a turn reaches
  abbrev pub turn_of : Rotation → Rotation → States → States
  turn_of from to S = states_with S to (union (S to) (arrivals from to S))

  turn-has : (from to : Rotation) (S : States) → Includes (turn_of from to S) S
  unfolding union
  turn-has from to S = includes_with S to _ (record { has = λ x y filled. or_left _ _ filled })

  turn-here : (key : Key) (from to : Rotation) (S : States) → IsTurn key from to → turn_of from to S from ≡ S from
  turn-here key from to S is = with_other S to from _ is.apart

  turn-reached : (key : Key) (from to : Rotation) (start S : States) → IsTurn key from to → LiesWithin (S from) N → AreReached ground start S → AreReached ground start (turn_of from to S)
  unfolding union turned_in empty_field
  turn-reached key from to start S is within all =
      with_reached ground start S to _ all (record {
        reached = λ x y filled. elim (or_cases (S to x y) (arrivals from to S x y) filled) [
          | inl old ↦ (field_of_reached ground start S to all).reached x y old
          | inr new ↦ search (rules, arrives, false≢true, arrived)
        ];
      })
    where
      arrived : (x y : ℕ) → Arrives ground.free N ground.piece to (lies to) (S from) (kicks_of ground.table ground.piece from to) x y → IsReached ground start (state_of ground.piece to x y)
      arrived x y way = one_more ground start (state_of ground.piece from way.from_x way.from_y) key (state_of ground.piece to x y)
          ((field_of_reached ground start S from all).reached way.from_x way.from_y way.filled) (is.allowed ground.mode)
          (is.step ground.table ground.free ground.piece way.from_x way.from_y ∙ way.first)

  turn-covers : (key : Key) (from to : Rotation) (S : States) (a b : ℕ) (t : Placement) → IsTurn key from to → LiesWithin (S from) N → S from a b ≡ true → step_in ground.table ground.free (state_of ground.piece from a b) key ≡ Some t → has_state (turn_of from to S) t ≡ true
  unfolding union turned_in has_state
  turn-covers key from to S a b t is within filled e =
      let f = sym (is.step ground.table ground.free ground.piece a b) ∙ e in
      let lands : LandsAt ground.free ground.piece to t = first_in-lands ground.free ground.piece to _ t f in
      let there : arrivals from to S t.x t.y ≡ true = reaches ground.free N ground.piece to (lies to) (kicks_of ground.table ground.piece from to) (S from) empty_field a b t within filled f in
      subst (λ r. turn_of from to S r t.x t.y ≡ true) (sym lands.turn)
      (ap (λ (F : Field). F t.x t.y) (with_here S to (union (S to) (arrivals from to S))) ∙ or_right (S to t.x t.y) _ there)

  module _ (r : Rotation) (S : States) (wide : Field) (within : LiesWithin wide N) (spread : IsSpread (shifts_in ground.mode) N (ground.free r) (S r) wide) where
    abbrev pub first : States
    first = states_with S r wide

    abbrev pub second : States
    second = turn_of r (clockwise_of r) first

    abbrev pub third : States
    third = turn_of r (anticlockwise_of r) second

    first-here : first r ≡ wide
    first-here = with_here S r wide

    second-here : second r ≡ wide
    second-here = turn-here Clockwise r (clockwise_of r) first (clockwise_turn r) ∙ first-here

    third-here : third r ≡ wide
    third-here = turn-here Anti r (anticlockwise_of r) second (anti_turn r) ∙ second-here

    first-has : Includes first S
    first-has = includes_with S r wide (spread-has (shifts_in ground.mode) N (ground.free r) (S r) wide spread)

    third-has : Includes third second
    third-has = turn-has r (anticlockwise_of r) second

    in_third : (t : Placement) (a b : ℕ) → t ≡ state_of ground.piece r a b → wide a b ≡ true → has_state third t ≡ true
    unfolding has_state
    in_third t a b is filled = subst (λ t. has_state third t ≡ true) (sym is) (ap (λ (F : Field). F a b) third-here ∙ filled)

    covered : (a b : ℕ) → wide a b ≡ true → (key : Key) (t : Placement) → IsTrue (allows ground.mode key) → step_in ground.table ground.free (state_of ground.piece r a b) key ≡ Some t → has_state third t ≡ true
    covered a b filled Left t allowed e =
        let to = shifts_to ground.free (state_of ground.piece r a b) (minus 1, pos 0) t e in
        in_third t t.x t.y to.is (left-stays N ground.free r (lies r) (S r) wide ground.mode a b t.x t.y spread filled to.there to.is_free)
    covered a b filled Right t allowed e =
        let to = shifts_to ground.free (state_of ground.piece r a b) (pos 1, pos 0) t e in
        in_third t t.x t.y to.is (right-stays N ground.free r (lies r) (S r) wide ground.mode a b t.x t.y spread filled to.there to.is_free)
    covered a b filled Down t allowed e =
        let to = shifts_to ground.free (state_of ground.piece r a b) (pos 0, minus 1) t e in
        in_third t t.x t.y to.is (down-stays N ground.free r (lies r) (S r) wide ground.mode a b t.x t.y allowed spread filled to.there to.is_free)
    covered a b filled Clockwise t allowed e =
        third-has.has t (turn-covers Clockwise r (clockwise_of r) first a b t (clockwise_turn r)
        (subst (λ F. LiesWithin F N) (sym first-here) within) (ap (λ (F : Field). F a b) first-here ∙ filled) e)
    covered a b filled Anti t allowed e =
        turn-covers Anti r (anticlockwise_of r) second a b t (anti_turn r)
        (subst (λ F. LiesWithin F N) (sym second-here) within) (ap (λ (F : Field). F a b) second-here ∙ filled) e

    same : (s : Placement) → s.piece ≡ ground.piece → s.rotation ≡ r → state_of ground.piece r s.x s.y ≡ s
    same s kind turn = λ i. record { piece = sym kind i; rotation = sym turn i; x = s.x; y = s.y }

    pub settled : IsSettled ground r S third
    unfolding has_state
    settled = record {
      kept = includes_trans S first third first-has (includes_trans first second third (turn-has r (clockwise_of r) first) third-has);
      sound = λ start all.
          let wide_reached = spread-reached ground start r N (S r) wide spread (field_of_reached ground start S r all) in
          let one = with_reached ground start S r wide all wide_reached in
          let two = turn-reached Clockwise r (clockwise_of r) start first (clockwise_turn r) (subst (λ F. LiesWithin F N) (sym first-here) within) one in
          turn-reached Anti r (anticlockwise_of r) start second (anti_turn r) (subst (λ F. LiesWithin F N) (sym second-here) within) two;
      covers = λ s kind turn held. record {
        covered = λ key t allowed e. covered s.x s.y (wide_has s turn held) key t allowed
            (ap (λ s. step_in ground.table ground.free s key) (same s kind turn) ∙ e);
      };
    }
      where
        wide_has : (s : Placement) → s.rotation ≡ r → has_state third s ≡ true → wide s.x s.y ≡ true
        wide_has s turn held = ap (λ (F : Field). F s.x s.y) (sym third-here) ∙ subst (λ r. third r s.x s.y ≡ true) turn held

-- the same, with each value that the code finds given by its equation
pub settled_by : (N : ℕ) (ground : Ground) (lies : (r : Rotation) → LiesWithin (ground.free r) N) (r : Rotation) (S : States) (shifts : Shifts) (F B wide : Field) (S1 S2 S3 : States) →
    shifts ≡ shifts_in ground.mode → F ≡ ground.free r → B ≡ S r → IsSpread shifts N F B wide → LiesWithin wide N →
    S1 ≡ states_with S r wide → S2 ≡ turn_of N ground lies r (clockwise_of r) S1 → S3 ≡ turn_of N ground lies r (anticlockwise_of r) S2 → IsSettled ground r S S3
settled_by N ground lies r S shifts F B wide S1 S2 S3 e f b spread within one two three = search (rules, (ground.free r), (settled N ground lies r S wide within))
