-- Places that leave no tiling have nothing to do, so they may be left out.
use Rattle.std.proofs.Common.{◌≡◌, ℕ, ◌-◌, ◌≤◌, Bool, true, false, not, ◌&&◌, List, [], ◌∷◌, ◌++◌, refl, sym, ap, ◌∙◌, arith, rules}
use Rattle.std.specs.Prelude.{Some, filter, if◌then◌else◌, min}
use Rattle.std.specs.List.{flat_map}
use Rattle.std.proofs.lemmas.Bool.{cases_Bool, cond-true, cond-false}
use Rattle.srs.specs.declared.piece.Piece.{Piece}
use Rattle.srs.specs.declared.placement.Placement.{Placement}
use Rattle.srs.specs.Kick.{Table}
use Rattle.srs.specs.Order.{placement_cmp}
use Rattle.srs.specs.Placements.{placements_of}
use Rattle.srs.specs.Rotation.{rotation_index}
use Rattle.srs.specs.Rising.{is_above}
use Rattle.srs.proofs.CallerLemmas.{filter-false, filter-true}
use Rattle.lane_board.specs.Words.{cells_of_words}
use Rattle.well.specs.LockLaws.{is_below}
use Rattle.well.specs.Well.{filled}
use Rattle.moves.specs.declared.key.DropMode.{DropMode}
use Rattle.place_sets.specs.declared.low_held.LowPlaces.{LowPlaces}
use Rattle.place_sets.specs.LowPlaces.{holds, piece_of}
use Rattle.prune.specs.OnePart.{less_one}
use Rattle.empty_cells.specs.Empties.{all_but, empty_cells, without_placement}
use Rattle.empty_cells.specs.HasTiling.{has_tiling, leaves_tiling}
use Rattle.empty_cells.specs.SupplyWords.{supply_of}
use Rattle.empty_cells.specs.declared.supply.SupplyWord.{SupplyWord}
use Rattle.empty_cells.proofs.CallerLemmas.{tiling_decided}
use Rattle.enumerate.specs.declared.frame.Frame.{Frame}
use Rattle.enumerate.specs.declared.setup.Setup.{Setup}
use Rattle.enumerate.specs.Events.{Event, entered, enter}
use Rattle.enumerate.specs.Frames.{places_left}
use Rattle.enumerate.specs.Setups.{LeadsOn, state_of}
use Rattle.enumerate.specs.Standing.{may_lock}
use Rattle.enumerate.specs.SearchState.{after_of, is_live}
use Rattle.enumerate.specs.Tries.{AreDead}
use Rattle.enumerate.proofs.PlaceLaws.{lockable_free, lockable-piece}
use Rattle.enumerate.proofs.TilingLaws.{left-tiled, live-after}
use Rattle.enumerate.proofs.TryLemmas.{enters-dead}

module _ (f : Placement → List Event) (a b : Placement → Bool) (same : (q : Placement) → (if a q then f q else []) ≡ (if b q then f q else [])) where
  first : (c : Placement → Bool) (q : Placement) (qs : List Placement) → flat_map f (filter c (q ∷ qs)) ≡ (if c q then f q else []) ++ flat_map f (filter c qs)
  first c q qs = search (rules, cases_Bool, filter-true, cond-true, filter-false, cond-false)

  flat_map-filters : (qs : List Placement) → flat_map f (filter a qs) ≡ flat_map f (filter b qs)
  flat_map-filters [] = refl
  flat_map-filters (q ∷ qs) = first a q qs ∙ (λ i. same q i ++ flat_map-filters qs i) ∙ sym (first b q qs)

without_dead : (held dead above : Bool) (events : List Event) → (held ≡ true → dead ≡ true → events ≡ []) → (if (held && not dead) && above then events else []) ≡ (if held && above then events else [])
without_dead held dead above events none = search rules

module _ (setup : Setup) (piece : Piece) (some : 1 ≤ setup.left) (supply : SupplyWord)
    (moves : (other : Piece) → supply_of supply other ≡ min setup.left (less_one (supply_of setup.supply) piece other)) where
  -- the state after a placement is live where what it leaves has a tiling
  after-tiled : (q : Placement) → q.piece ≡ piece → may_lock (filled setup.well) piece q ≡ true → is_below setup.rows q ≡ true → (table : Table) (mode : DropMode) →
      is_live (setup.left - 1) (after_of (state_of table mode setup) q) ≡ leaves_tiling (empty_cells setup.empties) q (supply_of supply)
  after-tiled q of_kind lockable below table mode =
      let E = without_placement (empty_cells setup.empties) q in
      live-after table mode setup q (supply_of supply) (λ other. moves other ∙ ap (λ (p : Piece). min setup.left (less_one (supply_of setup.supply) p other)) (sym of_kind)) (setup.left - 1) (omega (arith, some))
      ∙ sym (left-tiled (filled setup.well) E setup.rows q (supply_of supply) (has_tiling (all_but E) 8 (supply_of supply)) setup.low setup.bounded (lockable_free (filled setup.well) piece q lockable) below
      (ap (λ E. without_placement E q) setup.emptied) (tiling_decided (all_but E) 8 (supply_of supply)))

  -- what leaves no tiling has nothing to do
  pub dead_found : (words : List ℕ) → ((q : Placement) → q.piece ≡ piece → cells_of_words words (rotation_index q.rotation) q.x q.y ≡ true → leaves_tiling (empty_cells setup.empties) q (supply_of supply) ≡ false) →
      AreDead setup piece words
  dead_found words none = record {
    dead = λ q of_kind lockable below is.
        enters-dead setup q below (setup.left - 1) (omega (arith, some)) (λ table mode. after-tiled q of_kind lockable below table mode ∙ none q of_kind is);
  }

  -- and what leaves one leads on
  pub live_found : (q : Placement) → q.piece ≡ piece → may_lock (filled setup.well) piece q ≡ true → is_below setup.rows q ≡ true →
      leaves_tiling (empty_cells setup.empties) q (supply_of supply) ≡ true → LeadsOn setup q
  live_found q of_kind lockable below tiled table mode left less = search (rules, (after-tiled q of_kind lockable below table mode))

module _ (frame : Frame) (places : LowPlaces) (is : frame.places ≡ Some places) (words : List ℕ) (are : AreDead frame.setup (piece_of places) words) where
  abbrev is_dead : Placement → Bool
  is_dead q = cells_of_words words (rotation_index q.rotation) q.x q.y

  nothing : (table : Table) (mode : DropMode) (prefix : List Placement) (q : Placement) → holds places q ≡ true → is_dead q ≡ true → entered (enter frame.setup.left) prefix (state_of table mode frame.setup) q ≡ []
  nothing table mode prefix q held none = search (rules, lockable-piece)

  pub left-out : (kept : LowPlaces) → piece_of kept ≡ piece_of places → ((q : Placement) → holds kept q ≡ (holds places q && not (is_dead q))) → (table : Table) (mode : DropMode) (prefix : List Placement) →
      flat_map (entered (enter frame.setup.left) prefix (state_of table mode frame.setup)) (places_left (Some kept) frame.entered) ≡ flat_map (entered (enter frame.setup.left) prefix (state_of table mode frame.setup)) (places_left (Some places) frame.entered)
  unfolding places_left
  left-out kept same_kind held table mode prefix =
      let walk : Placement → List Event = entered (enter frame.setup.left) prefix (state_of table mode frame.setup) in
      let above : Placement → Bool = is_above placement_cmp frame.entered in
      ap (λ p. flat_map walk (filter (λ q. holds kept q && above q) (placements_of p))) same_kind
      ∙ flat_map-filters walk (λ q. holds kept q && above q) (λ q. holds places q && above q)
      (λ q. ap (λ h. if h && above q then walk q else []) (held q) ∙ without_dead (holds places q) (is_dead q) (above q) (walk q) (nothing table mode prefix q))
      (placements_of (piece_of places))
