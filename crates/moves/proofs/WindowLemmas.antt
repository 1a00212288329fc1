-- The window loses nothing.
use Rattle.std.proofs.Common.{◌≡◌, ◌↔◌, ◌⊎◌, ℕ, ◌+◌, ◌-◌, ◌≤◌, Bool, true, ℤ, pos, ◌+ℤ◌, ◌≤ℤ◌, Option, Some, None, List, [], ◌∷◌, ◌++◌, get_or, refl, sym, ap, subst, ◌∙◌, inl, inr, arith, rules}
use Rattle.std.specs.Prelude.{IsTrue, ◌<ℤ◌, int_le, option_and_then, if◌then◌else◌}
use Rattle.std.specs.List.{list_all}
use Rattle.std.proofs.lemmas.Int.{ints}
use Rattle.std.proofs.lemmas.Bool.{and_parts, cases_Bool, cases_lt, cond-true, cond-false, both_ways}
use Rattle.std.proofs.lemmas.List.Folds.{list_all-map}
use Rattle.std.proofs.lemmas.List.Sums.{fold-append}
use Rattle.std.proofs.lemmas.Option.{option_and_then_some}
use Rattle.lane_board.specs.Field.{Field}
use Rattle.srs.specs.declared.piece.Piece.{Piece}
use Rattle.srs.specs.declared.rotation.Rotation.{Rotation}
use Rattle.srs.specs.declared.placement.Placement.{Placement}
use Rattle.srs.specs.Cells.{Cell, moved, shape, cells_of, pivot_of}
use Rattle.srs.specs.Kick.{srs_table}
use Rattle.srs.proofs.CallerLemmas.{same_cells-piece, origin, is_among-all, each_state, pivot_in_shape, some_same, int_le-true}
use Rattle.well.specs.Free.{is_free_at, is_free}
use Rattle.well.proofs.CallerLemmas.{free_inside, free_pivot_inside}
use Rattle.well.specs.LockLaws.{LiesBelow}
use Rattle.moves.specs.declared.key.Key.{Key}
use Rattle.moves.specs.declared.key.Key.TheVariants.{Left, Right, Down, Clockwise, Anti}
use Rattle.moves.specs.declared.key.DropMode.{DropMode}
use Rattle.moves.specs.declared.key.DropMode.TheVariants.{Soft, Hard}
use Rattle.moves.specs.Keys.{allows}
use Rattle.moves.specs.Leads.{spawned, spawn_of, state_after}
use Rattle.moves.specs.Place.{IsPlace}
use Rattle.moves.specs.Step.{step_of}
use Rattle.moves.specs.Walk.{led}
use Rattle.moves.proofs.StepLemmas.{step_of-free}
use Rattle.moves.proofs.WalkLemmas.{not_some, led_none}
use Rattle.moves.specs.Height.{rise, depth, upright}
use Rattle.moves.specs.Sky.{IsUnderSky}
use Rattle.moves.specs.RestingStates.{IsResting, IsKeyed}
use Rattle.moves.specs.Lanes.{lowest, lane}
use Rattle.moves.specs.Window.{is_low, low_step, IsStart, IsWindowed, IsWindowPlace}
use Rattle.moves.proofs.TableFacts.{is_level, shape_level}
use Rattle.moves.proofs.OpenLemmas.{all_so, natural, open_height, IsOpenHeight, free_fits}
use Rattle.moves.proofs.SkyLemmas.{sky_is_reached, sky_free, soft_allows}
use Rattle.moves.proofs.AboveRest.{StandsAbove, stands_above, comes_to_rest}
use Rattle.moves.proofs.SoftPlaces.{soft_places, own_rest, leads-append}
use Rattle.moves.proofs.HardLemmas.{StandsAt, stays_level, led_level}
use Rattle.moves.proofs.HardPlaces.{hard_places}
use Rattle.moves.proofs.LaneFacts.{lowest_near, near, rest_lane, sky_from}
use Rattle.moves.proofs.LaneLemmas.{key_lifts, inside_under_sky, down_sinks, rise_near}

-- what is low enough lies in the window
all_from : (f t : Cell → Bool) (s : Placement) → ((c : Cell) → f c ≡ true → t (moved (pivot_of s) c) ≡ true) → list_all f (shape s.piece s.rotation) ≡ true → list_all t (cells_of s) ≡ true
all_from f t s so all = list_all-map t (moved (pivot_of s)) (shape s.piece s.rotation) ∙ all_so f (λ c. t (moved (pivot_of s) c)) (shape s.piece s.rotation) so all

no : (a b : ℤ) → a ≤ℤ b → int_le a b ≡ true
no a b h = search rules

low_from : (s : Placement) → upright s ≤ℤ pos 14 → is_low s ≡ true
unfolding moved is_level
low_from s low = search (rules, all_from, int_le-true, and_parts, no, shape_level)

-- and what lies in it is low
low_upright : (s : Placement) → is_low s ≡ true → upright s ≤ℤ pos 16
unfolding moved origin
low_upright s low = search (rules, is_among-all, list_all-map, pivot_in_shape, int_le-true, rise_near)

-- a low step is a step, and leads low
low_is_step : (F : Field) (s : Placement) (key : Key) (t : Placement) → low_step F s key ≡ Some t → (step_of srs_table F s key ≡ Some t) × (is_low t ≡ true)
unfolding low_step
low_is_step F s key t e = option_and_then_some (λ (next : Placement). if is_low next then Some next else None) (step_of srs_table F s key) t e
    (λ u f g. elim (cases_Bool (is_low u)) [
      | inl low ↦ let same : u ≡ t = some_same (sym (cond-true _ (Some u) None low) ∙ g) in (f ∙ ap (λ (u : Placement). Some u) same, subst (λ u. is_low u ≡ true) same low)
      | inr high ↦ absurd (not_some (sym (cond-false _ (Some u) None high) ∙ g))
    ])

step_is_low : (F : Field) (s : Placement) (key : Key) (t : Placement) → step_of srs_table F s key ≡ Some t → is_low t ≡ true → low_step F s key ≡ Some t
unfolding low_step
step_is_low F s key t e low = ap (λ (o : Option Placement). option_and_then (λ (next : Placement). if is_low next then Some next else None) o) e ∙ cond-true _ (Some t) None low

low_leads : (F : Field) (keys : List Key) (s t : Placement) → led (low_step F) (Some s) keys ≡ Some t → led (step_of srs_table F) (Some s) keys ≡ Some t
low_leads F [] s t e = e
low_leads F (key ∷ keys) s t e = next (low_step F s key) refl (λ u f. low_leads F keys u t f)
  where
    next : (o : Option Placement) → low_step F s key ≡ o → ((u : Placement) → led (low_step F) (Some u) keys ≡ Some t → led (step_of srs_table F) (Some u) keys ≡ Some t) → led (step_of srs_table F) (Some s) (key ∷ keys) ≡ Some t
    next None f later = absurd (not_some (sym (led_none (low_step F) keys) ∙ ap (λ (o : Option Placement). led (low_step F) o keys) (sym f) ∙ e))
    next (Some u) f later = ap (λ (o : Option Placement). led (step_of srs_table F) o keys) (low_is_step F s key u f).0 ∙ later u (ap (λ (o : Option Placement). led (low_step F) o keys) (sym f) ∙ e)

-- a start of the window is open
record IsOpenStart (F : Field) (r : ℕ) (s : Placement) : Type 0 where
  sky : IsUnderSky F s
  low : upright s ≤ℤ pos 20
  free : is_free F s ≡ true

start_open : (F : Field) (r : ℕ) (s : Placement) → LiesBelow F r → r ≤ 8 → IsStart r s → IsOpenStart F r s
start_open F r s clear few start =
    let by = near s in
    let rises = rise_near s.piece s.rotation in
    let deep = lowest_near s.piece s.rotation in
    let a = start.from_row in
    let b = start.to_row in
    let under : upright s ≤ℤ pos 20 = omega (arith, ints, rises.high) in
    let sky = inside_under_sky F r clear s start.inside (omega (arith, ints, deep)) in
    search (rules, (sky_free F s sky 0))

-- Window places are places: with soft drop the start is reached, and the keys go on from there.
windowed_soft : (F : Field) (r : ℕ) (s : Placement) → LiesBelow F r → r ≤ 8 → IsWindowed F r Soft s → IsKeyed srs_table F Soft s
windowed_soft F r s clear few way =
    let at = start_open F r way.from clear few way.starts in
    let to = sky_is_reached F r way.from clear (omega arith) at.sky at.low in
    record {
      keys = to.keys ++ way.keys;
      allowed = λ k d within. soft_allows (get_or (to.keys ++ way.keys) k d);
      leads_there = search (rules, leads-append, low_leads);
    }

-- What is reached with soft drop stands high, or is reached in the window.
record IsHigh (F : Field) (r : ℕ) (piece : Piece) (s : Placement) : Type 0 where
  kind : s.piece ≡ piece
  free : is_free F s ≡ true
  tall : pos (r + 3) ≤ℤ upright s
  low : upright s ≤ℤ pos 20

record IsWindowedLow (F : Field) (r : ℕ) (piece : Piece) (s : Placement) : Type 0 where
  kind : s.piece ≡ piece
  windowed : IsWindowed F r Soft s
  low : upright s ≤ℤ pos 16

module _ (F : Field) (r : ℕ) (clear : LiesBelow F r) (few : r ≤ 8) (piece : Piece) where
  Here : Placement → Type 0
  Here s = IsHigh F r piece s ⊎ IsWindowedLow F r piece s

  level_high : (s t : Placement) (key : Key) → IsHigh F r piece s → IsTrue (allows Hard key) → step_of srs_table F s key ≡ Some t → IsHigh F r piece t
  level_high s t key high allowed e =
      let tall = high.tall in
      let low = high.low in
      let h = natural (upright s) (omega (arith, ints)) in
      search (rules, (open_height piece r h.n), (free_fits F s.piece s.rotation (pos s.x, pos s.y) high.free), (free_pivot_inside F s high.free), (stays_level F r clear h.n piece), (step_of-free srs_table F s key t e))

  -- from the band Down leads into the window
  down_high : (s t : Placement) → IsHigh F r piece s → step_of srs_table F s Down ≡ Some t → Here t
  unfolding Here
  down_high s t high e =
      let tall = high.tall in
      let low = high.low in
      let sinks = down_sinks F s t e in
      let free = step_of-free srs_table F s Down t e in
      let n = natural (upright s) (omega (arith, ints)) in
      let is = n.is in
      let rises = rise_near s.piece s.rotation in
      elim (cases_lt n.n (r + 4)) [
        | inl band ↦
            let under : upright t ≤ℤ pos 14 = omega (arith, ints) in
            let start : IsStart r s = record { inside = free_inside F s high.free; from_row = omega (arith, ints, rises.high); to_row = omega (arith, ints, rises.low) } in
            let way : IsWindowed F r Soft t = record { from = s; kind = sym free.kind; starts = start; keys = Down ∷ []; allowed = λ k d within. soft_allows (get_or (Down ∷ []) k d); leads_there = step_is_low F s Down t e (low_from t under) } in
            inr (record { kind = free.kind ∙ high.kind; windowed = way; low = omega (arith, ints) })
        | inr over ↦ inl (record { kind = free.kind ∙ high.kind; free = free.free; tall = omega (arith, ints); low = omega (arith, ints) })
      ]

  step_high : (s t : Placement) (key : Key) → IsHigh F r piece s → step_of srs_table F s key ≡ Some t → Here t
  unfolding Here
  step_high s t Left high e = inl (level_high s t Left high refl e)
  step_high s t Right high e = inl (level_high s t Right high refl e)
  step_high s t Down high e = down_high s t high e
  step_high s t Clockwise high e = inl (level_high s t Clockwise high refl e)
  step_high s t Anti high e = inl (level_high s t Anti high refl e)

  -- a state of the window leads within the window, or high
  step_windowed : (s t : Placement) (key : Key) → IsWindowedLow F r piece s → step_of srs_table F s key ≡ Some t → Here t
  unfolding Here
  step_windowed s t key here e = elim (cases_Bool (is_low t)) [
    | inl low ↦
        let way = here.windowed in
        let free = step_of-free srs_table F s key t e in
        let more : IsWindowed F r Soft t = record {
          from = way.from;
          kind = way.kind ∙ sym free.kind;
          starts = way.starts;
          keys = way.keys ++ key ∷ [];
          allowed = λ k d within. soft_allows (get_or (way.keys ++ key ∷ []) k d);
          leads_there = search (rules, fold-append, step_is_low);
        } in
        inr (record { kind = free.kind ∙ here.kind; windowed = more; low = low_upright t low })
    | inr high ↦
        let free = step_of-free srs_table F s key t e in
        let lifts = key_lifts F s key t e in
        let rises = rise_near t.piece t.rotation in
        let under = here.low in
        let n = natural (upright t +ℤ pos 1) (omega (arith, ints, rises.low)) in
        let is = n.is in
        elim (cases_lt n.n 16) [
          | inl below ↦ absurd (both_ways _ high (low_from t (omega (arith, ints))))
          | inr over ↦ inl (record { kind = free.kind ∙ here.kind; free = free.free; tall = omega (arith, ints); low = omega (arith, ints) })
        ]
  ]

  step_here : (s t : Placement) (key : Key) → Here s → step_of srs_table F s key ≡ Some t → Here t
  unfolding Here
  step_here s t key (inl high) e = step_high s t key high e
  step_here s t key (inr here) e = step_windowed s t key here e

  led_here : (keys : List Key) (s t : Placement) → Here s → led (step_of srs_table F) (Some s) keys ≡ Some t → Here t
  led_here [] s t here e = subst Here (some_same e) here
  led_here (key ∷ keys) s t here e = next (step_of srs_table F s key) refl (λ u there f. led_here keys u t there f)
    where
      next : (o : Option Placement) → step_of srs_table F s key ≡ o → ((u : Placement) → Here u → led (step_of srs_table F) (Some u) keys ≡ Some t → Here t) → Here t
      next None f later = absurd (not_some (sym (led_none (step_of srs_table F) keys) ∙ ap (λ (o : Option Placement). led (step_of srs_table F) o keys) (sym f) ∙ e))
      next (Some u) f later = later u (step_here s u key here f) (ap (λ (o : Option Placement). led (step_of srs_table F) o keys) (sym f) ∙ e)

  keyed_here : (t : Placement) → t.piece ≡ piece → IsKeyed srs_table F Soft t → Here t
  unfolding state_after spawned Here
  keyed_here t kind keyed =
      search (rules, (cases_Bool (is_free F (spawn_of piece))), (led_here keyed.keys (spawn_of piece) t), cond-true, not_some, (led_none (step_of srs_table F) keyed.keys), cond-false)

  -- a resting state does not stand high
  rest_windowed : (t : Placement) → IsResting F t → Here t → IsWindowed F r Soft t
  unfolding Here
  rest_windowed t rests (inl high) = let by = near t in let low = rest_lane F r clear t rests in let tall = high.tall in absurd (omega (arith, ints, by.low))
  rest_windowed t rests (inr here) = here.windowed

pub soft_window : (F : Field) (r : ℕ) (q : Placement) → LiesBelow F r → r ≤ 8 → IsWindowPlace F r Soft q ↔ IsPlace srs_table F Soft q
soft_window F r q clear few = (there, back)
  where
    there : IsWindowPlace F r Soft q → IsPlace srs_table F Soft q
    there place =
        let keyed = windowed_soft F r place.state clear few place.windowed in
        let above = stands_above F place.state place.rest place.rests in
        let kind : place.state.piece ≡ q.piece = ap (λ (s : Placement). s.piece) above.is ∙ same_cells-piece place.rest q place.same_cells in
        record {
          canonical = place.canonical;
          keys = keyed.keys;
          led_to = record { allowed = keyed.allowed; state = place.state; reached = ap (λ (p : Piece). state_after srs_table F p keyed.keys) (sym kind) ∙ keyed.leads_there; rest = place.rest; rests = place.rests; same_cells = place.same_cells };
        }

    back : IsPlace srs_table F Soft q → IsWindowPlace F r Soft q
    back place =
        let found = (soft_places srs_table F q).0 place in
        let here = keyed_here F r clear few q.piece found.state (same_cells-piece found.state q found.same_cells) found.holds in
        record {
          canonical = found.canonical;
          state = found.state;
          windowed = rest_windowed F r clear few q.piece found.state found.rests here;
          rest = found.state;
          rests = own_rest F found.state found.rests;
          same_cells = found.same_cells;
        }

-- With hard drop the height of the start is kept, so what falls there lies under the sky.
rise_deep : (p : Piece) (r : Rotation) → int_le (pos (depth p)) (pos 2 +ℤ rise p r) ≡ true
rise_deep = each_state (λ p r. int_le (pos (depth p)) (pos 2 +ℤ rise p r)) refl

lane_deep : (p : Piece) (r : Rotation) → int_le (rise p r) (lowest (shape p r) +ℤ pos (depth p)) ≡ true
lane_deep = each_state (λ p r. int_le (rise p r) (lowest (shape p r) +ℤ pos (depth p))) refl

windowed_hard : (F : Field) (r : ℕ) (s t : Placement) → LiesBelow F r → r ≤ 8 → IsWindowed F r Hard s → StandsAbove F s t → IsUnderSky F t
windowed_hard F r s t clear few way above =
    let from = way.from in
    let at = start_open F r from clear few way.starts in
    let deep = int_le-true (pos (depth from.piece)) (pos 2 +ℤ rise from.piece from.rotation) (rise_deep from.piece from.rotation) in
    let a = way.starts.from_row in
    let low = at.low in
    let h = natural (upright from) (omega (arith, ints)) in
    let is = h.is in
    let room : IsOpenHeight from.piece r h.n = record { low = omega (arith, ints); high = omega (arith, ints) } in
    let pivot = free_pivot_inside F from at.free in
    let start : StandsAt h.n from.piece from = record { kind = refl; height = is; fits = free_fits F from.piece from.rotation (pos from.x, pos from.y) at.free; column = omega (arith, pivot.in_columns) } in
    let there = led_level F r clear h.n from.piece room way.keys from s start way.allowed (low_leads F way.keys from s way.leads_there) in
    sky_from F r clear t above.rests.free (λ j under. above.free j (few_rows h.n room.low there j under))
  where
    few_rows : (h : ℕ) → r + depth way.from.piece ≤ h → StandsAt h way.from.piece s → (j : ℕ) → (lane t +ℤ pos j) <ℤ pos r → j ≤ above.rows
    few_rows h low there j under =
        let height = sym (ap upright above.is) ∙ there.height in
        let same : depth t.piece ≡ depth way.from.piece = ap depth (sym (ap (λ (s : Placement). s.piece) above.is) ∙ there.kind) in
        let lanes = int_le-true (rise t.piece t.rotation) (lowest (shape t.piece t.rotation) +ℤ pos (depth t.piece)) (lane_deep t.piece t.rotation) in
        omega (arith, ints)

pub hard_window : (F : Field) (r : ℕ) (q : Placement) → LiesBelow F r → r ≤ 8 → IsWindowPlace F r Hard q ↔ IsPlace srs_table F Hard q
hard_window F r q clear few = (there, back)
  where
    there : IsWindowPlace F r Hard q → IsPlace srs_table F Hard q
    there place =
        let above = stands_above F place.state place.rest place.rests in
        (hard_places F r q clear (omega arith)).1 (record { canonical = place.canonical; state = place.rest; rests = above.rests; holds = windowed_hard F r place.state place.rest clear few place.windowed above; same_cells = place.same_cells })

    back : IsPlace srs_table F Hard q → IsWindowPlace F r Hard q
    back place =
        let found = (hard_places F r q clear (omega arith)).0 place in
        let t = found.state in
        let low = rest_lane F r clear t found.rests in
        let deep = lowest_near t.piece t.rotation in
        let rises = rise_near t.piece t.rotation in
        let rows = (r + 2) - t.y in
        let row : t.y + rows ≡ r + 2 = omega (arith, ints) in
        let free_up : (j : ℕ) → j ≤ rows → is_free_at F t.piece t.rotation (pos t.x, pos (t.y + j)) ≡ true = λ j within. sky_free F t found.holds j (omega (arith, ints, rises.high)) in
        let from : Placement = record { piece = t.piece; rotation = t.rotation; x = t.x; y = t.y + rows } in
        record {
          canonical = found.canonical;
          state = from;
          windowed = record { from = from; kind = refl; starts = record { inside = free_inside F from (free_up rows (omega arith)); from_row = omega arith; to_row = omega arith }; keys = []; allowed = λ k d within. absurd (omega arith); leads_there = refl };
          rest = t;
          rests = comes_to_rest F t rows free_up found.rests;
          same_cells = found.same_cells;
        }

pub window : (F : Field) (r : ℕ) (mode : DropMode) (q : Placement) → LiesBelow F r → r ≤ 8 → IsWindowPlace F r mode q ↔ IsPlace srs_table F mode q
window F r Soft q = soft_window F r q
window F r Hard q = hard_window F r q
