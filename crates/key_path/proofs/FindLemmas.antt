-- The search for a key word, turn by turn: what is found and marked, and the key word that it ends with.
use Rattle.std.proofs.Common.{◌≡◌, ℕ, ◌+◌, ◌≤◌, true, false, Option, Some, None, List, [], ◌∷◌, ◌++◌, length, map, drop, refl, sym, ap, subst, ◌∙◌, inl, inr, arith, rules}
use Rattle.std.specs.Prelude.{Contains, replicate, reverse, slice_get}
use Rattle.std.specs.List.{count_by}
use Rattle.std.proofs.lemmas.Bool.{false≢true, cond-true, cond-false}
use Rattle.std.proofs.lemmas.List.{length-append, length-map, length-reverse, map-append, reverse-reverse}
use Rattle.std.proofs.lemmas.List.Elements.{Contains-push, Contains-push_cases}
use Rattle.lane_board.specs.Field.{Field}
use Rattle.srs.specs.declared.placement.Placement.{Placement}
use Rattle.srs.specs.Kick.{Table}
use Rattle.srs.specs.SameCells.{HasSameCells}
use Rattle.srs.proofs.CallerLemmas.{same_cells-sym, same_cells-trans, same_cells-piece, Contains-here, Contains-cases, Contains-none, some_same}
use Rattle.well.specs.Free.{is_free}
use Rattle.well.proofs.CallerLemmas.{free_pivot_inside}
use Rattle.moves.specs.declared.key.Key.{Key}
use Rattle.moves.specs.declared.key.DropMode.{DropMode}
use Rattle.moves.specs.Keys.{allows}
use Rattle.moves.specs.Leads.{spawn_of, spawned}
use Rattle.moves.specs.PlaceTest.{comes_to_rest}
use Rattle.moves.specs.Place.{LeadsToRest}
use Rattle.moves.specs.Step.{step_of}
use Rattle.moves.specs.Walk.{led, Leads}
use Rattle.moves.proofs.CallerLemmas.{IsFreeState, step_is_finite, step_of-free, one_state, led_good, led_none, not_some, from_tests, to_tests}
use Rattle.circular_buffer.specs.Buffer.{Buffer, buffer, keep_last}
use Rattle.key_path.specs.declared.marks.Mark.{Mark}
use Rattle.key_path.specs.declared.marks.Mark.TheVariants.{Unseen, Start, From}
use Rattle.key_path.specs.KeyWords.{key_index}
use Rattle.key_path.specs.LeastKeyWord.{IsLeastKeyWord}
use Rattle.key_path.specs.Marks.{with_mark, is_unseen, Traces, new_state}
use Rattle.key_path.proofs.WordLemmas.{not_earlier, not_after-front}
use Rattle.key_path.specs.Search.{Item, with_key, AreFound, IsPressed, AreMarked, IsFinding, IsTrying, LeadsBack}
use Rattle.key_path.proofs.SearchLemmas.{sought_first, ahead_first, taken, pressed_again, pressed_new, sought_new, sought_next, ahead_next, all_found, found_before}
use Rattle.key_path.proofs.MarkLemmas.{noted_first, noted_new, traces_once, room_left, count_marked}
use Rattle.key_path.proofs.KeyWordLemmas.{least_is_short}
use Rattle.key_path.proofs.NewStates.{IsNew, new_is, none_new}

-- a buffer with room for one more item keeps all
pub pushed : {X : Type 0} (before after : Buffer X) (x : X) → after ≡ buffer (keep_last before.capacity (before.items ++ x ∷ [])) before.capacity → length (before.items ++ x ∷ []) ≤ before.capacity → after.items ≡ before.items ++ x ∷ []
pushed {X} before after x is fits = search rules

-- placements with the same cells have the same key words
led_to_other : (table : Table) (F : Field) (mode : DropMode) (p q : Placement) (word : List Key) → HasSameCells p q → LeadsToRest table F mode word p → LeadsToRest table F mode word q
led_to_other table F mode p q word same way = search (rules, same_cells-piece, same_cells-trans)

pub one_word : (table : Table) (F : Field) (mode : DropMode) (aim target : Placement) → HasSameCells aim target → (a : Option (List Key)) → IsLeastKeyWord table F mode aim a → IsLeastKeyWord table F mode target a
one_word table F mode aim target same None is = record { none = λ word led above. is.none word (led_to_other table F mode target aim word (same_cells-sym same) led) above }
one_word table F mode aim target same (Some word) is = search (rules, led_to_other, same_cells-sym)

spawned-some : (F : Field) (s : Placement) → is_free F (spawn_of s.piece) ≡ true → spawned F s.piece ≡ Some (spawn_of s.piece)
unfolding spawned
spawned-some F s free = cond-true _ (Some (spawn_of s.piece)) None free

spawned-none : (F : Field) (s : Placement) → is_free F (spawn_of s.piece) ≡ false → spawned F s.piece ≡ None
unfolding spawned
spawned-none F s blocked = cond-false _ (Some (spawn_of s.piece)) None blocked

module _ (table : Table) (F : Field) (mode : DropMode) (target : Placement) where
  -- where the spawn is not free no key word leads anywhere
  pub no_spawn : is_free F (spawn_of target.piece) ≡ false → IsLeastKeyWord table F mode target None
  no_spawn blocked = record {
    none = λ word leads above.
        let way = to_tests table F mode word target leads in
        not_some (sym (led_none (step_of table F) word) ∙ sym (ap (λ s. led (step_of table F) s word) (spawned-none F target blocked)) ∙ way.leads.reached);
  }

  -- where the spawn comes to rest there, the key word with no key is the least
  pub spawn_word : is_free F (spawn_of target.piece) ≡ true → comes_to_rest F target (spawn_of target.piece) ≡ true → IsLeastKeyWord table F mode target (Some [])
  spawn_word free rests = search (rules, (from_tests table F mode [] target), (spawned-some F target free), (not_earlier []), (not_after-front []))

  pub finding_first : (marks : List Mark) (waiting : List Placement) → is_free F (spawn_of target.piece) ≡ true → comes_to_rest F target (spawn_of target.piece) ≡ false →
      marks ≡ with_mark (replicate 920 Unseen) (spawn_of target.piece) Start → waiting ≡ spawn_of target.piece ∷ [] → IsFinding table F mode target marks waiting
  finding_first marks waiting free misses set alone =
      search (rules, (sought_first (step_of table F) (allows mode) (spawn_of target.piece)), (ahead_first (step_of table F) (allows mode) (spawn_of target.piece)), (noted_first (spawn_of target.piece)), Contains-cases, Contains-none)

  -- the first state that waits is taken
  pub trying_first : (marks : List Mark) (waiting rest : List Placement) (state : Placement) → slice_get waiting 0 ≡ Some state → rest ≡ drop 1 waiting → IsFinding table F mode target marks waiting → IsTrying table F mode target marks rest state 0
  trying_first marks waiting rest state head tail finding = by_front finding.front refl
    where
      by_front : (front : List Item) → finding.front ≡ front → IsTrying table F mode target marks rest state 0
      by_front [] e = absurd (not_some (sym (ap (λ xs. slice_get xs 0) (finding.states ∙ ap (map (λ (x : Item). x.state)) e)) ∙ head))
      by_front (x ∷ front) e = search (rules, some_same, (taken (step_of table F) (allows mode) (spawn_of target.piece) finding.items x))

  -- when all keys were tried, the next is to be taken
  pub finding_next : (marks : List Mark) (waiting : List Placement) (state : Placement) → IsTrying table F mode target marks waiting state 5 → IsFinding table F mode target marks waiting
  finding_next marks waiting state trying =
      search (rules, (sought_next (step_of table F) (allows mode) (spawn_of target.piece) trying.items trying.x trying.front trying.sought trying.pressed), (ahead_next (step_of table F) (allows mode) (spawn_of target.piece) trying.items trying.x trying.front trying.sought trying.pressed))

  -- each state that was found is a free state of the piece
  found_free : is_free F (spawn_of target.piece) ≡ true → (items front : List Item) → AreFound (step_of table F) (allows mode) (spawn_of target.piece) items front → (x : Item) → Contains items x → IsFreeState F target.piece x.state
  found_free free items front sought x among =
      led_good (step_is_finite table F target.piece) (Some (spawn_of target.piece)) (λ s e. subst (IsFreeState F target.piece) (some_same e) (record { kind = refl; free = free })) x.word x.state (sought.reached x among).reached

  -- the state whose keys are tried is free
  pub trying_free : is_free F (spawn_of target.piece) ≡ true → (marks : List Mark) (waiting : List Placement) (state : Placement) (n : ℕ) → IsTrying table F mode target marks waiting state n → is_free F state ≡ true
  trying_free free marks waiting state n trying =
      subst (λ s. is_free F s ≡ true) trying.at (found_free free trying.items (trying.x ∷ trying.front) trying.sought trying.x (trying.sought.among trying.x (Contains-here trying.x trying.front))).free

  -- and of the piece
  pub trying_kind : is_free F (spawn_of target.piece) ≡ true → (marks : List Mark) (waiting : List Placement) (state : Placement) (n : ℕ) → IsTrying table F mode target marks waiting state n → state.piece ≡ target.piece
  trying_kind free marks waiting state n trying =
      subst (λ (s : Placement). s.piece ≡ target.piece) trying.at (found_free free trying.items (trying.x ∷ trying.front) trying.sought trying.x (trying.sought.among trying.x (Contains-here trying.x trying.front))).kind

  -- a key that leads to no new state
  pub trying_same : is_free F (spawn_of target.piece) ≡ true → (marks : List Mark) (waiting : List Placement) (state : Placement) (n : ℕ) (key : Key) → key_index key ≡ n → new_state table F mode marks state key ≡ None → IsTrying table F mode target marks waiting state n → IsTrying table F mode target marks waiting state (n + 1)
  trying_same free marks waiting state n key place none trying = record {
    items = trying.items;
    x = trying.x;
    front = trying.front;
    at = trying.at;
    states = trying.states;
    few = trying.few;
    sought = trying.sought;
    pressed = pressed_again (step_of table F) (allows mode) (spawn_of target.piece) trying.items trying.x n key place known trying.pressed;
    noted = trying.noted;
    misses = trying.misses;
  }
    where
      known : (t : Placement) → allows mode key ≡ true → step_of table F trying.x.state key ≡ Some t → (y : Item) × Contains trying.items y × (y.state ≡ t)
      known t may e =
          let moves = subst (λ s. step_of table F s key ≡ Some t) trying.at e in
          let found = trying.noted.seen t (none_new table F mode marks state key none t may moves) in
          let here = found_free free trying.items (trying.x ∷ trying.front) trying.sought trying.x (trying.sought.among trying.x (Contains-here trying.x trying.front)) in
          let there = found_free free trying.items (trying.x ∷ trying.front) trying.sought found.0 found.1 in
          let after = (step_is_finite table F target.piece).kept trying.x.state key t here e in
          (found.0, found.1, one_state found.0.state t (there.kind ∙ sym after.kind) (free_pivot_inside F found.0.state there.free) (free_pivot_inside F t after.free) found.2)

  -- a key that leads to a new state, which does not come to rest there
  pub trying_new : is_free F (spawn_of target.piece) ≡ true → (marks marks' : List Mark) (waiting waiting' : List Placement) (state : Placement) (n : ℕ) (key : Key) (t : Placement) → key_index key ≡ n → new_state table F mode marks state key ≡ Some t →
      comes_to_rest F target t ≡ false → marks' ≡ with_mark marks t (From state key) → waiting' ≡ waiting ++ t ∷ [] → IsTrying table F mode target marks waiting state n → IsTrying table F mode target marks' waiting' state (n + 1)
  trying_new free marks marks' waiting waiting' state n key t place found misses set waits trying =
      let new : IsNew table F mode marks state key t = new_is table F mode marks state key t found in
      let here = trying.sought.among trying.x (Contains-here trying.x trying.front) in
      let moves : step_of table F trying.x.state key ≡ Some t = subst (λ s. step_of table F s key ≡ Some t) (sym trying.at) new.moves in
      let from = free_pivot_inside F trying.x.state (found_free free trying.items (trying.x ∷ trying.front) trying.sought trying.x here).free in
      let pivot = free_pivot_inside F t (step_of-free table F state key t new.moves).free in
      record {
        items = trying.items ++ with_key trying.x key t ∷ [];
        x = trying.x;
        front = trying.front ++ with_key trying.x key t ∷ [];
        at = trying.at;
        states = waits ∙ ap (λ xs. xs ++ t ∷ []) trying.states ∙ sym (map-append (λ (x : Item). x.state) trying.front (with_key trying.x key t ∷ []));
        few = omega (arith, trying.few, length-append trying.items (with_key trying.x key t ∷ []), length-append trying.front (with_key trying.x key t ∷ []));
        sought = sought_new (step_of table F) (allows mode) (spawn_of target.piece) trying.items trying.x trying.front n key t place new.may moves here trying.sought trying.pressed;
        pressed = pressed_new (step_of table F) (allows mode) (spawn_of target.piece) trying.items trying.x n key t place moves trying.pressed;
        noted = subst (λ marks. AreMarked marks (trying.items ++ with_key trying.x key t ∷ [])) (sym (set ∙ ap (λ s. with_mark marks t (From s key)) (sym trying.at)))
            (noted_new marks trying.items trying.x key t here from pivot new.unseen trying.noted);
        misses = λ y among. elim (Contains-push_cases trying.items (with_key trying.x key t) y among) [
          | inl old ↦ trying.misses y old
          | inr is ↦ subst (λ y. comes_to_rest F target y.state ≡ false) is misses
        ];
      }

  -- it is marked, so that one state fewer is unseen
  pub new_counts : (marks marks' : List Mark) (waiting : List Placement) (state : Placement) (n : ℕ) (key : Key) (t : Placement) → new_state table F mode marks state key ≡ Some t → marks' ≡ with_mark marks t (From state key) → IsTrying table F mode target marks waiting state n →
      count_by is_unseen marks' + 1 ≡ count_by is_unseen marks
  new_counts marks marks' waiting state n key t found set trying =
      search (rules, (new_is table F mode marks state key t found), (count_marked marks t (From state key) trying.noted.size), (free_pivot_inside F t), (step_of-free table F state key t))

  -- it is a free state of the piece
  pub new_free : is_free F (spawn_of target.piece) ≡ true → (marks : List Mark) (waiting : List Placement) (state : Placement) (n : ℕ) (key : Key) (t : Placement) → new_state table F mode marks state key ≡ Some t → IsTrying table F mode target marks waiting state n → IsFreeState F target.piece t
  new_free free marks waiting state n key t found trying =
      search (rules, (found_free free trying.items (trying.x ∷ trying.front) trying.sought trying.x (trying.sought.among trying.x (Contains-here trying.x trying.front))), (step_of-free table F state key t (new_is table F mode marks state key t found).moves))

  -- there is room for it
  pub new_fits : (marks : List Mark) (waiting : List Placement) (state : Placement) (n : ℕ) (key : Key) (t : Placement) → new_state table F mode marks state key ≡ Some t → IsTrying table F mode target marks waiting state n → length (waiting ++ t ∷ []) ≤ 920
  new_fits marks waiting state n key t found trying =
      search (rules, (new_is table F mode marks state key t found), (room_left marks trying.items t), (free_pivot_inside F t), (step_of-free table F state key t), (length-append waiting (t ∷ [])), (length-map trying.front (λ (x : Item). x.state)))

  -- a key that leads to a new state which comes to rest there
  pub new_reached : is_free F (spawn_of target.piece) ≡ true → (marks marks' : List Mark) (waiting : List Placement) (state : Placement) (n : ℕ) (key : Key) (t : Placement) → key_index key ≡ n → new_state table F mode marks state key ≡ Some t →
      comes_to_rest F target t ≡ true → marks' ≡ with_mark marks t (From state key) → IsTrying table F mode target marks waiting state n → LeadsBack table F mode target marks' t
  new_reached free marks marks' waiting state n key t place found rests set trying = subst (λ marks. LeadsBack table F mode target marks t) (sym (set ∙ ap (λ s. with_mark marks t (From s key)) (sym trying.at))) reached
    where
      word : List Key
      word = trying.x.word ++ key ∷ []

      new : IsNew table F mode marks state key t
      new = new_is table F mode marks state key t found

      here : Contains trying.items trying.x
      here = trying.sought.among trying.x (Contains-here trying.x trying.front)

      moves : step_of table F trying.x.state key ≡ Some t
      moves = subst (λ s. step_of table F s key ≡ Some t) (sym trying.at) new.moves

      pressed : IsPressed (step_of table F) (allows mode) (spawn_of target.piece) trying.items trying.x (key_index key)
      pressed = subst (IsPressed (step_of table F) (allows mode) (spawn_of target.piece) trying.items trying.x) (sym place) trying.pressed

      leads : Leads (step_of table F) (allows mode) (Some (spawn_of target.piece)) t word
      leads = (sought_new (step_of table F) (allows mode) (spawn_of target.piece) trying.items trying.x trying.front n key t place new.may moves here trying.sought trying.pressed).reached
          (with_key trying.x key t) (Contains-push trying.items (with_key trying.x key t))

      is_least : IsLeastKeyWord table F mode target (Some word)
      is_least = record {
        member = from_tests table F mode word target (record { state = t; leads = subst (λ s. Leads (step_of table F) (allows mode) s t word) (sym (spawned-some F target free)) leads; rests = rests });
        above = refl;
        least = λ other leads above less.
            let way = to_tests table F mode other target leads in
            elim (found_before (step_of table F) (allows mode) (spawn_of target.piece) trying.items trying.x trying.front key trying.sought pressed other way.state
            (subst (λ s. Leads (step_of table F) (allows mode) s way.state other) (spawned-some F target free) way.leads)) [
              | inl has ↦ false≢true (sym (trying.misses has.item has.among) ∙ ap (comes_to_rest F target) has.is ∙ way.rests)
              | inr not ↦ not_earlier word other not less
            ];
      }

      noted : AreMarked (with_mark marks t (From trying.x.state key)) (trying.items ++ with_key trying.x key t ∷ [])
      noted = noted_new marks trying.items trying.x key t here (free_pivot_inside F trying.x.state (found_free free trying.items (trying.x ∷ trying.front) trying.sought trying.x here).free)
          (free_pivot_inside F t (step_of-free table F state key t new.moves).free) new.unseen trying.noted

      traces : Traces (with_mark marks t (From trying.x.state key)) t (reverse word)
      traces = noted.traces (with_key trying.x key t) (Contains-push trying.items (with_key trying.x key t))

      reached : LeadsBack table F mode target (with_mark marks t (From trying.x.state key)) t
      reached = record {
        traced = record { keys = reverse word; traces = traces; few = omega (arith, length-reverse word, least_is_short table F mode target word is_least) };
        least = λ traced. subst (λ w. IsLeastKeyWord table F mode target (Some w))
            (sym (ap reverse (traces_once (with_mark marks t (From trying.x.state key)) t traced.keys (reverse word) traced.traces traces) ∙ reverse-reverse word)) is_least;
      }

  -- where nothing waits any more, no key word leads there
  pub none_found : is_free F (spawn_of target.piece) ≡ true → (marks : List Mark) (waiting : List Placement) → slice_get waiting 0 ≡ None → IsFinding table F mode target marks waiting → IsLeastKeyWord table F mode target None
  none_found free marks waiting none finding = record {
    none = λ word leads above.
        let way = to_tests table F mode word target leads in
        let has = all_found (step_of table F) (allows mode) (spawn_of target.piece) finding.items (subst (AreFound (step_of table F) (allows mode) (spawn_of target.piece) finding.items) (no_front finding.front refl) finding.sought) word way.state
        (subst (λ s. Leads (step_of table F) (allows mode) s way.state word) (spawned-some F target free) way.leads) in
        false≢true (sym (finding.misses has.item has.among) ∙ ap (comes_to_rest F target) has.is ∙ way.rests);
  }
    where
      no_front : (front : List Item) → finding.front ≡ front → front ≡ []
      no_front [] e = refl
      no_front (x ∷ front) e = absurd (not_some (sym none ∙ ap (λ xs. slice_get xs 0) (finding.states ∙ ap (map (λ (x : Item). x.state)) e)))
