-- A flood over the free states of a field reaches what keys lead to there.
use Rattle.std.proofs.Common.{◌≡◌, true, Option, Some, None, List, [], ◌∷◌, refl, sym, ap, ◌∙◌, rules}
use Rattle.std.specs.Prelude.{IsTrue, if◌then◌else◌}
use Rattle.std.specs.List.{All}
use Rattle.std.proofs.lemmas.Bool.{cases_Bool, and_parts, cond-true, cond-false, eqb-true, false≢true}
use Rattle.lane_board.specs.Field.{Field, has_cell, empty_field, intersection, with_cell}
use Rattle.srs.specs.declared.piece.Piece.{Piece}
use Rattle.srs.specs.declared.rotation.Rotation.{Rotation}
use Rattle.srs.specs.declared.rotation.Rotation.TheVariants as Rotations
use Rattle.srs.specs.declared.placement.Placement.{Placement}
use Rattle.srs.specs.Cells.{Cell}
use Rattle.srs.specs.Kick.{Table}
use Rattle.well.specs.Free.{is_free}
use Rattle.moves.specs.declared.key.Key.{Key}
use Rattle.moves.specs.declared.key.DropMode.{DropMode}
use Rattle.moves.specs.Keys.{allows}
use Rattle.moves.specs.Step.{state_at, first_free, shifted, turned, step_of}
use Rattle.moves.specs.Walk.{led}
use Rattle.moves.specs.Leads.{spawn_of, spawned, state_after}
use Rattle.moves.proofs.CallerLemmas.{not_some, led_none}
use Rattle.place_sets.specs.States.{States, has_state, has_pivot, no_states}
use Rattle.whole_flood.specs.Started.{started}
use Rattle.whole_flood.specs.FreePivots.{IsFreeMap}
use Rattle.whole_flood.specs.Flood.{Ground, IsReached, first_in, shifted_in, turned_in, step_in}
use Rattle.place_sets.proofs.CallerLemmas.{ChangedIn, with_cases, with_here}
use Rattle.whole_flood.proofs.ReachedLemmas.{step_in-kind}
use Rattle.srs.proofs.CallerLemmas.{some_same}

-- where the free states are those of a field, a step is a step
first_same : (F : Field) (free : States) (piece : Piece) (r : Rotation) (pivots : List Cell) → IsFreeMap F piece free → first_in free piece r pivots ≡ first_free F piece r pivots
unfolding first_in first_free
first_same F free piece r [] is = refl
first_same F free piece r (pivot ∷ pivots) is = λ i. if sym (is.exact r pivot) i then state_at piece r pivot else first_same F free piece r pivots is i

pub step_same : (table : Table) (F : Field) (free : States) (s : Placement) (key : Key) → IsFreeMap F s.piece free → step_in table free s key ≡ step_of table F s key
unfolding shifted_in turned_in shifted turned
step_same table F free s key is = search (rules, first_same)

pub led_same : (table : Table) (F : Field) (free : States) (piece : Piece) → IsFreeMap F piece free → (keys : List Key) (s : Placement) → s.piece ≡ piece → led (step_in table free) (Some s) keys ≡ led (step_of table F) (Some s) keys
led_same table F free piece is [] s kind = refl
led_same table F free piece is (key ∷ keys) s kind =
    search (rules, step_same, step_in-kind, led_none, (led_same table F free piece is keys))

-- a start state is the spawn, and free
record StartsAt (free : States) (s : Placement) : Type 0 where
  turn : s.rotation ≡ Rotations.Spawn
  column : s.x ≡ 4
  row : s.y ≡ 20
  is_free : free Rotations.Spawn 4 20 ≡ true

started-at : (free : States) (s : Placement) → has_state (started free) s ≡ true → StartsAt free s
unfolding started intersection with_cell empty_field has_state
started-at free s held = search (rules, with_cases, ChangedIn, false≢true, and_parts, eqb-true)

started-has : (free : States) (piece : Piece) → free Rotations.Spawn 4 20 ≡ true → has_state (started free) (spawn_of piece) ≡ true
unfolding started intersection with_cell empty_field has_state
started-has free piece is_free = ap (λ (F : Field). F 4 20) (with_here no_states Rotations.Spawn (intersection (with_cell empty_field 4 20) (free Rotations.Spawn))) ∙ is_free

-- the flood begins at the spawn, where that is free
pub starts_at : (F : Field) (piece : Piece) (free : States) (s : Placement) → IsFreeMap F piece free → s.piece ≡ piece → has_state (started free) s ≡ true → spawned F piece ≡ Some s
unfolding spawned has_pivot has_cell
starts_at F piece free s is kind held = search (rules, started-at, cond-true)

pub spawn_starts : (F : Field) (piece : Piece) (free : States) (s : Placement) → IsFreeMap F piece free → spawned F piece ≡ Some s → (s.piece ≡ piece) × (has_state (started free) s ≡ true)
unfolding spawned has_pivot has_cell
spawn_starts F piece free s is e = search (rules, cases_Bool, some_same, cond-true, started-has, not_some, cond-false)

module _ (table : Table) (F : Field) (mode : DropMode) (piece : Piece) (free : States) (is : IsFreeMap F piece free) where
  abbrev pub ground : Ground
  ground = record { table = table; piece = piece; mode = mode; free = free }

  -- what is reached, keys lead to
  pub record KeysLead (s : Placement) : Type 0 where
    pub keys : List Key
    pub allowed : All (λ key. IsTrue (allows mode key)) keys
    pub reached : state_after table F piece keys ≡ Some s

  pub reached_by_keys : (s : Placement) → IsReached ground (started free) s → KeysLead s
  unfolding state_after
  reached_by_keys s way = search (rules, (starts_at F piece free way.from is way.kind way.starts), (led_same table F free piece is way.keys way.from way.kind))

  -- and where keys lead is reached
  pub keys_reach : (s : Placement) (keys : List Key) → All (λ key. IsTrue (allows mode key)) keys → state_after table F piece keys ≡ Some s → IsReached ground (started free) s
  unfolding state_after
  keys_reach s keys allowed e = from_start (spawned F piece) refl e
    where
      from_start : (start : Option Placement) → spawned F piece ≡ start → led (step_of table F) start keys ≡ Some s → IsReached ground (started free) s
      from_start None f e = absurd (not_some (sym (led_none (step_of table F) keys) ∙ e))
      from_start (Some from) f e =
          let starts = spawn_starts F piece free from is f in
          record { from = from; kind = starts.0; starts = starts.1; keys = keys; allowed = allowed; leads = led_same table F free piece is keys from starts.0 ∙ e }
