-- Keys that lead to a state whose rest has a placement's cells: said by tests, and by `LeadsToRest`.
use Rattle.std.proofs.Common.{◌≡◌, ◌↔◌, suc, Bool, true, false, Option, Some, None, List, [], ◌∷◌, refl, arith, rules}
use Rattle.std.specs.List.{list_all, All}
use Rattle.std.specs.Option.{option_map_or}
use Rattle.std.specs.Prelude.{IsTrue}
use Rattle.std.proofs.lemmas.Bool.{and_parts, and_from, false≢true}
use Rattle.lane_board.specs.Field.{Field}
use Rattle.srs.specs.declared.piece.Piece.{Piece}
use Rattle.srs.specs.declared.placement.Placement.{Placement}
use Rattle.srs.specs.Kick.{Table}
use Rattle.srs.proofs.CallerLemmas.{is_same_cells-decides, list_all_each}
use Rattle.moves.specs.declared.key.Key.{Key}
use Rattle.moves.specs.declared.key.DropMode.{DropMode}
use Rattle.moves.specs.Keys.{allows}
use Rattle.moves.specs.Step.{step_of}
use Rattle.moves.specs.Leads.{spawned, state_after}
use Rattle.moves.specs.Place.{LeadsToRest}
use Rattle.moves.specs.PlaceTest.{comes_to_rest, leads_to_rest}
use Rattle.moves.specs.Walk.{led, Leads}
use Rattle.moves.proofs.WalkLemmas.{led_good}
use Rattle.moves.proofs.StepLemmas.{IsFreeState, step_is_finite, spawned-free}
use Rattle.moves.proofs.RestLemmas.{rest_of-is, rest_of-only}

-- keys that lead to a state whose rest has the placement's cells, said by the tests
pub record LeadsByTest (table : Table) (F : Field) (mode : DropMode) (keys : List Key) (placement : Placement) : Type 0 where
  pub state : Placement
  pub leads : Leads (step_of table F) (allows mode) (spawned F placement.piece) state keys
  pub rests : comes_to_rest F placement state ≡ true

-- the state that keys lead to is free
pub leads-free : (table : Table) (F : Field) (piece : Piece) (keys : List Key) (state : Placement) → state_after table F piece keys ≡ Some state → IsFreeState F piece state
unfolding state_after
leads-free table F piece keys state reached = led_good (step_is_finite table F piece) (spawned F piece) (spawned-free F piece) keys state reached

-- tests of each element of a list, said in the two ways
all_from_each : (test : Key → Bool) (keys : List Key) → All (λ key. IsTrue (test key)) keys → list_all test keys ≡ true
all_from_each test [] each = refl
all_from_each test (key ∷ keys) each = and_from _ _ (each 0 key (omega arith)) (all_from_each test keys (λ k d within. each (suc k) d (omega arith)))

pub to_tests : (table : Table) (F : Field) (mode : DropMode) (keys : List Key) (placement : Placement) → LeadsToRest table F mode keys placement → LeadsByTest table F mode keys placement
unfolding state_after comes_to_rest
to_tests table F mode keys placement way =
    search (rules, (all_from_each (allows mode) keys way.allowed), is_same_cells-decides, (rest_of-only F way.state way.rest (leads-free table F placement.piece keys way.state way.reached).free way.rests))

pub from_tests : (table : Table) (F : Field) (mode : DropMode) (keys : List Key) (placement : Placement) → LeadsByTest table F mode keys placement → LeadsToRest table F mode keys placement
unfolding state_after comes_to_rest
from_tests table F mode keys placement way =
    search (rules, (list_all_each (allows mode) keys), (rest_of-is F way.state (leads-free table F placement.piece keys way.state way.leads.reached).free), is_same_cells-decides)

to_test : (table : Table) (F : Field) (mode : DropMode) (placement : Placement) (keys : List Key) → LeadsToRest table F mode keys placement → leads_to_rest table F mode placement keys ≡ true
unfolding leads_to_rest state_after
to_test table F mode placement keys leads = search (rules, and_from, (to_tests table F mode keys placement leads))

from_test : (table : Table) (F : Field) (mode : DropMode) (placement : Placement) (keys : List Key) → leads_to_rest table F mode placement keys ≡ true → LeadsToRest table F mode keys placement
unfolding leads_to_rest state_after
from_test table F mode placement keys passes = search (rules, and_parts, by_state)
  where
    by_state : (o : Option Placement) → led (step_of table F) (spawned F placement.piece) keys ≡ o → list_all (allows mode) keys ≡ true → option_map_or (comes_to_rest F placement) o false ≡ true → LeadsToRest table F mode keys placement
    by_state None e each rests = absurd (false≢true rests)
    by_state (Some s) e each rests = from_tests table F mode keys placement (record { state = s; leads = record { each = each; reached = e }; rests = rests })

-- the test is true of the keys that lead there and of no others
pub leads_to_rest-decides : (table : Table) (F : Field) (mode : DropMode) (placement : Placement) (keys : List Key) → (leads_to_rest table F mode placement keys ≡ true) ↔ LeadsToRest table F mode keys placement
leads_to_rest-decides table F mode placement keys = (from_test table F mode placement keys, to_test table F mode placement keys)
