-- The test of places decides which placements are places.
use Rattle.std.proofs.Common.{◌≡◌, ◌↔◌, true, arith, rules}
use Rattle.std.proofs.lemmas.Bool.{and_parts, and_from}
use Rattle.lane_board.specs.Field.{Field}
use Rattle.srs.specs.declared.placement.Placement.{Placement}
use Rattle.srs.specs.Kick.{Table}
use Rattle.srs.specs.Canonical.{is_canonical}
use Rattle.srs.proofs.CallerLemmas.{IsCanonical-from_test, is_canonical-from}
use Rattle.moves.specs.declared.key.DropMode.{DropMode}
use Rattle.moves.specs.Keys.{allows}
use Rattle.moves.specs.Step.{step_of}
use Rattle.moves.specs.Leads.{spawned}
use Rattle.moves.specs.Place.{IsPlace}
use Rattle.moves.specs.PlaceTest.{most_states, comes_to_rest, is_place}
use Rattle.moves.specs.States.{state_code}
use Rattle.moves.proofs.WalkLemmas.{short_keys, finds, found}
use Rattle.moves.proofs.StepLemmas.{IsFreeState, step_is_finite, spawned-free}
use Rattle.moves.proofs.RestTest.{to_tests, from_tests}

from_test : (table : Table) (F : Field) (mode : DropMode) (placement : Placement) → is_place table F mode placement ≡ true → IsPlace table F mode placement
unfolding is_place
from_test table F mode placement holds =
    search (rules, (found (step_of table F) (allows mode) (comes_to_rest F placement) most_states (spawned F placement.piece)), (and_parts (is_canonical placement)), (IsCanonical-from_test placement), (from_tests table F mode))

to_test : (table : Table) (F : Field) (mode : DropMode) (placement : Placement) → IsPlace table F mode placement → is_place table F mode placement ≡ true
unfolding is_place
to_test table F mode placement place =
    let way = to_tests table F mode place.keys placement place.led_to in
    let few = short_keys (step_of table F) (IsFreeState F placement.piece) state_code most_states (step_is_finite table F placement.piece) (allows mode) (spawned F placement.piece) way.state place.keys (spawned-free F placement.piece) way.leads in
    and_from _ _ (is_canonical-from placement place.canonical)
    (finds (step_of table F) (allows mode) (comes_to_rest F placement) most_states (spawned F placement.piece) way.state few.keys (omega (arith, few.few)) few.leads way.rests)

-- the test is true of the places and of no other placement
pub is_place-decides : (table : Table) (F : Field) (mode : DropMode) (placement : Placement) → (is_place table F mode placement ≡ true) ↔ IsPlace table F mode placement
is_place-decides table F mode placement = (from_test table F mode placement, to_test table F mode placement)
