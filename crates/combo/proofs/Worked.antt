-- The definitions, tried on a row with a gap of four columns: a straight piece in the gap is a run, one above the row is
-- none, and what is held back may be played.
use Rattle.std.proofs.Common.{◌≡◌, ℕ, ◌≤◌, ◌&&◌, nat_lt, true, List, [], ◌∷◌, length, Option, Some, None, refl, arith, rules}
use Rattle.std.specs.declared.cmp.Ordering.TheVariants.{Less}
use Rattle.lane_board.specs.Field.{Field}
use Rattle.lane_board.specs.FullRows.{is_full, full_below}
use Rattle.srs.specs.declared.piece.Piece.{Piece}
use Rattle.srs.specs.declared.piece.Piece.TheVariants.{I, T}
use Rattle.srs.specs.declared.rotation.Rotation.TheVariants as rotation
use Rattle.srs.specs.declared.placement.Placement.{Placement}
use Rattle.srs.specs.Cells.{moved}
use Rattle.srs.specs.Kick.{srs_table}
use Rattle.srs.specs.Order.{sequence_cmp}
use Rattle.srs.specs.SameCells.{is_among}
use Rattle.srs.proofs.CallerLemmas.{IsCanonical-from_test}
use Rattle.well.specs.Free.{is_open, is_free_at}
use Rattle.well.specs.Lock.{with_cells, together, rows_removed}
use Rattle.moves.specs.declared.key.Key.{Key}
use Rattle.moves.specs.declared.key.Key.TheVariants.{Right}
use Rattle.moves.specs.declared.key.DropMode.TheVariants.{Soft}
use Rattle.moves.specs.Leads.{spawned, state_after}
use Rattle.moves.specs.Place.{IsPlace}
use Rattle.moves.specs.PlaceTest.{comes_to_rest, leads_to_rest}
use Rattle.moves.specs.Rest.{rest_from}
use Rattle.moves.specs.Step.{first_free, shifted}
use Rattle.moves.proofs.CallerLemmas.{leads_to_rest-decides}
use Rattle.hold_queue.specs.declared.hold.Hold.{Hold}
use Rattle.hold_queue.specs.declared.hold.Hold.TheVariants.{Allowed, Avoided}
use Rattle.hold_queue.specs.Permits.{Way, plain, exchange, first_hold, last}
use Rattle.combo.specs.Longest.{IsLongest, IsPermittedRun}
use Rattle.problem.specs.Runs.{Runs}

abbrev row : Field
row x y = nat_lt x 6 && nat_lt y 1

abbrev straight : ℕ → Placement
straight y = record { piece = I; rotation = rotation.Spawn; x = 7; y = y }

abbrev three_to_the_right : List Key
three_to_the_right = Right ∷ Right ∷ Right ∷ []

leads_into_the_gap : leads_to_rest srs_table row Soft (straight 0) three_to_the_right ≡ true
unfolding leads_to_rest state_after spawned comes_to_rest rest_from first_free shifted is_free_at is_open moved is_among
leads_into_the_gap = refl

is_a_place : IsPlace srs_table row Soft (straight 0)
is_a_place = search (rules, IsCanonical-from_test, leads_to_rest-decides, leads_into_the_gap)

fills_the_row : rows_removed row (straight 0) ≡ 1
unfolding rows_removed together with_cells full_below is_full is_among moved
fills_the_row = refl

fills_no_row : rows_removed row (straight 1) ≡ 0
unfolding rows_removed together with_cells full_below is_full is_among moved
fills_no_row = refl

one_piece_is_a_run : Runs srs_table Soft row (straight 0 ∷ [])
one_piece_is_a_run = (is_a_place, omega (arith, fills_the_row), tt)

without_a_row_there_is_no_run : Runs srs_table Soft row (straight 1 ∷ []) → ⊥
without_a_row_there_is_no_run runs = omega (arith, runs.1, fills_no_row)

the_second_piece_is_permitted : IsPermittedRun srs_table Soft row Allowed (T ∷ I ∷ []) None (straight 0 ∷ [])
the_second_piece_is_permitted = record { runs = one_piece_is_a_run; permitted = ([], Some T, first_hold, tt) }

no_way : {hold : Hold} {queue : List Piece} {held : Option Piece} {piece : Piece} {rest : List Piece} {after : Option Piece}
    → Way hold queue held piece rest after → hold ≡ Avoided → queue ≡ T ∷ I ∷ [] → piece ≡ I → ⊥
no_way plain h q p = cc
no_way exchange h q p = cc
no_way first_hold h q p = cc
no_way last h q p = cc

without_hold_it_is_not : IsPermittedRun srs_table Soft row Avoided (T ∷ I ∷ []) None (straight 0 ∷ []) → ⊥
without_hold_it_is_not permitted = no_way permitted.permitted.2 refl refl refl

none_is_played : {hold : Hold} {queue : List Piece} {held : Option Piece} {piece : Piece} {rest : List Piece} {after : Option Piece}
    → Way hold queue held piece rest after → queue ≡ [] → held ≡ None → ⊥
none_is_played plain q h = cc
none_is_played exchange q h = cc
none_is_played first_hold q h = cc
none_is_played last q h = cc

with_no_piece_the_empty_run_is_longest : IsLongest srs_table Soft row Allowed [] None []
with_no_piece_the_empty_run_is_longest = record {
  permitted = record { runs = tt; permitted = tt };
  longest = λ other permitted. none_longer other permitted;
  least = λ other permitted long less. not_before other permitted less;
}
  where
    none_longer : (other : List Placement) → IsPermittedRun srs_table Soft row Allowed [] None other → length other ≤ 0
    none_longer [] permitted = omega arith
    none_longer (placement ∷ rest) permitted = absurd (none_is_played permitted.permitted.2 refl refl)

    not_before : (other : List Placement) → IsPermittedRun srs_table Soft row Allowed [] None other → sequence_cmp other [] ≡ Less → ⊥
    not_before [] permitted less = cc
    not_before (placement ∷ rest) permitted less = none_is_played permitted.permitted.2 refl refl
