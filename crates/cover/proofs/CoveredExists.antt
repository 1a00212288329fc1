-- The rising list of the covered queues: those that a test passes.
use Rattle.std.proofs.Common.{◌≡◌, ◌↔◌, ℕ, ◌-◌, Bool, true, false, ◌&&◌, ◌==◌, eqb-true, eq-eqb, List, [], ◌∷◌, length, Option, Some, None, refl, arith, rules}
use Rattle.std.specs.Prelude.{filter, slice_get}
use Rattle.std.specs.List.{list_any, range_with_len}
use Rattle.std.specs.Ordering.{nat_cmp}
use Rattle.std.proofs.lemmas.Bool.{and_from, and_parts}
use Rattle.std.proofs.lemmas.List.Kept.{IsStrictlySortedBy-filter}
use Rattle.std.proofs.lemmas.Option.{slice_get_within}
use Rattle.lane_board.specs.Field.{Field}
use Rattle.srs.proofs.CallerLemmas.{Contains-filter, Contains-from_filter, Contains-range, rising-range, some_passes, any_passes}
use Rattle.srs.specs.declared.piece.Piece.{Piece}
use Rattle.srs.specs.declared.placement.Placement.{Placement}
use Rattle.srs.specs.Kick.{Table}
use Rattle.srs.specs.Rules.{table_of}
use Rattle.well.specs.Lock.{locked, rows_removed}
use Rattle.well.specs.LockLaws.{is_below}
use Rattle.well.specs.Well.{filled}
use Rattle.moves.specs.declared.key.DropMode.{DropMode}
use Rattle.moves.specs.PlaceTest.{is_place}
use Rattle.queue_pattern.specs.Pattern.{elements_of}
use Rattle.queue_pattern.specs.Queues.{queues}
use Rattle.hold_queue.specs.Permits.{permits}
use Rattle.hold_queue.proofs.CallerLemmas.{permits-decides}
use Rattle.problem.specs.declared.problem.Problem.{Problem}
use Rattle.problem.specs.Plays.{Plays}
use Rattle.problem.specs.Problem.{IsFit}
use Rattle.problem.specs.Solution.{PlaysIn, pieces_of}
use Rattle.problem.proofs.CallerLemmas.{IsLow, filled-low, locked-low}
use Rattle.moves.proofs.CallerLemmas.{is_place-decides, place-free}
use Rattle.cover.specs.Covered.{IsCovered, IsCoveredList}

-- ---- whether a sequence clears a field

plays : Table → DropMode → Field → ℕ → List Placement → Bool
plays table mode F rows [] = rows == 0
plays table mode F rows (q ∷ rest) =
    (is_place table F mode q && is_below rows q) && plays table mode (locked F q) (rows - rows_removed F q) rest

plays-decides : (table : Table) (mode : DropMode) (F : Field) (rows : ℕ) (sequence : List Placement) → IsLow F rows → (plays table mode F rows sequence ≡ true) ↔ Plays table mode F rows sequence
unfolding plays
plays-decides table mode F rows [] low = search (rules, eqb-true, eq-eqb)
plays-decides table mode F rows (q ∷ rest) low = (
  λ is.
      let parts = and_parts (is_place table F mode q && is_below rows q) _ is in
      let first = and_parts (is_place table F mode q) (is_below rows q) parts.0 in
      let place = (is_place-decides table F mode q).0 first.0 in
      (place, first.1, (plays-decides table mode (locked F q) (rows - rows_removed F q) rest (locked-low F rows q low first.1 (place-free table F mode q place))).0 parts.1),
  λ played.
      and_from (is_place table F mode q && is_below rows q) _
      (and_from (is_place table F mode q) (is_below rows q) ((is_place-decides table F mode q).1 played.0) played.1)
      ((plays-decides table mode (locked F q) (rows - rows_removed F q) rest (locked-low F rows q low played.1 (place-free table F mode q played.0))).1 played.2),
)

-- ---- the covered queues

module _ (problem : Problem) (fit : IsFit problem) (sequences : List (List Placement)) where
  all_queues : List (List Piece)
  all_queues = queues (elements_of problem.pattern)

  low : IsLow (filled problem.well) problem.height
  low = filled-low problem.well problem.height (omega (arith, fit.field.fit.low)) fit.field.below

  clears : List Placement → Bool
  clears sequence = plays (table_of problem.rules) problem.drop_mode (filled problem.well) problem.height sequence

  clears-decides : (sequence : List Placement) → (clears sequence ≡ true) ↔ PlaysIn problem sequence
  unfolding clears
  clears-decides sequence = plays-decides (table_of problem.rules) problem.drop_mode (filled problem.well) problem.height sequence low

  answers : List Piece → List Placement → Bool
  answers queue sequence = clears sequence && permits problem.hold queue problem.held (pieces_of sequence)

  covers : Option (List Piece) → Bool
  covers None = false
  covers (Some queue) = list_any (answers queue) sequences

  covers-is : (number : ℕ) (found : Option (List Piece)) → slice_get all_queues number ≡ found → covers found ≡ true → IsCovered problem sequences number
  unfolding covers answers all_queues
  covers-is number None there is = cc
  covers-is number (Some queue) there is =
      search (rules, (some_passes (λ sequence. clears sequence && permits problem.hold queue problem.held (pieces_of sequence)) sequences is), clears-decides, and_parts, (permits-decides problem.hold queue problem.held))

  covers-from : (number : ℕ) → IsCovered problem sequences number → covers (slice_get all_queues number) ≡ true
  unfolding covers answers all_queues
  covers-from number is =
      search (rules, (any_passes (λ sequence. clears sequence && permits problem.hold is.queue problem.held (pieces_of sequence)) sequences is.sequence is.given (and_from (clears is.sequence) (permits problem.hold is.queue problem.held (pieces_of is.sequence)) ((clears-decides is.sequence).1 is.plays) ((permits-decides problem.hold is.queue problem.held (pieces_of is.sequence)).1 is.permitted))))

  is_covered : ℕ → Bool
  is_covered number = covers (slice_get all_queues number)

  pub covered-list : (numbers : List ℕ) × IsCoveredList problem sequences numbers
  unfolding is_covered all_queues
  covered-list =
      let range = range_with_len 0 (length all_queues) in (
        filter is_covered range,
        record {
          rising = IsStrictlySortedBy-filter nat_cmp is_covered range (rising-range 0 (length all_queues));
          members = λ number. (
            λ among. covers-is number (slice_get all_queues number) refl (Contains-from_filter is_covered range number among).1,
            λ is. Contains-filter is_covered range number (Contains-range 0 (length all_queues) number (omega arith) (omega (arith, slice_get_within all_queues number is.queue is.there))) (covers-from number is),
          );
        },
      )
