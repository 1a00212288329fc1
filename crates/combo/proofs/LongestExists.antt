-- There is a longest run: the best of all permitted runs, of which there are finitely many.
use Rattle.std.proofs.Common.{◌≡◌, ◌≢◌, ◌∙◌, ◌⊎◌, ℕ, zero, suc, ◌≤◌, Bool, true, cond, ◌&&◌, nat_le, le-leb, leb-true, List, [], ◌∷◌, length, map, Option, refl, sym, ap, subst, inl, inr, arith, rules}
use Rattle.std.specs.Prelude.{Contains, filter}
use Rattle.std.specs.List.{flat_map}
use Rattle.std.specs.Cmp.{tied_itself}
use Rattle.std.specs.Ordering.{ordering_reverse}
use Rattle.std.specs.FinMap.{slice_cmp-IsAntisymmetric}
use Rattle.std.specs.declared.cmp.Ordering.{Ordering}
use Rattle.std.specs.declared.cmp.Ordering.TheVariants.{Less, Equal, Greater}
use Rattle.std.proofs.lemmas.Bool.{and_from, and_parts, cases_Bool, cases_order}
use Rattle.std.proofs.lemmas.List.{length-map}
use Rattle.lane_board.specs.Field.{Field}
use Rattle.srs.proofs.CallerLemmas.{Contains-cases, Contains-filter, Contains-flat_map, Contains-from_filter, Contains-from_flat_map, Contains-from_map, Contains-here, Contains-map, Contains-none, Contains-there, placement_cmp-antisymmetric, placements_of-list, sequence_cmp-total}
use Rattle.srs.specs.declared.piece.Piece.{Piece}
use Rattle.srs.specs.declared.placement.Placement.{Placement}
use Rattle.srs.specs.Kick.{Table}
use Rattle.srs.specs.Order.{sequence_cmp}
use Rattle.srs.specs.Piece.{all_pieces}
use Rattle.srs.specs.Placements.{placements_of}
use Rattle.well.specs.Lock.{locked, rows_removed}
use Rattle.well.proofs.CallerLemmas.{free_inside}
use Rattle.moves.specs.declared.key.DropMode.{DropMode}
use Rattle.moves.specs.Place.{IsPlace}
use Rattle.moves.specs.PlaceTest.{is_place}
use Rattle.moves.proofs.CallerLemmas.{is_place-decides, place-free}
use Rattle.hold_queue.specs.declared.hold.Hold.{Hold}
use Rattle.hold_queue.specs.AtHand.{at_hand}
use Rattle.hold_queue.specs.Permits.{permits}
use Rattle.hold_queue.proofs.CallerLemmas.{Contains-piece, permits-decides, takes-length, takes-of_permits}
use Rattle.combo.specs.Longest.{IsLongest, IsPermittedRun}
use Rattle.problem.specs.Runs.{Runs}
use Rattle.problem.specs.Solution.{pieces_of}

-- ---- the best of a list

-- one is as long and comes no later, or is longer
record IsAsGood (one other : List Placement) : Type 0 where
  long : length other ≤ length one
  first : length other ≡ length one → sequence_cmp other one ≢ Less

good-itself : (one : List Placement) → IsAsGood one one
good-itself one = record { long = omega arith; first = λ _ less. let tied : sequence_cmp one one ≡ Equal = tied_itself sequence_cmp-total one in cc }

not_before : (one two three : List Placement) → sequence_cmp two one ≢ Less → sequence_cmp three two ≢ Less → sequence_cmp three one ≢ Less
not_before one two three first second less = by (sequence_cmp one two) refl
  where
    by : (o : Ordering) → sequence_cmp one two ≡ o → ⊥
    by Less is = second (sequence_cmp-total.trans three one two less is)
    by Equal is = second (subst (λ s. sequence_cmp three s ≡ Less) (slice_cmp-IsAntisymmetric placement_cmp-antisymmetric one two is) less)
    by Greater is = first (sequence_cmp-total.antisymm two one ∙ ap ordering_reverse is)

good-then : (one two three : List Placement) → IsAsGood one two → IsAsGood two three → IsAsGood one three
good-then one two three first second = search (rules, not_before)

record Better (one two : List Placement) : Type 0 where
  best : List Placement
  either : (best ≡ one) ⊎ (best ≡ two)
  first : IsAsGood best one
  second : IsAsGood best two

better : (one two : List Placement) → Better one two
better one two = elim (cases_order (length one) (length two)) [
  | inl same ↦ by (sequence_cmp one two) refl same
  | inr apart ↦ elim apart [
    | inl shorter ↦ record { best = two; either = inr refl; first = record { long = omega (arith, shorter); first = λ e. absurd (omega (arith, e, shorter)) }; second = good-itself two }
    | inr longer ↦ record { best = one; either = inl refl; first = good-itself one; second = record { long = omega (arith, longer); first = λ e. absurd (omega (arith, e, longer)) } }
  ]
]
  where
    by : (o : Ordering) → sequence_cmp one two ≡ o → length one ≡ length two → Better one two
    by Less is same = record {
      best = one;
      either = inl refl;
      first = good-itself one;
      second = record { long = omega (arith, same); first = λ _ less. let back : sequence_cmp two one ≡ Greater = sequence_cmp-total.antisymm two one ∙ ap ordering_reverse is in cc };
    }
    by Equal is same = record {
      best = one;
      either = inl refl;
      first = good-itself one;
      second = record { long = omega (arith, same); first = λ _ less. let back : sequence_cmp two one ≡ Equal = sequence_cmp-total.antisymm two one ∙ ap ordering_reverse is in cc };
    }
    by Greater is same = search (rules, (good-itself two))

record IsBest (list : List (List Placement)) (best : List Placement) : Type 0 where
  among : Contains list best
  good : (other : List Placement) → Contains list other → IsAsGood best other

the_best : (one : List Placement) (list : List (List Placement)) → (best : List Placement) × IsBest (one ∷ list) best
the_best one [] = (
  one,
  record {
    among = Contains-here one [];
    good = λ other among. elim (Contains-cases one [] other among) [
      | inl here ↦ subst (IsAsGood one) here (good-itself one)
      | inr there ↦ absurd (Contains-none other there)
    ];
  },
)
the_best one (two ∷ list) =
    let chosen = better one two in
    let rest = the_best chosen.best list in
    let of_chosen : IsAsGood rest.0 chosen.best = rest.1.good chosen.best (Contains-here chosen.best list) in (
      rest.0,
      record {
        among = elim (Contains-cases chosen.best list rest.0 rest.1.among) [
          | inl here ↦ elim chosen.either [
            | inl is ↦ subst (Contains (one ∷ two ∷ list)) (sym is ∙ here) (Contains-here one (two ∷ list))
            | inr is ↦ subst (Contains (one ∷ two ∷ list)) (sym is ∙ here) (Contains-there one (two ∷ list) two (Contains-here two list))
          ]
          | inr there ↦ Contains-there one (two ∷ list) rest.0 (Contains-there two list rest.0 there)
        ];
        good = λ other among. elim (Contains-cases one (two ∷ list) other among) [
          | inl here ↦ subst (IsAsGood rest.0) here (good-then rest.0 chosen.best one of_chosen chosen.first)
          | inr later ↦ elim (Contains-cases two list other later) [
            | inl here ↦ subst (IsAsGood rest.0) here (good-then rest.0 chosen.best two of_chosen chosen.second)
            | inr there ↦ rest.1.good other (Contains-there chosen.best list other there)
          ]
        ];
      },
    )

-- ---- all runs of at most so many placements

module _ (table : Table) (mode : DropMode) where
  steps_on : Field → Placement → Bool
  steps_on F q = is_place table F mode q && nat_le 1 (rows_removed F q)

  all_placements : List Placement
  all_placements = flat_map placements_of all_pieces

  runs_within : ℕ → Field → List (List Placement)
  runs_within zero F = [] ∷ []
  runs_within (suc k) F = [] ∷ flat_map (λ q. cond (steps_on F q) (map (λ rest. q ∷ rest) (runs_within k (locked F q))) []) all_placements

  step-is : (F : Field) (q : Placement) → steps_on F q ≡ true → IsPlace table F mode q × (1 ≤ rows_removed F q)
  unfolding steps_on
  step-is F q is =
      let parts = and_parts (is_place table F mode q) (nat_le 1 (rows_removed F q)) is in
      ((is_place-decides table F mode q).0 parts.0, leb-true 1 (rows_removed F q) parts.1)

  step-from : (F : Field) (q : Placement) → IsPlace table F mode q → 1 ≤ rows_removed F q → steps_on F q ≡ true
  unfolding steps_on
  step-from F q place removes =
      and_from (is_place table F mode q) (nat_le 1 (rows_removed F q)) ((is_place-decides table F mode q).1 place) (le-leb 1 (rows_removed F q) removes)

  are_runs : (k : ℕ) (F : Field) (run : List Placement) → Contains (runs_within k F) run → Runs table mode F run
  unfolding runs_within
  are_runs zero F run among = search (rules, (Contains-cases [] [] run among), (Contains-none run))
  are_runs (suc k) F run among = elim (Contains-cases [] _ run among) [
    | inl here ↦ subst (Runs table mode F) here tt
    | inr there ↦
        let found = Contains-from_flat_map (λ q. cond (steps_on F q) (map (λ rest. q ∷ rest) (runs_within k (locked F q))) []) all_placements run there in
        elim (cases_Bool (steps_on F found.0)) [
          | inl steps ↦
              let made = Contains-from_map (λ rest. found.0 ∷ rest) (runs_within k (locked F found.0)) run (subst (λ b. Contains (cond b (map (λ rest. found.0 ∷ rest) (runs_within k (locked F found.0))) []) run) steps found.2) in
              let is = step-is F found.0 steps in
              subst (Runs table mode F) made.2 (is.0, is.1, are_runs k (locked F found.0) made.0 made.1)
          | inr stays ↦ absurd (Contains-none run (subst (λ b. Contains (cond b (map (λ rest. found.0 ∷ rest) (runs_within k (locked F found.0))) []) run) stays found.2))
        ]
  ]

  among_all : (F : Field) (q : Placement) → IsPlace table F mode q → Contains all_placements q
  unfolding all_placements
  among_all F q place =
      search (rules, (Contains-flat_map placements_of all_pieces q.piece q (Contains-piece q.piece)), (placements_of-list q.piece), (free_inside F q (place-free table F mode q place)))

  has_runs : (k : ℕ) (F : Field) (run : List Placement) → length run ≤ k → Runs table mode F run → Contains (runs_within k F) run
  unfolding runs_within
  has_runs zero F [] short runs = Contains-here {A = List Placement} [] []
  has_runs zero F (q ∷ rest) short runs = absurd (omega (arith, short))
  has_runs (suc k) F [] short runs = Contains-here {A = List Placement} [] _
  has_runs (suc k) F (q ∷ rest) short runs =
      Contains-there [] _ (q ∷ rest)
      (Contains-flat_map (λ q. cond (steps_on F q) (map (λ rest. q ∷ rest) (runs_within k (locked F q))) []) all_placements q (q ∷ rest) (among_all F q runs.0)
      (subst (λ b. Contains (cond b (map (λ rest. q ∷ rest) (runs_within k (locked F q))) []) (q ∷ rest)) (sym (step-from F q runs.0 runs.1))
      (Contains-map (λ rest. q ∷ rest) (runs_within k (locked F q)) rest (has_runs k (locked F q) rest (omega (arith, short)) runs.2))))

  -- ---- those that are permitted

  module _ (F : Field) (hold : Hold) (queue : List Piece) (held : Option Piece) where
    is_permitted : List Placement → Bool
    is_permitted run = permits hold queue held (pieces_of run)

    most : ℕ
    most = length (at_hand hold held queue)

    all_permitted : List (List Placement)
    all_permitted = filter is_permitted (runs_within most F)

    permitted-is : (run : List Placement) → Contains all_permitted run → IsPermittedRun table mode F hold queue held run
    unfolding all_permitted is_permitted
    permitted-is run among =
        let both = Contains-from_filter is_permitted (runs_within most F) run among in
        record { runs = are_runs most F run both.0; permitted = (permits-decides hold queue held (pieces_of run)).0 both.1 }

    within : (run : List Placement) → IsPermittedRun table mode F hold queue held run → length run ≤ most
    unfolding most
    within run member =
        omega (arith, length-map run (λ (placement : Placement). placement.piece), takes-length hold (at_hand hold held queue) _ (takes-of_permits hold queue held _ member.permitted))

    permitted-there : (run : List Placement) → IsPermittedRun table mode F hold queue held run → Contains all_permitted run
    unfolding all_permitted is_permitted most
    permitted-there run member =
        Contains-filter is_permitted (runs_within most F) run
        (has_runs most F run (within run member) member.runs)
        ((permits-decides hold queue held (pieces_of run)).1 member.permitted)

    longest_of : (list : List (List Placement)) → ((run : List Placement) → Contains list run → IsPermittedRun table mode F hold queue held run)
        → ((run : List Placement) → IsPermittedRun table mode F hold queue held run → Contains list run) → (run : List Placement) × IsLongest table mode F hold queue held run
    longest_of [] are there = absurd (Contains-none [] (there [] (record { runs = tt; permitted = tt })))
    longest_of (one ∷ list) are there =
        let best = the_best one list in (
          best.0,
          record {
            permitted = are best.0 best.1.among;
            longest = λ other member. (best.1.good other (there other member)).long;
            least = λ other member. (best.1.good other (there other member)).first;
          },
        )

    pub longest-exists : (run : List Placement) × IsLongest table mode F hold queue held run
    longest-exists = longest_of all_permitted permitted-is permitted-there
