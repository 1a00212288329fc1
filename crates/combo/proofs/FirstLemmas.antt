-- The first of the runs of so many placements.
use Rattle.std.proofs.lemmas.Grind.{common_steps}
use Rattle.std.proofs.Common.{◌≡◌, ◌≢◌, ℕ, ◌-◌, ◌≤◌, ◌<◌, false, List, [], ◌∷◌, length, refl, ap, sym, subst, ◌∙◌, arith, Option, Some, None, inl, inr, ◌⊎◌, rules}
use Rattle.std.specs.Ordering.{is_lt, ordering_then, ordering_reverse}
use Rattle.std.specs.declared.cmp.Ordering.{Ordering}
use Rattle.std.specs.declared.cmp.Ordering.TheVariants.{Less, Equal, Greater}
use Rattle.std.specs.Prelude.{IfSome}
use Rattle.arrayvec.specs.ArrayVec.{ArrayVec}
use Rattle.std.proofs.lemmas.Bool.{cases_Bool, false≢true}
use Rattle.lane_board.specs.Field.{Field}
use Rattle.srs.specs.Rising.{is_above, IsLeastAbove, NoneAbove}
use Rattle.srs.proofs.CallerLemmas.{below_is_less, placement_cmp-total, sequence_cmp-first, placement_cmp-antisymmetric}
use Rattle.srs.specs.declared.piece.Piece.{Piece}
use Rattle.srs.specs.declared.placement.Placement.{Placement}
use Rattle.srs.specs.Kick.{Table}
use Rattle.srs.specs.Piece.{piece_code}
use Rattle.srs.specs.Order.{placement_cmp, sequence_cmp}
use Rattle.well.specs.Lock.{locked, rows_removed}
use Rattle.moves.specs.declared.key.DropMode.{DropMode}
use Rattle.moves.specs.Place.{IsPlace}
use Rattle.hold_queue.specs.declared.hand.Hand.{Hand}
use Rattle.hold_queue.specs.declared.hand.Taken.{Taken}
use Rattle.hold_queue.specs.declared.hold.Hold.{Hold}
use Rattle.hold_queue.specs.AtHand.{Take, at_hand}
use Rattle.hold_queue.specs.Hand.{AreAllTakes, AreInOrder, Leaves, pieces_at}
use Rattle.hold_queue.proofs.CallerLemmas.{permits-of_takes, takes-of_permits}
use Rattle.combo.specs.Longest.{IsLongest}
use Rattle.combo.specs.First.{IsFirst, IsTakenRun, AreShorter, RunsOn, RunsOnIf, RunsOnUpTo}

-- ---- one placement after the other

-- the places of a taken piece
abbrev IsAt : Table → DropMode → Field → Taken → Placement → Type 0
IsAt table mode F taken q = (q.piece ≡ taken.piece) × IsPlace table F mode q

-- up to the next placement there are those up to the bound, and itself
up_to_next : (IsMember : Placement → Type 0) (bound : Option Placement) (q p : Placement) → IsLeastAbove placement_cmp IsMember bound q → IsMember p
    → is_above placement_cmp (Some q) p ≡ false → (is_above placement_cmp bound p ≡ false) ⊎ (p ≡ q)
up_to_next IsMember bound q p next member up_to = elim (cases_Bool (is_above placement_cmp bound p)) [
  | inl above ↦ by (placement_cmp p q) refl (next.least p member above)
  | inr below ↦ inl below
]
  where
    by : (o : Ordering) → placement_cmp p q ≡ o → placement_cmp p q ≢ Less → (is_above placement_cmp bound p ≡ false) ⊎ (p ≡ q)
    by Less is least = absurd (least is)
    by Equal is least = inr (placement_cmp-antisymmetric p q is)
    by Greater is least = absurd (false≢true (sym up_to ∙ ap is_lt (placement_cmp-total.antisymm q p ∙ ap ordering_reverse is)))

module _ (table : Table) (mode : DropMode) (hold : Hold) (F : Field) (queue : List Piece) (taken : Taken) (count : ℕ) (some : 0 < count) where
  -- before the first placement
  pub begins : AreShorter (RunsOnUpTo table mode hold F queue taken None) count
  begins = search (rules, false≢true)

  -- a placement after which no run is long enough
  pub goes_on : (bound : Option Placement) (q : Placement) → AreShorter (RunsOnUpTo table mode hold F queue taken bound) count → IsLeastAbove placement_cmp (IsAt table mode F taken) bound q
      → AreShorter (IsTakenRun table mode (locked F q) hold (pieces_at queue taken.rest)) (count - 1) → AreShorter (RunsOnUpTo table mode hold F queue taken (Some q)) count
  goes_on bound q so_far least rest = search (rules, (up_to_next (IsAt table mode F taken) bound q), so_far.each, rest.each)

  -- one that removes no row
  pub passes : (bound : Option Placement) (q : Placement) → AreShorter (RunsOnUpTo table mode hold F queue taken bound) count → IsLeastAbove placement_cmp (IsAt table mode F taken) bound q
      → rows_removed F q ≡ 0 → AreShorter (RunsOnUpTo table mode hold F queue taken (Some q)) count
  passes bound q so_far least none = search (rules, (up_to_next (IsAt table mode F taken) bound q), so_far.each)

  -- after the last placement
  pub ends : (bound : Option Placement) → AreShorter (RunsOnUpTo table mode hold F queue taken bound) count → NoneAbove placement_cmp (IsAt table mode F taken) bound → AreShorter (RunsOn table mode hold F queue taken) count
  ends bound so_far none = search (rules, cases_Bool, none.none, so_far.each)

  -- a placement that begins a run which is long enough
  pub found : (bound : Option Placement) (q : Placement) (rest run : List Placement) → AreShorter (RunsOnUpTo table mode hold F queue taken bound) count → IsLeastAbove placement_cmp (IsAt table mode F taken) bound q
      → 1 ≤ rows_removed F q → IsFirst (IsTakenRun table mode (locked F q) hold (pieces_at queue taken.rest)) (count - 1) rest → run ≡ q ∷ rest → IsFirst (RunsOn table mode hold F queue taken) count run
  found bound q rest run so_far least removes rest_first is = subst (IsFirst (RunsOn table mode hold F queue taken) count) (sym is) (record {
    member = (least.member.0, least.member.1, removes, rest_first.member);
    long = omega (arith, some, rest_first.long);
    first = first;
  })
    where
      by : (p : Placement) (other : List Placement) → RunsOn table mode hold F queue taken (p ∷ other) → length other ≡ count - 1 → placement_cmp p q ≢ Less → (o : Ordering) → placement_cmp p q ≡ o
          → sequence_cmp (p ∷ other) (q ∷ rest) ≢ Less
      by p other member long least_q Less order less = least_q order
      by p other member long least_q Equal order less = search (rules, (placement_cmp-antisymmetric p q order), (rest_first.first other))
      by p other member long least_q Greater order less = let greater : ordering_then Greater (sequence_cmp other rest) ≡ Less = sym (ap (λ o. ordering_then o (sequence_cmp other rest)) order) ∙ less in cc

      first : (other : List Placement) → RunsOn table mode hold F queue taken other → length other ≡ count → sequence_cmp other (q ∷ rest) ≢ Less
      first [] member long = absurd (omega (arith, some, long))
      first (p ∷ other) member long = elim (cases_Bool (is_above placement_cmp bound p)) [
        | inl above ↦ by p other member (omega (arith, long)) (least.least p (member.0, member.1) above) (placement_cmp p q) refl
        | inr below ↦ absurd (omega (arith, long, so_far.each (p ∷ other) (member, below)))
      ]

-- ---- two taken pieces

runs_on : (table : Table) (mode : DropMode) (hold : Hold) (F : Field) (queue : List Piece) (taken : Option Taken) (q : Placement) (run : List Placement) (left : List Piece) → Leaves queue taken q.piece left
    → IsPlace table F mode q → 1 ≤ rows_removed F q → IsTakenRun table mode (locked F q) hold left run → RunsOnIf table mode hold F queue taken (q ∷ run)
runs_on table mode hold F queue taken q run left leaves place removes rest = search rules

-- a run begins with one of the two
divided : (table : Table) (mode : DropMode) (hold : Hold) (F : Field) (queue : List Piece) (hand : Hand) (one other : Option Taken) → AreAllTakes hold queue hand one other
    → (q : Placement) (run : List Placement) → IsTakenRun table mode F hold (pieces_at queue hand) (q ∷ run) → RunsOnIf table mode hold F queue one (q ∷ run) ⊎ RunsOnIf table mode hold F queue other (q ∷ run)
divided table mode hold F queue hand one other ways q run member = search (rules, runs_on)

-- and what begins so is a run
on_taken : (table : Table) (mode : DropMode) (hold : Hold) (F : Field) (queue : List Piece) (hand : Hand) (taken : Option Taken)
    → ((piece : Piece) (rest : List Piece) → Leaves queue taken piece rest → Take hold (pieces_at queue hand) piece rest) → (run : List Placement) → RunsOnIf table mode hold F queue taken run
    → IsTakenRun table mode F hold (pieces_at queue hand) run
on_taken table mode hold F queue hand taken way rest on = search rules

-- the first placement has the taken piece
plays : (table : Table) (mode : DropMode) (hold : Hold) (F : Field) (queue : List Piece) (taken : Taken) (q : Placement) (run : List Placement)
    → RunsOnIf table mode hold F queue (Some taken) (q ∷ run) → piece_code q.piece ≡ piece_code taken.piece
plays table mode hold F queue taken q run on = ap piece_code on.0

-- a run that begins with a lesser piece comes before
before : (q p : Placement) (run other : List Placement) → piece_code q.piece < piece_code p.piece → sequence_cmp (p ∷ other) (q ∷ run) ≢ Less
before q p run other kind less = grind (arith, common_steps, below_is_less, sequence_cmp-first)

module _ (table : Table) (mode : DropMode) (hold : Hold) (F : Field) (queue : List Piece) (hand : Hand) (one other : Option Taken) (count : ℕ) (some : 0 < count)
    (ways : AreAllTakes hold queue hand one other) where
  abbrev BeginsWith : Option Taken → List Placement → Type 0
  BeginsWith taken run = RunsOnIf table mode hold F queue taken run

  abbrev IsMember : List Placement → Type 0
  IsMember run = IsTakenRun table mode F hold (pieces_at queue hand) run

  of_one : (run : List Placement) → BeginsWith one run → IsMember run
  of_one run on = on_taken table mode hold F queue hand one (λ piece rest leaves. (ways.each piece rest).0 (inl leaves)) run on

  of_other : (run : List Placement) → BeginsWith other run → IsMember run
  of_other run on = on_taken table mode hold F queue hand other (λ piece rest leaves. (ways.each piece rest).0 (inr leaves)) run on

  pub first_of_one : (run : List Placement) → AreInOrder one other → IsFirst (RunsOnIf table mode hold F queue one) count run → IsFirst (IsTakenRun table mode F hold (pieces_at queue hand)) count run
  first_of_one run order so_far = search (rules, (of_one run so_far.member), before, (plays table mode hold F queue), (divided table mode hold F queue), so_far.first)

  first_of_other : (run : List Placement) → AreShorter (RunsOnIf table mode hold F queue one) count → IsFirst (RunsOnIf table mode hold F queue other) count run
      → IsFirst (IsTakenRun table mode F hold (pieces_at queue hand)) count run
  first_of_other run short so_far = search (rules, (of_other run so_far.member), (divided table mode hold F queue), short.each, so_far.first)

  -- or of the other one
  pub first_of_either : (result : Option (ArrayVec Placement)) → AreShorter (RunsOnIf table mode hold F queue one) count
      → IfSome result (λ run. IsFirst (RunsOnIf table mode hold F queue other) count run.items)
      → IfSome result (λ run. IsFirst (IsTakenRun table mode F hold (pieces_at queue hand)) count run.items)
  first_of_either None short so_far = tt
  first_of_either (Some run) short so_far = first_of_other run.items short so_far

  pub none_of_both : AreShorter (RunsOnIf table mode hold F queue one) count → AreShorter (RunsOnIf table mode hold F queue other) count
      → AreShorter (IsTakenRun table mode F hold (pieces_at queue hand)) count
  none_of_both first second = record { each = each }
    where
      each : (r : List Placement) → IsMember r → length r < count
      each [] member = some
      each (p ∷ rest) member = elim (divided table mode hold F queue hand _ _ ways p rest member) [
        | inl on ↦ first.each (p ∷ rest) on
        | inr on ↦ second.each (p ∷ rest) on
      ]

-- ---- the runs of the pieces at hand

-- the run of no placement
pub empty_first : (table : Table) (mode : DropMode) (F : Field) (hold : Hold) (hand : List Piece) (count : ℕ) (run : List Placement) → count ≡ 0 → run ≡ []
    → IsFirst (IsTakenRun table mode F hold hand) count run
empty_first table mode F hold hand count run none is = grind (arith, common_steps)

-- the first of the longest runs
pub is_longest : (table : Table) (mode : DropMode) (F : Field) (hold : Hold) (queue : List Piece) (held : Option Piece) (hand : List Piece) (count : ℕ) (run : List Placement) → hand ≡ at_hand hold held queue → 1 ≤ count
    → IsFirst (IsTakenRun table mode F hold hand) (count - 1) run → AreShorter (IsTakenRun table mode F hold hand) count → IsLongest table mode F hold queue held run
is_longest table mode F hold queue held hand count run is some first short =
    search (rules, permits-of_takes, takes-of_permits)
