-- The flood's loop: what holds while it runs, how it comes to an end, and what holds then.
use Rattle.std.proofs.Common.{◌≡◌, ◌≢◌, ℕ, ◌<◌, true, sym, subst, inl, inr, ◌⊎◌, rules}
use Rattle.std.proofs.lemmas.Bool.{false≢true, cases_lt}
use Rattle.lane_board.specs.Field.{Field, empty_field}
use Rattle.lane_board.specs.CellCount.{cell_count}
use Rattle.lane_board.proofs.CallerLemmas.{cell_count-le}
use Rattle.srs.specs.declared.rotation.Rotation.{Rotation}
use Rattle.srs.specs.declared.piece.Piece.TheVariants.{I}
use Rattle.srs.specs.declared.placement.Placement.{Placement}
use Rattle.place_sets.specs.States.{States, has_state, states_with, no_states, Includes}
use Rattle.whole_flood.specs.Flood.{Ground, AreReached, IsLeftWithin, IsSettled, IsFlood}
use Rattle.place_sets.proofs.CallerLemmas.{LiesWithin, IsWithin, cell_count-more, fields-same, state_of, with_cases, ChangedIn, includes_trans, missing}
use Rattle.whole_flood.proofs.ReachedLemmas.{none_more, closed_has}

-- what holds between two rounds: the states of `done` were settled
pub record Progress (ground : Ground) (start done reached : States) : Type 0 where
  pub kept : Includes reached start
  pub sound : AreReached ground start reached
  pub behind : Includes reached done
  pub covered : (s : Placement) → s.piece ≡ ground.piece → has_state done s ≡ true → IsLeftWithin ground reached s

pub begins : (ground : Ground) (start : States) → Progress ground start no_states start
unfolding has_state empty_field
begins ground start = search (rules, none_more, false≢true)

pub goes_on : (ground : Ground) (r : Rotation) (start done reached next : States) → Progress ground start done reached → IsSettled ground r reached next → Progress ground start (states_with done r (next r)) next
unfolding has_state
goes_on ground r start done reached next before is = search (rules, includes_trans, with_cases, behind, covered)
  where
    in_next : (s : Placement) → ChangedIn done r (next r) s → has_state next s ≡ true
    in_next s changed = subst (λ r. next r s.x s.y ≡ true) (sym changed.here) changed.filled

    behind : (s : Placement) → ChangedIn done r (next r) s ⊎ (has_state done s ≡ true) → has_state next s ≡ true
    behind s h1 = search (rules, in_next)

    covered : (s : Placement) → s.piece ≡ ground.piece → ChangedIn done r (next r) s ⊎ (has_state done s ≡ true) → IsLeftWithin ground next s
    covered s kind (inl changed) = is.covers s kind changed.here (in_next s changed)
    covered s kind (inr old) = record { covered = λ key t allowed e. is.kept.has t ((before.covered s kind old).covered key t allowed e) }

-- where all is settled, all that is reached is there
pub ends : (ground : Ground) (start done reached : States) → Progress ground start done reached → done ≡ reached → IsFlood ground start reached
ends ground start done reached so_far same = record {
  exact = λ s kind. (
    so_far.sound.reached s kind,
    closed_has ground start reached (record {
      closed = λ s kind held. so_far.covered s kind (subst (λ S. has_state S s ≡ true) (sym same) held);
    }) so_far.kept.has s,
  );
}

-- fewer are missing after a round
field_grows : (N : ℕ) (F G H : Field) → IsWithin F G → IsWithin G H → LiesWithin G N → F ≢ G → cell_count F N < cell_count H N
field_grows N F G H one two lies differ = search (rules, cases_lt, cell_count-more, fields-same)

pub field_within : (S T : States) (r : Rotation) → Includes T S → IsWithin (S r) (T r)
unfolding has_state
field_within S T r is = record { has = λ x y filled. is.has (state_of I r x y) filled }

missing_falls : (N : ℕ) (done : States) (r : Rotation) (F : Field) → cell_count (done r) N < cell_count F N → missing N (states_with done r F) < missing N done
unfolding states_with
missing_falls N done r F more = search (rules, cell_count-le)

pub falls : (N : ℕ) (ground : Ground) (r : Rotation) (start done reached next : States) → Progress ground start done reached → IsSettled ground r reached next → LiesWithin (reached r) N → done r ≢ reached r → missing N (states_with done r (next r)) < missing N done
falls N ground r start done reached next before is lies differ =
    missing_falls N done r (next r) (field_grows N (done r) (reached r) (next r) (field_within done reached r before.behind) (field_within reached next r is.kept) lies differ)

-- the same, with what the code finds given by equations
pub goes_on_by : (ground : Ground) (r : Rotation) (start done reached next after : States) (F : Field) → F ≡ next r → after ≡ states_with done r F → Progress ground start done reached → IsSettled ground r reached next → Progress ground start after next
goes_on_by ground r start done reached next after F f e before is = search (rules, (goes_on ground r start done reached next before is))

pub falls_by : (N : ℕ) (ground : Ground) (r : Rotation) (start done reached next after : States) (F : Field) → F ≡ next r → after ≡ states_with done r F → Progress ground start done reached → IsSettled ground r reached next → LiesWithin (reached r) N → done r ≢ reached r → missing N after < missing N done
falls_by N ground r start done reached next after F f e before is lies differ = search (rules, falls)

pub begins_by : (ground : Ground) (start none : States) → none ≡ no_states → Progress ground start none start
begins_by ground start none e = subst (λ done. Progress ground start done start) (sym e) (begins ground start)
