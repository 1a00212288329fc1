-- One placement after the other, and the two pieces that may be taken.
use Rattle.std.proofs.Common.{◌≡◌, ◌≤◌, ◌-◌, sym, subst, arith, refl, rules}
use Rattle.reach.specs.FloodRules.{flood_table}
use Rattle.well.specs.Well.{filled}
use Rattle.well.specs.Lock.{rows_removed}
use Rattle.moves.proofs.CallerLemmas.{place-free}
use Rattle.hold_queue.specs.Hand.{pieces_at}
use Rattle.combo.specs.First.{IsFirst, IsTakenRun, AreShorter, RunsOnIf}
use Rattle.combo.proofs.BoundLemmas.{above_bound}
use Rattle.combo.proofs.FirstLemmas.{ends, first_of_either, first_of_one, found, goes_on, none_of_both, passes}
use Rattle.combo.proofs.PlacesLeft.{fewer_left, held_inside, kind_kept, least_held, least_place, none_place}
use Rattle.combo.proofs.search.+runs.Goals as goal

pub first_after-cleared-requires : goal.first_after-cleared-requires
first_after-cleared-requires g t c = search (rules, place-free)

pub first_after-returns-in-Some-first_run-clause-first : goal.first_after-returns-in-Some-first_run-clause-first
first_after-returns-in-Some-first_run-clause-first g t c =
    let table = flood_table c.args.play.now.rules in
    let mode = c.args.play.now.drop_mode in
    let hold = c.args.play.now.hold in
    let F = filled c.args.well.now in
    let queue = c.args.queue.now.items in
    let taken = c.in_ok-taken.taken in
    let q = c.in-Some.placement in
    let least = least_place c.places-places.result table F mode taken.piece _ c.loop-placement.entered q c.places-places.ensures.held c.as_ref.ensures.value c.in-Some.ensures in
    let rest = subst (λ G. IsFirst (IsTakenRun table mode G hold (pieces_at queue taken.rest)) (c.args.count - 1) c.in-Some-first_run.rest.items) c.in-Some-cleared.ensures.left c.in-Some-first_run.ensures.first in
    let some : 1 ≤ rows_removed F q = c.in-Some-cleared.ensures.removes in
    subst (λ taken. IsFirst (RunsOnIf table mode hold F queue taken) c.args.count c.with_first.result.items) (sym c.in_ok-taken.was)
    (found table mode hold F queue taken c.args.count c.requires.placements c.loop-placement.entered q c.in-Some-first_run.rest.items c.with_first.result.items c.loop-placement.invariant.0 least some rest c.with_first.ensures)

pub first_after-loop-placement-smaller-in_default-first_run : goal.first_after-loop-placement-smaller-in_default-first_run
first_after-loop-placement-smaller-in_default-first_run g t c =
    fewer_left c.places-places.result c.loop-placement.entered c.in-Some.placement
    (held_inside c.places-places.result (flood_table c.args.play.now.rules) (filled c.args.well.now) c.args.play.now.drop_mode c.in_ok-taken.taken.piece c.places-places.ensures.piece c.places-places.ensures.held)
    (least_held c.places-places.result _ c.loop-placement.entered c.in-Some.placement c.as_ref.ensures.value c.in-Some.ensures)

pub first_after-loop-placement-preserved-in_default-first_run : goal.first_after-loop-placement-preserved-in_default-first_run
first_after-loop-placement-preserved-in_default-first_run g t c =
    let table = flood_table c.args.play.now.rules in
    let mode = c.args.play.now.drop_mode in
    let hold = c.args.play.now.hold in
    let F = filled c.args.well.now in
    let queue = c.args.queue.now.items in
    let taken = c.in_ok-taken.taken in
    let q = c.in-Some.placement in
    let least = least_place c.places-places.result table F mode taken.piece _ c.loop-placement.entered q c.places-places.ensures.held c.as_ref.ensures.value c.in-Some.ensures in
    let kind = kind_kept q taken.piece least.member.0 in
    let rest = subst (λ G. AreShorter (IsTakenRun table mode G hold (pieces_at queue taken.rest)) (c.args.count - 1)) c.in-Some-cleared.ensures.left (c.in_default-first_run.ensures.none refl) in (
      goes_on table mode hold F queue taken c.args.count c.requires.placements c.loop-placement.entered q c.loop-placement.invariant.0 least rest,
      kind,
      c.places-places.ensures.piece,
      c.in_default-first_run.ensures.known,
      omega arith,
    )

pub first_after-loop-placement-smaller : goal.first_after-loop-placement-smaller
first_after-loop-placement-smaller g t c =
    fewer_left c.places-places.result c.loop-placement.entered c.in-Some.placement
    (held_inside c.places-places.result (flood_table c.args.play.now.rules) (filled c.args.well.now) c.args.play.now.drop_mode c.in_ok-taken.taken.piece c.places-places.ensures.piece c.places-places.ensures.held)
    (least_held c.places-places.result _ c.loop-placement.entered c.in-Some.placement c.as_ref.ensures.value c.in-Some.ensures)

pub first_after-loop-placement-preserved : goal.first_after-loop-placement-preserved
first_after-loop-placement-preserved g t c =
    let table = flood_table c.args.play.now.rules in
    let mode = c.args.play.now.drop_mode in
    let hold = c.args.play.now.hold in
    let F = filled c.args.well.now in
    let queue = c.args.queue.now.items in
    let taken = c.in_ok-taken.taken in
    let q = c.in-Some.placement in
    let least = least_place c.places-places.result table F mode taken.piece _ c.loop-placement.entered q c.places-places.ensures.held c.as_ref.ensures.value c.in-Some.ensures in
    let kind = kind_kept q taken.piece least.member.0 in
    let none : rows_removed F q ≡ 0 = c.in_default-cleared.ensures.none refl in
    (passes table mode hold F queue taken c.args.count c.requires.placements c.loop-placement.entered q c.loop-placement.invariant.0 least none, kind, c.places-places.ensures.piece, c.loop-placement.invariant.3, c.loop-placement.invariant.4)

pub first_after-returns-clause-none : goal.first_after-returns-clause-none
first_after-returns-clause-none g t c is =
    subst (λ taken. AreShorter (RunsOnIf (flood_table c.args.play.now.rules) c.args.play.now.drop_mode c.args.play.now.hold (filled c.args.well.now) c.args.queue.now.items taken) c.args.count) (sym c.in_ok-taken.was)
    (ends (flood_table c.args.play.now.rules) c.args.play.now.drop_mode c.args.play.now.hold (filled c.args.well.now) c.args.queue.now.items c.in_ok-taken.taken c.args.count c.requires.placements c.loop-placement.entered
    c.loop-placement.invariant.0
    (none_place c.places-places.result (flood_table c.args.play.now.rules) (filled c.args.well.now) c.args.play.now.drop_mode c.in_ok-taken.taken.piece _ c.loop-placement.entered c.places-places.ensures.held c.as_ref.ensures.value c.in_default.ensures))

pub first_run-returns-then-most-count-clause-none : goal.first_run-returns-then-most-count-clause-none
first_run-returns-then-most-count-clause-none g t c is = search (rules, above_bound)

pub first_of_takes-returns-in-Some-clause-first : goal.first_of_takes-returns-in-Some-clause-first
first_of_takes-returns-in-Some-clause-first g t c =
    first_of_one (flood_table c.args.play.now.rules) c.args.play.now.drop_mode c.args.play.now.hold (filled c.args.well.now) c.args.queue.now.items c.args.hand
    c.takes-one.result.0 c.takes-one.result.1 c.args.count c.requires.placements c.takes-one.ensures.all c.in-Some.run'.items c.takes-one.ensures.order c.in-Some.ensures.first

pub first_of_takes-returns-clause-first : goal.first_of_takes-returns-clause-first
first_of_takes-returns-clause-first g t c =
    first_of_either (flood_table c.args.play.now.rules) c.args.play.now.drop_mode c.args.play.now.hold (filled c.args.well.now) c.args.queue.now.items c.args.hand
    c.takes-one.result.0 c.takes-one.result.1 c.args.count c.requires.placements c.takes-one.ensures.all c.first_after-2.result (c.in_default.ensures.none refl) c.first_after-2.ensures.first

pub first_of_takes-returns-clause-none : goal.first_of_takes-returns-clause-none
first_of_takes-returns-clause-none g t c is = search (rules, none_of_both)
