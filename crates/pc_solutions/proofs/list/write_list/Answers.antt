-- Each turn writes the next solution.
use Rattle.std.proofs.Common.{◌∙◌, ◌*◌, ◌++◌, length, refl, sym, ap, arith}
use Rattle.placement_numbers.specs.Numbers.{sequence_numbers}
use Rattle.problem.specs.Problem.{needed_of}
use Rattle.problem.specs.SolutionList.{View}
use Rattle.enumerate.specs.ViewOf.{after_given, solutions, view_of}
use Rattle.pc_path.proofs.CallerLemmas.{drop_next, goes_on, within_next}
use Rattle.pc_solutions.proofs.SolutionsSoFar.{counted_all, ended_there, next_needed, numbers_next, rest_next, room_for_next, size_next}
use Rattle.pc_solutions.proofs.list.write_list.Goals as goal

pub returns-in_default-clause-count : goal.returns-in_default-clause-count
returns-in_default-clause-count g c =
    counted_all (solutions c.args.search.now) c.loop-count.count c.args.most (sym c.loop-count.invariant.5 ∙ c.in_default.ensures.found.0) c.loop-count.invariant.6 c.loop-count-test.true

pub returns-in_default-clause-ended : goal.returns-in_default-clause-ended
returns-in_default-clause-ended g c =
    ended_there (solutions c.args.search.now) c.loop-count.count c.args.most (sym c.loop-count.invariant.5 ∙ c.in_default.ensures.found.0) c.loop-count.invariant.6 c.loop-count-test.true

pub write_sequence-size-requires : goal.write_sequence-size-requires
write_sequence-size-requires g c =
    let long = next_needed c.args.problem.now (needed_of c.args.problem.now) (view_of c.loop-count.search) c.in-Some.sequence.items _ _ c.requires.fit refl
    c.loop-count.invariant.4.same c.in-Some.ensures.list c.in-Some.ensures.found.0 in
    let room = room_for_next c.loop-count.count c.args.most (4 * needed_of c.args.problem.now) (length c.args.placements.now) c.loop-count-test.true c.requires.room in
    omega (arith, room, c.loop-count.invariant.0, ap length c.as_slice.ensures.value, long, c.loop-count.auto.placements)

pub loop-count-preserved : goal.loop-count-preserved
loop-count-preserved g c =
    let all = solutions c.args.search.now in
    let count = c.loop-count.count in
    let next = sym c.loop-count.invariant.5 ∙ c.in-Some.ensures.found.0 in
    let slice = c.as_slice.ensures.value in
    let long = ap length slice ∙ next_needed c.args.problem.now (needed_of c.args.problem.now) (view_of c.loop-count.search) c.in-Some.sequence.items _ _ c.requires.fit refl
    c.loop-count.invariant.4.same c.in-Some.ensures.list c.in-Some.ensures.found.0 in
    let size = c.write_sequence-size.ensures.size in (
      size_next count (4 * needed_of c.args.problem.now) c.loop-count.size c.write_sequence-size.result (length c.as_slice.result.now) c.loop-count.invariant.0 size (ap (λ n. 4 * n) long),
      c.write_sequence-size.ensures.written
          ∙ (λ i. c.loop-count.invariant.1 i ++ sequence_numbers (slice i))
          ∙ numbers_next all count c.in-Some.sequence.items (solutions c.next.new.self) next,
      rest_next c.args.placements.now c.loop-count.placements c.write_sequence-size.new.bytes c.loop-count.size c.write_sequence-size.result (omega (arith, size)) c.loop-count.invariant.2
          c.write_sequence-size.ensures.rest,
      omega (arith, c.loop-count.invariant.3, c.in-Some.ensures.rose),
      goes_on c.args.problem.now (after_given c.args.search.now) c.loop-count.search c.next.new.self c.args.steps.now c.loop-count.steps c.next.new.steps c.loop-count.invariant.4 c.loop-count.invariant.3
          (ap (λ (v : View). v.problem) c.in-Some.ensures.found.1) (ap (λ (v : View). v.queue) c.in-Some.ensures.found.1) c.in-Some.ensures.after c.in-Some.ensures.counted c.in-Some.ensures.rose c.in-Some.ensures.bounded,
      sym (drop_next all count c.in-Some.sequence.items (solutions c.next.new.self) next),
      within_next all count c.in-Some.sequence.items (solutions c.next.new.self) next,
    )
