-- A try at the deepest frame is a try of all frames.
use Rattle.std.proofs.Common.{◌-◌, get_or, take, arith, rules}
use Rattle.reach.specs.FloodRules.{flood_table}
use Rattle.enumerate.proofs.Stacks.{array-deeper, array-entered, array-over, array-room, array-try, try-entered, try-flooded, try-full, try-over, try-passed}
use Rattle.enumerate.proofs.advance.try_deepest.Goals as goal

pub try_next-requires : goal.try_next-requires
try_next-requires g c = search (rules, array-deeper)

pub returns-in-Passed-clause-tries : goal.returns-in-Passed-clause-tries
returns-in-Passed-clause-tries g c =
    array-try (flood_table c.args.rules.now) c.args.drop_mode (take c.args.depth c.args.frames.now) c.split_at_mut-walked.result.0.now c.split_at_mut-walked.ensures.front c.args.depth c.requires.some c.split_at_mut-walked.ensures.front_len c.index-walked-top.result c.try_next.new.self c.try_next.new.behind _ _ _
    (try-passed _ _ (take (c.args.depth - 1) c.split_at_mut-walked.result.0.now) (get_or c.split_at_mut-walked.result.0.now (c.args.depth - 1) c.index-walked-top.result) c.try_next.new.self
    (array-room (flood_table c.args.rules.now) c.args.drop_mode (take c.args.depth c.args.frames.now) c.split_at_mut-walked.result.0.now c.split_at_mut-walked.ensures.front c.args.depth c.requires.some c.split_at_mut-walked.ensures.front_len c.index-walked-top.result c.requires.room)
    (λ i. (c.in-Passed.ensures.same i).left) _ _ c.in-Passed.ensures.tries.0 c.in-Passed.ensures.tries.1)

pub returns-in-Flooded-clause-tries : goal.returns-in-Flooded-clause-tries
returns-in-Flooded-clause-tries g c =
    array-try (flood_table c.args.rules.now) c.args.drop_mode (take c.args.depth c.args.frames.now) c.split_at_mut-walked.result.0.now c.split_at_mut-walked.ensures.front c.args.depth c.requires.some c.split_at_mut-walked.ensures.front_len c.index-walked-top.result c.try_next.new.self c.try_next.new.behind _ _ _
    (try-flooded _ _ (take (c.args.depth - 1) c.split_at_mut-walked.result.0.now) (get_or c.split_at_mut-walked.result.0.now (c.args.depth - 1) c.index-walked-top.result) c.try_next.new.self
    (array-room (flood_table c.args.rules.now) c.args.drop_mode (take c.args.depth c.args.frames.now) c.split_at_mut-walked.result.0.now c.split_at_mut-walked.ensures.front c.args.depth c.requires.some c.split_at_mut-walked.ensures.front_len c.index-walked-top.result c.requires.room)
    (λ i. (c.in-Flooded.ensures.same i).left) _ _ c.in-Flooded.ensures.tries.0 c.in-Flooded.ensures.tries.1)

pub returns-in-Full-clause-tries : goal.returns-in-Full-clause-tries
returns-in-Full-clause-tries g c =
    array-try (flood_table c.args.rules.now) c.args.drop_mode (take c.args.depth c.args.frames.now) c.split_at_mut-walked.result.0.now c.split_at_mut-walked.ensures.front c.args.depth c.requires.some c.split_at_mut-walked.ensures.front_len c.index-walked-top.result c.try_next.new.self c.try_next.new.behind _ _ _
    (try-full _ _ (take (c.args.depth - 1) c.split_at_mut-walked.result.0.now) (get_or c.split_at_mut-walked.result.0.now (c.args.depth - 1) c.index-walked-top.result) c.try_next.new.self
    (array-room (flood_table c.args.rules.now) c.args.drop_mode (take c.args.depth c.args.frames.now) c.split_at_mut-walked.result.0.now c.split_at_mut-walked.ensures.front c.args.depth c.requires.some c.split_at_mut-walked.ensures.front_len c.index-walked-top.result c.requires.room)
    (λ i. (c.in-Full.ensures.same i).left) _ _ c.in-Full.ensures.tries.0 c.in-Full.ensures.tries.1)

pub returns-in-Entered-clause-within : goal.returns-in-Entered-clause-within
returns-in-Entered-clause-within g c = grind (arith, array-deeper)

pub returns-in-Entered-clause-tries : goal.returns-in-Entered-clause-tries
returns-in-Entered-clause-tries g c =
    let deeper = array-deeper (flood_table c.args.rules.now) c.args.drop_mode (take c.args.depth c.args.frames.now) c.split_at_mut-walked.result.0.now c.split_at_mut-walked.ensures.front c.args.depth c.requires.some c.split_at_mut-walked.ensures.front_len c.index-walked-top.result c.requires.room in
    array-entered (flood_table c.args.rules.now) c.args.drop_mode (take c.args.depth c.args.frames.now) c.split_at_mut-walked.result.0.now c.split_at_mut-walked.ensures.front c.args.depth c.requires.some c.split_at_mut-walked.ensures.front_len c.index-walked-top.result c.try_next.new.self c.try_next.new.behind _ _ c.try_next.new.self (omega (arith, deeper, c.in-Entered.ensures.tries.2, c.in-Entered.ensures.size, c.split_at_mut-walked.ensures.back_len))
    (try-entered _ _ (take (c.args.depth - 1) c.split_at_mut-walked.result.0.now) (get_or c.split_at_mut-walked.result.0.now (c.args.depth - 1) c.index-walked-top.result) c.try_next.new.self
    (array-room (flood_table c.args.rules.now) c.args.drop_mode (take c.args.depth c.args.frames.now) c.split_at_mut-walked.result.0.now c.split_at_mut-walked.ensures.front c.args.depth c.requires.some c.split_at_mut-walked.ensures.front_len c.index-walked-top.result c.requires.room)
    (λ i. (c.in-Entered.ensures.same i).left) _ _ _ c.in-Entered.ensures.tries.0 c.in-Entered.ensures.tries.1 c.in-Entered.ensures.tries.2)

pub returns-in-Over-clause-tries : goal.returns-in-Over-clause-tries
returns-in-Over-clause-tries g c =
    array-over (flood_table c.args.rules.now) c.args.drop_mode (take c.args.depth c.args.frames.now) c.split_at_mut-walked.result.0.now c.split_at_mut-walked.ensures.front c.args.depth c.requires.some c.split_at_mut-walked.ensures.front_len c.index-walked-top.result c.try_next.new.self c.try_next.new.behind _ _
    (try-over _ _ (take (c.args.depth - 1) c.split_at_mut-walked.result.0.now) (get_or c.split_at_mut-walked.result.0.now (c.args.depth - 1) c.index-walked-top.result) c.try_next.new.self
    (array-room (flood_table c.args.rules.now) c.args.drop_mode (take c.args.depth c.args.frames.now) c.split_at_mut-walked.result.0.now c.split_at_mut-walked.ensures.front c.args.depth c.requires.some c.split_at_mut-walked.ensures.front_len c.index-walked-top.result c.requires.room)
    (λ i. (c.in-Over.ensures.same i).left) _ _ c.in-Over.ensures.tries.0 c.in-Over.ensures.tries.1)
