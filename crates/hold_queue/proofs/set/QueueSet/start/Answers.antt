-- The goals of `QueueSet::start` that need lemmas.
use Rattle.std.proofs.Common.{sym, subst, refl, arith, [], ◌∷◌, set as list_set, rules}
use Rattle.queue_pattern.specs.Pattern.{elements_of}
use Rattle.queue_pattern.proofs.CallerLemmas.{pattern-some}
use Rattle.hold_queue.specs.QueueSet.{queues_in_play}
use Rattle.hold_queue.specs.States.{AreStatesAfter}
use Rattle.hold_queue.proofs.FollowLemmas.{follows-start}
use Rattle.hold_queue.proofs.set.QueueSet.start.Goals as goal

pub invariant_of-set : goal.invariant_of-set
invariant_of-set c = record {
  room = refl;
  within = omega arith;
  follows = subst (λ index. AreStatesAfter (elements_of c.args.pattern.now) c.args.hold c.args.held
      (list_set (0 ∷ 0 ∷ 0 ∷ 0 ∷ 0 ∷ 0 ∷ 0 ∷ 0 ∷ 0 ∷ 0 ∷ 0 ∷ 0 ∷ 0 ∷ 0 ∷ 0 ∷ 0 ∷ []) index 1) []) (sym c.index_of.ensures.value)
      (follows-start (elements_of c.args.pattern.now) c.args.hold c.args.held (pattern-some c.args.pattern.now));
  due = search rules;
}

pub returns : goal.returns
unfolding queues_in_play
returns c = c.with_first_held.ensures
