-- The goals of `QueueSet::with_first_held` that need lemmas.
use Rattle.std.proofs.Common.{◌∙◌, ap, sym, subst, refl, None, Some, take}
use Rattle.queue_pattern.specs.Pattern.{elements_of}
use Rattle.hold_queue.specs.declared.hold.Hold.TheVariants.{Allowed}
use Rattle.hold_queue.specs.QueueSet.{queues_in_play}
use Rattle.hold_queue.specs.States.{AreStatesAfter, in_progress, drawn_by, family_at, IsHeldFamily}
use Rattle.hold_queue.proofs.FirstHeld.{follows-held, empty-none}
use Rattle.hold_queue.proofs.SetFacts.{played-length, set-stands}
use Rattle.hold_queue.proofs.set.QueueSet.with_first_held.Goals as goal

pub invariant_of-set : goal.invariant_of-set
invariant_of-set c =
    let set = c.args.self in
    let elements = elements_of set.pattern in
    let played = take set.number set.played in
    let allowed = c.in_default.is in
    record {
      room = set.room;
      within = set.within;
      follows = subst (λ hold. AreStatesAfter elements hold set.held c.first_held-set.result played) (sym allowed)
          (follows-held elements set.held set.states.words c.first_held-set.result played c.in-Some.field-0
          (ap (λ n. in_progress elements (drawn_by set.held n None)) (played-length set) ∙ sym set.due.empty_handed ∙ c.in-Some.is)
          (empty-none (family_at c.first_held-set.result None) c.first_held-set.ensures.none)
          (λ piece. subst (λ n. IsHeldFamily elements Allowed set.held set.states.words n piece (family_at c.first_held-set.result (Some piece))) (sym (played-length set))
          (subst (λ hold. IsHeldFamily elements hold set.held set.states.words set.number piece (family_at c.first_held-set.result (Some piece))) allowed (c.first_held-set.ensures.held piece elements set.held set.number (set-stands set) set.due)))
          (subst (λ hold. AreStatesAfter elements hold set.held set.states.words played) allowed set.follows));
      due = set.due;
    }

pub returns : goal.returns
unfolding queues_in_play
returns c = refl
