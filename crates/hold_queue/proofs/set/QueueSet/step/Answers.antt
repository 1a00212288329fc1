-- The goals of `QueueSet::step` that need lemmas.
use Rattle.std.proofs.Common.{◌∙◌, ap, length-set, arith, rules, set as list_set}
use Rattle.queue_pattern.specs.Pattern.{elements_of}
use Rattle.hold_queue.specs.QueueSet.{queues_in_play}
use Rattle.hold_queue.specs.States.{in_progress}
use Rattle.hold_queue.proofs.SetFacts.{set-room, set-follows, set-coming, step-leads, played-more}
use Rattle.hold_queue.proofs.set.QueueSet.step.Goals as goal

pub bounds-self-before : goal.bounds-self-before
bounds-self-before c = set-room c.args.before.now c.args.step.now.piece c.requires.permitted

pub invariant_of-self : goal.invariant_of-self
invariant_of-self c =
    let set = c.args.before.now in
    let step = c.args.step.now in
    let elements = elements_of set.pattern in
    let room = set-room set step.piece c.requires.permitted in
    record {
      room = length-set set.played set.number step.piece ∙ set.room;
      within = omega (arith, room);
      follows = search (rules, list_set, set-follows, step-leads);
      due = record {
        empty_handed = step.drawn ∙ ap (λ states. states.due.holding) c.requires.before ∙ set.due.holding step.piece ∙ ap (in_progress elements) (omega arith);
        holding = c.requires.due;
      };
    }

pub returns-clause-set : goal.returns-clause-set
unfolding queues_in_play
returns-clause-set c = search (rules, played-more, set-room)

pub returns-clause-coming : goal.returns-clause-coming
returns-clause-coming c = search (rules, set-coming)
