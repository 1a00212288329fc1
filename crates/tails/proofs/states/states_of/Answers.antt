-- One state after the other is pushed, and the end in the end.
use Rattle.std.proofs.Common.{◌≡◌, ◌++◌, ◌∷◌, [], ◌+◌, ◌*◌, length, length-append, subst, sym, ap, ◌∙◌, arith}
use Rattle.queue_pattern.specs.Pattern.{elements_of}
use Rattle.queue_pattern.specs.Queues.{queues}
use Rattle.tails.specs.MadeStates.{AreEntries, LeadsTo}
use Rattle.tails.specs.Trees.{AreStates, first_number}
use Rattle.tails.proofs.MadeLemmas.{entries-more, entry-is}
use Rattle.tails.proofs.StateLemmas.{AreMade, are-made, are-states, leads-from}
use Rattle.tails.proofs.states.states_of.Goals as goal

pub loop-set-preserved : goal.loop-set-preserved
loop-set-preserved c =
    let elements = elements_of c.args.pattern.now in
    let count = c.loop-index.index * 128 + c.loop-set.set in
    let next : count + 1 ≡ c.loop-index.index * 128 + (c.loop-set.set + 1) = omega arith in
    let entry = entry-is c.args.pattern.now c.loop-index.index c.loop-set.set c.element-element.result c.of.result c.element-element.ensures (omega arith) c.of.ensures in
    let more = entries-more elements c.loop-set.states.items count c.of.result entry c.loop-set.invariant in
    subst (λ items. AreEntries elements items (c.loop-index.index * 128 + (c.loop-set.set + 1))) (sym c.in_ok-push.ensures.items)
    (subst (AreEntries elements _) next more)

pub returns-clause-size : goal.returns-clause-size
returns-clause-size c =
    ap length c.in_ok-push-2.ensures.items ∙ length-append c.loop-index.states.items (c.ended.result ∷ []) ∙ omega (arith, c.loop-index.invariant.size)

pub returns-clause-states : goal.returns-clause-states
returns-clause-states c =
    let pattern = c.args.pattern.now in
    let made : AreMade (elements_of pattern) (c.loop-index.states.items ++ c.ended.result ∷ []) =
    are-made pattern c.loop-index.states.items (c.loop-index.index * 128) c.ended.result (omega arith) c.loop-index.invariant c.ended.ensures in
    subst (AreStates (elements_of pattern)) (sym c.in_ok-push-2.ensures.items) (are-states (elements_of pattern) _ made)

pub returns-clause-first : goal.returns-clause-first
returns-clause-first c =
    let pattern = c.args.pattern.now in
    let elements = elements_of pattern in
    let made : AreMade elements (c.loop-index.states.items ++ c.ended.result ∷ []) =
    are-made pattern c.loop-index.states.items (c.loop-index.index * 128) c.ended.result (omega arith) c.loop-index.invariant c.ended.ensures in
    subst (λ items. LeadsTo elements items (first_number elements 0) (queues elements)) (sym c.in_ok-push-2.ensures.items)
    (leads-from elements _ 0 made (omega arith))
