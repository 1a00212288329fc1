-- The state has the counts of what is left.
use Rattle.std.proofs.Common.{◌<◌, ◌-◌, true, inl, length, refl, arith}
use Rattle.std.proofs.lemmas.Option.{slice_get_within}
use Rattle.queue_pattern.specs.Pattern.{elements_of}
use Rattle.queue_pattern.specs.Queues.{pieces_in}
use Rattle.tails.proofs.MadeLemmas.{few-elements, fewer-pieces, made, part-is, some-left}
use Rattle.tails.proofs.states.State.of.Goals as goal

pub count_at-count-requires-clause-fewer : goal.count_at-count-requires-clause-fewer
count_at-count-requires-clause-fewer c =
    fewer-pieces c.args.set c.args.element.set (part-is true c.args.set c.args.element.set c.if-not-is_part.ensures refl)

pub overflow_add-result : goal.overflow_add-result
overflow_add-result c =
    let within = slice_get_within (elements_of c.args.pattern.now) c.args.index c.args.element c.requires.there in
    omega (arith, within, few-elements c.args.pattern.now)

pub all_after-requires-clause-within : goal.all_after-requires-clause-within
all_after-requires-clause-within c = slice_get_within (elements_of c.args.pattern.now) c.args.index c.args.element c.requires.there

pub nonzero_div-result : goal.nonzero_div-result
nonzero_div-result c =
    let chooses : length (pieces_in c.args.element.set) - length (pieces_in c.args.set) < c.args.element.chosen = omega arith in
    let some = some-left c.args.pattern.now c.args.index c.args.set c.args.element c.requires.there chooses in
    omega (arith, some)

pub returns : goal.returns
returns c =
    let part = part-is true c.args.set c.args.element.set c.if-not-is_part.ensures refl in
    let is =
    made c.args.pattern.now c.args.index c.args.set c.args.element c.saturating_sub-drawn.result c.from.result c.count_at-count.result c.all_after.result
    c.requires.there part (omega arith) (omega arith) (omega arith) c.count_at-count.ensures.value c.count_at-count.ensures.few c.all_after.ensures in
    record { either = inl is; made = λ part chooses. is }
