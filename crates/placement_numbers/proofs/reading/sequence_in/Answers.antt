-- Each turn reads the four numbers that stand first.
use Rattle.std.proofs.Common.{arith, rules}
use Rattle.placement_numbers.proofs.ReadAsTheyStand.{all_read, fewer_left, next_read, none_read, wrong_length}
use Rattle.placement_numbers.proofs.reading.sequence_in.Goals as goal

pub returns-then-numbers-from : goal.returns-then-numbers-from
returns-then-numbers-from c = wrong_length c.args.needed c.args.numbers.now (λ is. c.if-numbers-from.true (omega (arith, is, c.from.ensures)))

pub returns-in_err-placement_in : goal.returns-in_err-placement_in
returns-in_err-placement_in c = search (rules, none_read)

pub loop-rest-preserved : goal.loop-rest-preserved
loop-rest-preserved c =
    let rest = c.loop-rest.rest.now in
    let fewer = fewer_left c.args.numbers.now c.loop-rest.sequence.items rest c.in-len4-up.len_at_least c.loop-rest.invariant.0 c.placement_in.result c.placement_in.ensures in (
      next_read c.args.numbers.now c.loop-rest.sequence.items rest c.in-len4-up.len_at_least c.loop-rest.invariant.0
          c.placement_in.result c.placement_in.ensures c.in_ok-placement_in.field-0 _ c.in_ok-placement_in.was c.push.ensures.items,
      omega (arith, fewer, c.push.ensures.len, c.loop-rest.invariant.1),
    )

pub returns : goal.returns
returns c = all_read c.args.needed c.args.numbers.now c.loop-rest.sequence.items c.loop-rest.rest.now c.loop-rest.invariant.0 c.in_default.len_below c.loop-rest.invariant.1
