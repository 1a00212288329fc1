-- One more digit is read, or one is missing; and what it adds fits.
use Rattle.std.proofs.lemmas.Grind.{common_steps}
use Rattle.std.proofs.Common.{arith, rules}
use Rattle.std.proofs.lemmas.Result.{err_from_is_err_and}
use Rattle.fumen_digits.proofs.ReadLoop.{fits, goes_on, stops, is_read}
use Rattle.fumen_digits.proofs.number.read_digits.Goals as goal

pub returns-in_err-value : goal.returns-in_err-value
returns-in_err-value c = search (rules, err_from_is_err_and, stops)

pub overflow_mul-number : goal.overflow_mul-number
overflow_mul-number c = search (rules, fits)

pub overflow_add-number : goal.overflow_add-number
overflow_add-number c = search (rules, fits)

pub overflow_mul-weight : goal.overflow_mul-weight
overflow_mul-weight c =
    let room = fits c.args.digits.now c.args.place c.args.count c.loop-i.i c.loop-i.number c.loop-i.weight c.in_ok-value.value c.loop-i-test.true c.requires.most c.in_ok-value.ensures.small c.loop-i.invariant in
    omega arith

pub loop-i-preserved : goal.loop-i-preserved
loop-i-preserved c = grind (arith, common_steps, goes_on)

pub returns : goal.returns
returns c = search (rules, is_read)
