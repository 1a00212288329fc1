-- One more digit is written, and then all are.
use Rattle.std.proofs.Common.{arith, rules}
use Rattle.std.proofs.lemmas.List.{length-set}
use Rattle.fumen_digits.specs.Number.{digits}
use Rattle.fumen_digits.proofs.Numbers.{digits_more, digits_all}
use Rattle.fumen_digits.proofs.number.spell.Goals as goal

pub loop-i-preserved : goal.loop-i-preserved
loop-i-preserved c = search (rules, length-set, digits_more, digits)

pub returns : goal.returns
returns c =
    digits_all c.loop-i.spelled c.args.count c.loop-i.i c.loop-i.rest (digits c.args.count c.args.number) (omega arith) c.loop-i.invariant.1
