-- One bit more is set.
use Rattle.std.proofs.Common.{◌*◌, ◌%◌, ◌^◌, arith}
use Rattle.hands.proofs.AllowingLemmas.{bit-set, keeps-set}
use Rattle.hands.proofs.allowing.set_at.Goals as goal

pub returns-clause-kept : goal.returns-clause-kept
returns-clause-kept c = keeps-set c.args.allowed.now c.args.sum (1 * 2 ^ c.args.bit % 2 ^ 64) (omega (arith, c.if-sum-ge512.false))

pub returns-clause-set : goal.returns-clause-set
returns-clause-set c = λ _. bit-set c.args.allowed.now c.args.sum c.args.bit (omega (arith, c.if-sum-ge512.false)) c.requires
