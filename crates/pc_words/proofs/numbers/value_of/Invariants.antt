-- The value so far is that of the digits so far.
use Rattle.std.proofs.Common.{◌≡◌, ◌^◌, ◌<◌, ◌*◌, ◌+◌, ◌-◌, take, fold}
use Rattle.pc_words.proofs.numbers.value_of.Given as goal

abbrev pub invariant-loop-digit : goal.invariant-loop-digit
invariant-loop-digit l = (l.value ≡ fold (λ value digit. 10 * value + (digit - 48)) 0 (take l.digit-index l.digits)) × (l.value < 10 ^ l.digit-index)
