-- One more bit is set, or left.
use Rattle.std.proofs.Common.{◌∙◌, ◌+◌, sym, subst, arith}
use Rattle.percent.specs.Answers.{problem_of}
use Rattle.pc_good_queues.specs.Flags.{flags_of}
use Rattle.pc_good_queues.proofs.BitLemmas.{HasFlags, flag_left, flag_set}
use Rattle.pc_good_queues.proofs.bits.byte_from.Goals.{then-is_good_one, else-is_good_one}
use Rattle.pc_good_queues.proofs.bits.byte_from.Goals as goal

pub loop-bit-preserved : goal.loop-bit-preserved
loop-bit-preserved c =
    let flags = flags_of (problem_of c.args.answers.now) in
    let first = c.args.first in
    let bit = c.loop-bit.bit in
    let flag = sym c.is_good_one.ensures in
    elim c.if-is_good_one.branch [
      | then-is_good_one w ↦ subst (HasFlags flags first (bit + 1)) (sym w.byte-is)
          (flag_set flags first bit c.loop-bit.byte c.loop-bit.invariant (omega (arith, c.loop-bit-test.true)) (flag ∙ w.if-is_good_one.true))
      | else-is_good_one w ↦ subst (HasFlags flags first (bit + 1)) (sym w.byte-is)
          (flag_left flags first bit c.loop-bit.byte c.loop-bit.invariant (flag ∙ w.if-is_good_one.false))
    ]
