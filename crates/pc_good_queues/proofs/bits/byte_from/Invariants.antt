-- The bits below this one are those of their queues.
use Rattle.percent.specs.Answers.{problem_of}
use Rattle.pc_good_queues.specs.Flags.{flags_of}
use Rattle.pc_good_queues.proofs.BitLemmas.{HasFlags}
use Rattle.pc_good_queues.proofs.bits.byte_from.Given as goal

abbrev pub invariant-loop-bit : goal.invariant-loop-bit
invariant-loop-bit l = HasFlags (flags_of (problem_of l.answers)) l.first l.bit l.byte
