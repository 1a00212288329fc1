-- The bytes so far have the bits of their queues, and those behind the last one are as they were.
use Rattle.std.proofs.Common.{◌≡◌, length, drop}
use Rattle.percent.specs.Answers.{problem_of}
use Rattle.pc_good_queues.specs.Bits.{bytes_for}
use Rattle.pc_good_queues.specs.Flags.{flags_of}
use Rattle.pc_good_queues.proofs.BitLemmas.{HasBytes}
use Rattle.pc_good_queues.proofs.bits.write_bits.Given as goal

abbrev pub invariant-loop-index : goal.invariant-loop-index
invariant-loop-index l =
    HasBytes (flags_of (problem_of l.answers)) l.index l.bits
    × (length l.bits ≡ length l.initial.bits) × (drop (bytes_for l.count) l.bits ≡ drop (bytes_for l.count) l.initial.bits)
