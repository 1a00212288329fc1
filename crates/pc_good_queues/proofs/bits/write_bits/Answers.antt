-- One more byte is set, and then all are.
use Rattle.std.proofs.Common.{◌≡◌, ◌∙◌, ◌<◌, length, subst, sym, arith}
use Rattle.std.proofs.lemmas.List.{drop-set-lt, length-set}
use Rattle.percent.specs.Answers.{problem_of}
use Rattle.pc_good_queues.specs.Bits.{bytes_for}
use Rattle.pc_good_queues.specs.Flags.{flags_of}
use Rattle.pc_good_queues.proofs.BitLemmas.{HasBytes, all_bytes, more_bytes}
use Rattle.pc_good_queues.proofs.FlagLemmas.{flags_count}
use Rattle.pc_good_queues.proofs.bits.write_bits.Goals as goal

pub loop-index-preserved : goal.loop-index-preserved
loop-index-preserved c =
    let flags = flags_of (problem_of c.args.answers.now) in
    let index = c.loop-index.index in
    let bits = c.loop-index.bits in
    let within : index < length bits = omega (arith, c.loop-index-test.true, c.bytes_for-index-end.ensures, c.loop-index.invariant.1, c.requires.room) in
    let before : index < bytes_for c.args.count = omega (arith, c.loop-index-test.true, c.bytes_for-index-end.ensures) in (
      more_bytes flags index bits c.byte_from.result c.loop-index.invariant.0 within c.byte_from.ensures,
      length-set bits index c.byte_from.result ∙ c.loop-index.invariant.1,
      drop-set-lt (bytes_for c.args.count) bits index c.byte_from.result before ∙ c.loop-index.invariant.2,
    )

pub returns-clause-bits : goal.returns-clause-bits
returns-clause-bits c =
    let flags = flags_of (problem_of c.args.answers.now) in
    let end : c.loop-index.index ≡ bytes_for c.args.count = omega (arith, c.loop-index-test.false, c.loop-index.auto.index-end, c.bytes_for-index-end.ensures) in
    let all = subst (λ n. HasBytes flags n c.loop-index.bits) end c.loop-index.invariant.0 in
    all_bytes flags c.args.count c.loop-index.bits (flags_count (problem_of c.args.answers.now) ∙ sym c.requires.all)
    (omega (arith, c.loop-index.invariant.1, c.requires.room)) all
