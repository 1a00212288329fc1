-- A hand allows its sums, or is open.
use Rattle.std.proofs.Common.{◌/◌, ◌<◌, arith}
use Rattle.std.proofs.lemmas.Nat.{div_below}
use Rattle.hands.proofs.AllowingLemmas.{noted-more, noted-open}
use Rattle.hands.proofs.allowing.sums_of.Goals as goal
use Rattle.hands.proofs.allowing.sums_of.Goals.{then-not-allow, else-not-allow}

pub loop-index-preserved : goal.loop-index-preserved
loop-index-preserved c =
    let hands = c.args.hands.now in
    let weights = c.args.weights.now in
    let size = c.args.size in
    let i = c.loop-index.index in
    let low : i / size < 64 = div_below i size 64 c.requires.some (omega (arith, c.requires.hands, c.loop-index-test.true)) in
    elim c.if-not-allow.branch [
      | then-not-allow w ↦
          rw w.open-is
          (noted-open c.args.hold c.args.left hands weights size c.loop-index.allowed c.allow.new.allowed c.loop-index.open i low c.allow.ensures.kept c.loop-index.invariant)
      | else-not-allow w ↦
          rw w.open-is
          (noted-more c.args.hold c.args.left hands weights size c.loop-index.allowed c.allow.new.allowed c.loop-index.open i c.allow.ensures.kept (c.allow.ensures.allows w.if-not-allow.false) c.loop-index.invariant)
    ]
