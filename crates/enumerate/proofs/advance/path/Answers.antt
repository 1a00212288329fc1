-- One more frame adds the placement that was entered there.
use Rattle.std.proofs.Common.{length, ap, arith, rules}
use Rattle.std.proofs.lemmas.List.{append-nil}
use Rattle.enumerate.specs.Frames.{path_of}
use Rattle.enumerate.proofs.Stacks.{path-more}
use Rattle.enumerate.proofs.advance.path.Goals as goal
use Rattle.enumerate.proofs.advance.path.Goals.{in-Some, in_default}

pub loop-frame-init : goal.loop-frame-init
unfolding path_of
loop-frame-init c = (c.new-sequence.ensures, omega (arith, ap length c.new-sequence.ensures))

pub loop-frame-preserved : goal.loop-frame-preserved
loop-frame-preserved c = search (rules, (path-more c.args.frames.now c.loop-frame.frame-index c.frame-item.result c.loop-frame-test.true c.frame-item.is), append-nil)
