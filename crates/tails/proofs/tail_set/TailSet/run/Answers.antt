-- Each block has the next 64 tails, or as many as are left.
use Rattle.tails.proofs.RunSteps.{run-more}
use Rattle.tails.proofs.tail_set.TailSet.run.Goals as goal

pub loop-index-preserved : goal.loop-index-preserved
loop-index-preserved c =
    run-more c.loop-index.tails c.add.new.self c.args.first c.from-count.result c.loop-index.index c.bits_below.result c.requires.begins c.loop-index.invariant c.bits_below.ensures c.in_ok-add.ensures.added
