-- Each piece's number is put at its code.
use Rattle.std.proofs.Common.{◌∙◌, arith}
use Rattle.tails.proofs.MadeLemmas.{after-more, all-after}
use Rattle.tails.proofs.states.all_after.Goals as goal

pub loop-piece-preserved : goal.loop-piece-preserved
loop-piece-preserved c =
    after-more _ _ _ _ _ _ _ _ c.loop-piece-test.true (c.from.ensures ∙ c.code.ensures) c.after.ensures c.loop-piece.invariant

pub returns : goal.returns
returns c = all-after _ _ _ _ _ _ (omega arith) c.loop-piece.invariant
