use Rattle.std.proofs.Common.{arith}
use Rattle.std.proofs.lemmas.Result.{IfOk-weaker}
use Rattle.srs.specs.Piece.{piece_code}
use Rattle.srs.proofs.CallerLemmas.{piece_code-some}
use Rattle.tails.specs.Takings.{in_some}
use Rattle.tails.proofs.RestLists.{last-takings, read-block, read-key, rests-done, rests-more, rests-none}
use Rattle.tails.proofs.tail_set.TailSet.rests_of.Goals as goal

pub loop-block-init : goal.loop-block-init
loop-block-init c = record {
  last = c.new-last.ensures.last;
  rests = rests-none c.args.tree.now (piece_code c.args.piece) c.args.self.now.blocks.items c.new-rests.result.items c.new-rests.ensures.items;
}

pub go_to-requires-clause-key : goal.go_to-requires-clause-key
go_to-requires-clause-key c =
    read-key c.args.tree.now c.args.self.now c.loop-block.block-index _ c.requires
    (read-block c.args.tree.now c.args.self.now c.deref-block-items.result.now c.loop-block.block-index _ c.deref-block-items.ensures.value c.loop-block-test.true)

pub loop-block-preserved : goal.loop-block-preserved
loop-block-preserved c = record {
  last = c.go_to.ensures.last;
  rests =
      rests-more c.args.tree.now (piece_code c.args.piece) c.args.self.now c.loop-block.block-index _ c.as_slice.result.now c.loop-block.rests.items c.push_rests.new.rests.items c.requires
      (read-block c.args.tree.now c.args.self.now c.deref-block-items.result.now c.loop-block.block-index _ c.deref-block-items.ensures.value c.loop-block-test.true)
      (last-takings c.args.tree.now (piece_code c.args.piece) _ c.go_to.new.self c.as_slice.result.now c.go_to.ensures.last c.go_to.ensures.front c.as_slice.ensures.value)
      c.in_ok-push_rests.ensures.fit c.in_ok-push_rests.ensures.pushed c.loop-block.invariant.rests;
}

pub returns : goal.returns
unfolding in_some
returns c =
    IfOk-weaker c.of.result _ _
    (λ rests is. rests-done c.args.tree.now (piece_code c.args.piece) c.args.self.now rests c.loop-block.rests.items c.loop-block.block-index (omega (arith, c.loop-block-test.false, c.deref-block-items.ensures.len)) c.requires
    (λ tail rest tail_is led. c.hands_are_taken_from_by_tails.ensures.rests c.args.tree.now tail rest (piece_code c.args.piece) tail_is (piece_code-some c.args.piece) led)
    is c.loop-block.invariant.rests)
    c.of.ensures
