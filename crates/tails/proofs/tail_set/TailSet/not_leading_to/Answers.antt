use Rattle.std.proofs.Common.{ℕ, ◌+◌, nat_lt, ◌&&◌, ◌∙◌, ap, arith}
use Rattle.std.specs.List.{list_any}
use Rattle.srs.specs.Piece.{piece_code}
use Rattle.tails.specs.TailSets.{has}
use Rattle.tails.specs.Takings.{runs_to}
use Rattle.tails.specs.Tails.{leads}
use Rattle.tails.proofs.KeptSteps.{kept-all, kept-none}
use Rattle.tails.proofs.LeavingSteps.{all-stay, stay-more}
use Rattle.tails.proofs.PartLemmas.{no_block}
use Rattle.tails.proofs.RestLists.{last-takings, read-block, read-key}
use Rattle.tails.proofs.tail_set.TailSet.not_leading_to.Goals as goal

pub returns-then-is_empty : goal.returns-then-is_empty
returns-then-is_empty c =
    all-stay c.args.tree.now (piece_code c.args.piece) c.args.self c.args.rests.now (c.is_empty.ensures.0 c.if-is_empty.true)

pub loop-block-init : goal.loop-block-init
loop-block-init c = record {
  last = c.new-last.ensures.last;
  stay = kept-none (leads c.args.tree.now (piece_code c.args.piece) (has c.args.rests.now)) c.args.self.blocks.items c.in_ok-tails.tails c.in_ok-tails.ensures;
}

pub go_to-requires-clause-key : goal.go_to-requires-clause-key
go_to-requires-clause-key c =
    read-key c.args.tree.now c.args.self c.loop-block.block-index _ c.requires
    (read-block c.args.tree.now c.args.self c.deref-block-items.result.now c.loop-block.block-index _ c.deref-block-items.ensures.value c.loop-block-test.true)

pub add-requires : goal.add-requires
add-requires c =
    let small =
    read-key c.args.tree.now c.args.self c.loop-block.block-index _ c.requires
    (read-block c.args.tree.now c.args.self c.deref-block-items.result.now c.loop-block.block-index no_block c.deref-block-items.ensures.value c.loop-block-test.true) in
    omega arith

pub loop-block-preserved : goal.loop-block-preserved
loop-block-preserved c = record {
  last = c.go_to.ensures.last;
  stay =
      stay-more c.args.tree.now (piece_code c.args.piece) c.args.rests.now c.args.self c.loop-block.tails c.add.new.self c.loop-block.block-index _ c.as_slice.result.now
      c.leading-leading.result c.bits_without.result c.requires
      (read-block c.args.tree.now c.args.self c.deref-block-items.result.now c.loop-block.block-index _ c.deref-block-items.ensures.value c.loop-block-test.true)
      (last-takings c.args.tree.now (piece_code c.args.piece) _ c.go_to.new.self c.as_slice.result.now c.go_to.ensures.last c.go_to.ensures.front c.as_slice.ensures.value)
      (record {
        leads_are = λ k.
            c.leading-leading.ensures k
            ∙ ap (λ (n : ℕ). nat_lt k 64 && list_any (runs_to (has c.args.rests.now) (n + k)) c.as_slice.result.now) c.place.ensures;
        bits_are = c.bits_without.ensures.bits;
      })
      c.in_ok-add.ensures.added c.loop-block.invariant.stay;
}

pub returns : goal.returns
returns c =
    kept-all (leads c.args.tree.now (piece_code c.args.piece) (has c.args.rests.now)) c.args.self c.loop-block.tails c.loop-block.block-index
    (omega (arith, c.loop-block-test.false, c.deref-block-items.ensures.len)) c.loop-block.invariant.stay
