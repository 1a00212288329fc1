-- The block at the key's place, if it has the key.
use Rattle.std.proofs.Common.{sym, ◌∙◌, arith}
use Rattle.lane_board.proofs.CallerLemmas.{has_bit-zero}
use Rattle.tails.proofs.PartLemmas.{no_block}
use Rattle.tails.proofs.PlaceLemmas.{parts-not_placed, parts-placed}
use Rattle.tails.proofs.tail_set.bits_at.Goals as goal
use Rattle.tails.proofs.tail_set.bits_at.Goals.{else-place-blocks-via-then-place-blocks+else-blocks-place, else-place-blocks-via-else-place-blocks}

pub returns-then-blocks-place : goal.returns-then-blocks-place
returns-then-blocks-place c = λ bit.
    sym (parts-placed c.args.blocks.now c.place_near-place.result c.args.key bit no_block c.requires c.place_near-place.ensures c.if-place-blocks.true c.if-blocks-place.true)

pub returns : goal.returns
returns c = λ bit.
    has_bit-zero bit ∙ sym (parts-not_placed c.args.blocks.now c.place_near-place.result c.args.key bit c.requires c.place_near-place.ensures
    (λ below. elim c.else-place-blocks.branch [
      | else-place-blocks-via-then-place-blocks+else-blocks-place w ↦ w.if-blocks-place.false
      | else-place-blocks-via-else-place-blocks w ↦ absurd (let past = w.if-place-blocks.false in omega arith)
    ]))
