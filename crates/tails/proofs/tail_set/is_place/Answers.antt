-- The key before is below, and the one at the index is not.
use Rattle.std.proofs.Common.{arith}
use Rattle.std.proofs.lemmas.Bool.{eqb-true, leb-true}
use Rattle.tails.proofs.PlaceLemmas.{place-tested}
use Rattle.tails.proofs.tail_set.is_place.Goals as goal
use Rattle.tails.proofs.tail_set.is_place.Goals.{else-place-gt0-via-then-place-gt0+else-key-blocks, else-place-gt0-via-else-place-gt0}

pub returns-then-place-blocks : goal.returns-then-place-blocks
returns-then-place-blocks c = λ ended.
    let all = eqb-true _ _ ended in
    place-tested c.args.blocks.now c.args.place c.args.key c.requires c.if-blocks-place.false
    (λ some. elim c.else-place-gt0.branch [
      | else-place-gt0-via-then-place-gt0+else-key-blocks w ↦ w.if-key-blocks.false
      | else-place-gt0-via-else-place-gt0 w ↦ absurd (let none = w.if-place-gt0.false in omega arith)
    ])
    (λ below. absurd (omega arith))

pub returns-else-place-blocks : goal.returns-else-place-blocks
returns-else-place-blocks c = λ least.
    place-tested c.args.blocks.now c.args.place c.args.key c.requires c.if-blocks-place.false
    (λ some. elim c.else-place-gt0.branch [
      | else-place-gt0-via-then-place-gt0+else-key-blocks w ↦ w.if-key-blocks.false
      | else-place-gt0-via-else-place-gt0 w ↦ absurd (let none = w.if-place-gt0.false in omega arith)
    ])
    (λ below. leb-true _ _ least)
