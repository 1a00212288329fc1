use Rattle.std.proofs.Common.{◌/◌, arith}
use Rattle.tails.proofs.SentSteps.{IsBeside, sent-before, sent-none, sent-within, word-fits}
use Rattle.tails.proofs.block.Block.sent.Goals as goal
use Rattle.tails.proofs.block.Block.sent.Goals.{After-from-count}

beside : (c : After-from-count) → IsBeside c.args.self c.args.taking.now c.place-place.result c.from-first.result c.from-count.result
beside c = record {
  word = word-fits c.args.self.bits (omega arith);
  taken = c.requires;
  place_is = c.place-place.ensures;
  first_is = c.from-first.ensures;
  count_is = c.from-count.ensures;
}

pub returns-then-place-first-clause-sent : goal.returns-then-place-first-clause-sent
returns-then-place-first-clause-sent c = λ tail.
    sent-before c.args.self c.args.taking.now c.place-place.result c.from-first.result c.from-count.result c.bits_down.result c.bits_below.result tail
    (beside (goal.at.returns-then-place-first-clause-sent c).After-from-count)
    c.bits_down.type_inv c.if-place-first.true c.bits_down.ensures c.bits_below.ensures

pub returns-then-count-behind-clause-sent : goal.returns-then-count-behind-clause-sent
returns-then-count-behind-clause-sent c = λ tail.
    sent-none c.args.self c.args.taking.now c.place-place.result c.from-first.result c.from-count.result (c.args.taking.now.base / 64) tail
    (beside (goal.at.returns-then-count-behind-clause-sent c).After-from-count) c.if-place-first.false c.if-count-behind.true

pub returns-clause-sent : goal.returns-clause-sent
returns-clause-sent c = λ tail.
    sent-within c.args.self c.args.taking.now c.place-place.result c.from-first.result c.from-count.result c.bits_below-2.result c.bits_up.result c.bits_down-2.result tail
    (beside (goal.at.returns-clause-sent c).After-from-count)
    c.bits_up.type_inv c.bits_down-2.type_inv c.if-place-first.false c.if-count-behind.false c.bits_below-2.ensures c.bits_up.ensures c.bits_down-2.ensures
