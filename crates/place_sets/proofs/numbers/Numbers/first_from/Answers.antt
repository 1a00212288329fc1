-- The word of the number has it, or else a later word.
use Rattle.std.proofs.Common.{◌+◌, ◌*◌, arith}
use Rattle.place_sets.proofs.NumberLemmas.{first_in, none_before, none_more, number_later, word_at}
use Rattle.place_sets.proofs.numbers.Numbers.first_from.Goals as goal

pub returns-then-word-ne0 : goal.returns-then-word-ne0
returns-then-word-ne0 c =
    first_in c.args.self.now c.args.from c.from-at.result c.bits_from-word.result (word_at c.args.self.now c.args.from c.from-at.result c.bits_from-word.result c.from-at.ensures c.bits_from-word.ensures) (none_before c.args.self.now c.args.from c.from-at.result c.from-at.ensures) c.lowest_bit.result (omega arith) c.lowest_bit.ensures.below c.lowest_bit.ensures.lowest.has (λ k within. c.lowest_bit.ensures.lowest.first k)

pub returns : goal.returns
returns c =
    number_later c.args.self.now c.args.from (64 * (c.from-at.result + 1)) c.first_in_words.result
    (none_more c.args.self.now c.args.from c.from-at.result c.bits_from-word.result (word_at c.args.self.now c.args.from c.from-at.result c.bits_from-word.result c.from-at.ensures c.bits_from-word.ensures) (none_before c.args.self.now c.args.from c.from-at.result c.from-at.ensures) c.if-word-ne0.false) (omega (arith, c.from-at.ensures)) c.first_in_words.ensures
