-- The first word with a bit has the number.
use Rattle.std.proofs.Common.{rules}
use Rattle.place_sets.proofs.WordsInUse.{first_from_word}
use Rattle.place_sets.proofs.numbers.Numbers.first_in_words.Goals as goal

pub returns-in-Some : goal.returns-in-Some
returns-in-Some c = search (rules, (first_from_word c.args.self.now c.args.start c.bits_from.result c.bits_from.ensures c.in-Some.at c.lowest_bit.result))
