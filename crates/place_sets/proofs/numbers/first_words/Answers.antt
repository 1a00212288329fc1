-- Each count and each bit is tried.
use Rattle.place_sets.proofs.WordsInUse.{first_words-bits}
use Rattle.place_sets.proofs.numbers.first_words.Goals as goal

pub returns : goal.returns
returns c = λ w within. first_words-bits c.args.count w c.requires within
