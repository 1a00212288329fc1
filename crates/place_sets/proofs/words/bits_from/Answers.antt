-- Down and up again.
use Rattle.place_sets.proofs.WordLemmas.{has_bit-bits_from}
use Rattle.place_sets.proofs.words.bits_from.Goals as goal

pub returns : goal.returns
returns c = has_bit-bits_from c.args.word c.args.low
