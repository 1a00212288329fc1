-- The goals of `family_of` that need lemmas.
use Rattle.std.proofs.Common.{ℕ, ◌+◌, get_or, List, ap}
use Rattle.hold_queue.specs.declared.family.Family.{Family}
use Rattle.hold_queue.specs.States.{family_at}
use Rattle.hold_queue.proofs.states.family_of.Goals as goal

words_at : List ℕ → ℕ → Family
words_at states index = record { low = get_or states index 0; high = get_or states (index + 1) 0 }

pub returns : goal.returns
unfolding family_at words_at
returns c = ap (words_at c.args.words.now) c.index_of-index.ensures.value
