use Rattle.std.proofs.Common.{arith}
use Rattle.queue_pattern.proofs.CallerLemmas.{length-le-queue_len, pattern-short, pattern-sound}
use Rattle.queue_pattern.specs.Pattern.{elements_of}
use Rattle.tails.proofs.states.after.Goals as goal

pub overflow_add-index : goal.overflow_add-index
overflow_add-index c =
    let pattern = c.args.pattern.now in
    let short = length-le-queue_len (elements_of pattern) (pattern-sound pattern) in
    omega (arith, short, pattern-short pattern, c.requires.within)
