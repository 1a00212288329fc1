-- The words so far were read, and the rest is left.
use Rattle.std.proofs.Common.{length}
use Rattle.pc_words.specs.Words.{texts}
use Rattle.pc_c.proofs.WordLemmas.{HasRead}
use Rattle.pc_c.proofs.words.words_in.Given as goal

abbrev pub invariant-loop-rest : goal.invariant-loop-rest
invariant-loop-rest l = HasRead l.text (texts l.words.items) l.rest

abbrev pub decreases-loop-rest : goal.decreases-loop-rest
decreases-loop-rest l = length l.rest
