-- The sequences so far stand before those of the text that is left.
use Rattle.std.proofs.Common.{length, map}
use Rattle.pc_cover.specs.Sequences.{listed_placements}
use Rattle.pc_cover.proofs.GivenLemmas.{Reading}
use Rattle.pc_cover.proofs.given.sequences_in.Given as goal

abbrev pub invariant-loop-rest : goal.invariant-loop-rest
invariant-loop-rest l = Reading l.needed l.text (map listed_placements l.sequences.items) l.number l.rest

abbrev pub decreases-loop-rest : goal.decreases-loop-rest
decreases-loop-rest l = length l.rest
