-- The laws, by their lemmas.
use Rattle.pc_cover.proofs.LineLaws.{fault-law, sequences-law}
use Rattle.pc_cover.proofs.laws.lines_are_read_as_they_spell.Goals as goal

pub returns-clause-sequences : goal.returns-clause-sequences
returns-clause-sequences c = sequences-law

pub returns-clause-fault : goal.returns-clause-fault
returns-clause-fault c = fault-law
