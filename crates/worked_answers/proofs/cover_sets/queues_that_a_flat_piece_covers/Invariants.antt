-- The ledger of steps is the one that is made here.
use Rattle.worked_answers.proofs.cover_sets.queues_that_a_flat_piece_covers.Given as goal

abbrev pub ghosts-answered : goal.ghosts-answered
ghosts-answered g a = record { name = a.blank.name; parts = a.blank.parts }
