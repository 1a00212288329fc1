-- The ledger of steps is the one that is made here.
use Rattle.worked_answers.proofs.longest_runs.straight_pieces_clear_rows.Given as goal

abbrev pub ghosts-longest_of : goal.ghosts-longest_of
ghosts-longest_of g a = record { name = a.blank.name; parts = a.blank.parts }
