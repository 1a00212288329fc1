-- The ledger of steps is the one that is made here.
use Rattle.pc_c.proofs.solutions.run_solutions.Given as goal

abbrev pub ghosts-answer_words : goal.ghosts-answer_words
ghosts-answer_words a = record { name = a.blank.name; parts = a.blank.parts }
