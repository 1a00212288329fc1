-- The ledger of steps is the one that is made here.
use Rattle.worked_answers.proofs.solutions_as_numbers.no_solution_comes_after_the_last.Given as goal

abbrev pub ghosts-listed : goal.ghosts-listed
ghosts-listed g a = record { name = a.blank.name; parts = a.blank.parts }
