-- The ledger of steps is the one that is made here.
use Rattle.worked_answers.proofs.solutions_as_numbers.a_solution_needs_room_for_its_numbers.Given as goal

abbrev pub ghosts-listed : goal.ghosts-listed
ghosts-listed g a = record { name = a.blank.name; parts = a.blank.parts }
