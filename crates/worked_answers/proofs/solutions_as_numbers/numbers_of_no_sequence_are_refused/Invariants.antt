-- The ledger of steps is the one that is made here.
use Rattle.worked_answers.proofs.solutions_as_numbers.numbers_of_no_sequence_are_refused.Given as goal

abbrev pub ghosts-listed : goal.ghosts-listed
ghosts-listed g a = record { name = a.blank.name; parts = a.blank.parts }
