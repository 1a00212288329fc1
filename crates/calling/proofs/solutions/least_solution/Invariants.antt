-- The ledger of the counter is the one that is made here.
use Rattle.calling.proofs.solutions.least_solution.Given as goal

abbrev pub ghosts-least_by : goal.ghosts-least_by
ghosts-least_by a = record { name = a.blank.name; parts = a.blank.parts }
