-- The ledger of steps is the one that is made here.
use Rattle.run_outcomes.proofs.Runs.run_into.Given as goal

abbrev pub ghosts-counted : goal.ghosts-counted
ghosts-counted g a = record { name = a.blank.name; parts = a.blank.parts }
