-- The ledger of steps is the one that is made here.
use Rattle.worked_runs.proofs.left_alone.worn_run.Given as goal

abbrev pub ghosts-counted : goal.ghosts-counted
ghosts-counted a = record { name = a.blank.name; parts = a.blank.parts }
