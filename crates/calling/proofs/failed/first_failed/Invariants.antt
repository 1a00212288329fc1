-- The ledger of the counter is the one that is made here.
use Rattle.calling.proofs.failed.first_failed.Given as goal

abbrev pub ghosts-first_failed_by : goal.ghosts-first_failed_by
ghosts-first_failed_by a = record { name = a.blank.name; parts = a.blank.parts }
