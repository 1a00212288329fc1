-- The ledger of steps is the one that is made here.
use Rattle.worked_fields.proofs.places.flooded.Given as goal

abbrev pub ghosts-held : goal.ghosts-held
ghosts-held a = record { name = a.blank.name; parts = a.blank.parts }
