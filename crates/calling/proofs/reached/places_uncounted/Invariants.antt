-- The ledger of the counter is the one that is made here.
use Rattle.calling.proofs.reached.places_uncounted.Given as goal

abbrev pub ghosts-places_by : goal.ghosts-places_by
ghosts-places_by a = record { name = a.blank.name; parts = a.blank.parts }
