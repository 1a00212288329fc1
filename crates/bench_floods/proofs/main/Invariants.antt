-- The ledger of steps is the one that is made here.
use Rattle.bench_floods.proofs.main.Given as goal

abbrev pub ghosts-flooded : goal.ghosts-flooded
ghosts-flooded a = record { name = a.blank.name; parts = a.blank.parts }

abbrev pub ghosts-low_flooded : goal.ghosts-low_flooded
ghosts-low_flooded a = record { name = a.blank.name; parts = a.blank.parts }
