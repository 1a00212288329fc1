-- The ledger of steps is the one that is made here.
use Rattle.worked_answers.proofs.good_queues_as_bits.too_little_room_is_left_alone.Given as goal

abbrev pub ghosts-asked : goal.ghosts-asked
ghosts-asked g a = record { name = a.blank.name; parts = a.blank.parts }
