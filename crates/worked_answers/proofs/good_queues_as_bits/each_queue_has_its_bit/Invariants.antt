-- The ledger of steps is the one that is made here.
use Rattle.worked_answers.proofs.good_queues_as_bits.each_queue_has_its_bit.Given as goal

abbrev pub ghosts-asked : goal.ghosts-asked
ghosts-asked g a = record { name = a.blank.name; parts = a.blank.parts }
