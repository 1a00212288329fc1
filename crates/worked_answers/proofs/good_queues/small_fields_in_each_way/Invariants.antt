-- The ledger of steps is the one that is made here.
use Rattle.worked_answers.proofs.good_queues.small_fields_in_each_way.Given as goal

abbrev pub ghosts-good_count : goal.ghosts-good_count
ghosts-good_count g a = record { name = a.blank.name; parts = a.blank.parts }
