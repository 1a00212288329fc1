-- The ledger of steps is the one that is made here.
use Rattle.worked_answers.proofs.good_queues.queues_alone_and_all_queues_say_the_same.Given as goal

abbrev pub ghosts-good_count : goal.ghosts-good_count
ghosts-good_count g a = record { name = a.blank.name; parts = a.blank.parts }
