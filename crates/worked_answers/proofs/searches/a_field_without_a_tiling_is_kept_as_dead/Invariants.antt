-- The ledger of steps is the one that is made here.
use Rattle.worked_answers.proofs.searches.a_field_without_a_tiling_is_kept_as_dead.Given as goal

abbrev pub ghosts-first_answer : goal.ghosts-first_answer
ghosts-first_answer g a = record { name = a.blank.name; parts = a.blank.parts }
