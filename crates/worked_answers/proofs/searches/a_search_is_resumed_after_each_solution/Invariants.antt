-- The ledger of steps is the one that is made here.
use Rattle.worked_answers.proofs.searches.a_search_is_resumed_after_each_solution.Given as goal

abbrev pub ghosts-count_resumed : goal.ghosts-count_resumed
ghosts-count_resumed g a = record { name = a.blank.name; parts = a.blank.parts }
