-- Each flood counts its steps under the name that it was given.
use Rattle.worked_runs.proofs.floods.floods_agree_with_plain_walks.Given as goal

abbrev pub ghosts-agree_in_fields : goal.ghosts-agree_in_fields
ghosts-agree_in_fields g a = record { name = a.blank.name; parts = a.blank.parts }
