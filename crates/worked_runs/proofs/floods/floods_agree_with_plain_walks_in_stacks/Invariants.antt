-- Each flood counts its steps under the name that it was given.
use Rattle.worked_runs.proofs.floods.floods_agree_with_plain_walks_in_stacks.Given as goal

abbrev pub ghosts-agree_in_stacks : goal.ghosts-agree_in_stacks
ghosts-agree_in_stacks g a = record { name = a.blank.name; parts = a.blank.parts }
