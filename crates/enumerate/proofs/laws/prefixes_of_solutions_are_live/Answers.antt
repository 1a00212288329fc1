-- A solution plays to the end and is permitted, and so is what is left of it after each of its placements.
use Rattle.enumerate.proofs.LivePrefixes.{live-front}
use Rattle.enumerate.proofs.laws.prefixes_of_solutions_are_live.Goals as goal

pub returns : goal.returns
returns c = λ problem queue prefix rest fit solution. live-front problem queue prefix rest fit solution
