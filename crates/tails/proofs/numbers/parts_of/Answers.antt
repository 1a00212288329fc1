use Rattle.std.proofs.Common.{refl}
use Rattle.tails.specs.Numbers.{held_of, place_of, state_of}
use Rattle.tails.proofs.numbers.parts_of.Goals as goal

pub returns-clause-state : goal.returns-clause-state
unfolding state_of
returns-clause-state c = refl

pub returns-clause-held : goal.returns-clause-held
unfolding held_of
returns-clause-held c = refl

pub returns-clause-place : goal.returns-clause-place
unfolding place_of
returns-clause-place c = refl
