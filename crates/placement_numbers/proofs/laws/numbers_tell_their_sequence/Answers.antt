-- What is read of numbers is the sequence that they are of.
use Rattle.placement_numbers.proofs.ReadAsTheyStand.{four_each, one_sequence}
use Rattle.placement_numbers.proofs.laws.numbers_tell_their_sequence.Goals as goal

pub returns-clause-one : goal.returns-clause-one
returns-clause-one c = one_sequence

pub returns-clause-four : goal.returns-clause-four
returns-clause-four c = four_each
