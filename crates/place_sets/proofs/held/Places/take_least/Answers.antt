-- The least number is taken out.
use Rattle.std.proofs.Common.{refl, Some, None, rules}
use Rattle.place_sets.specs.Places.{piece_of}
use Rattle.place_sets.proofs.PlaceNumbers.{first_state-some, first_state-none}
use Rattle.place_sets.proofs.ScanLemmas.{next_of_all}
use Rattle.place_sets.proofs.TakeLemmas.{taken_one, taken_none}
use Rattle.place_sets.proofs.held.Places.take_least.Goals as goal

pub returns-in-None-clause-piece : goal.returns-in-None-clause-piece
unfolding piece_of
returns-in-None-clause-piece c = refl

pub returns-in-None-clause-least : goal.returns-in-None-clause-least
returns-in-None-clause-least c = search (rules, (next_of_all c.args.self.now None), (first_state-none c.args.self.now.numbers 0 0))

pub returns-in-None-clause-rest : goal.returns-in-None-clause-rest
returns-in-None-clause-rest c = taken_none c.args.self.now _ refl c.in-None.ensures.rest

pub returns-in-Some-clause-piece : goal.returns-in-Some-clause-piece
unfolding piece_of
returns-in-Some-clause-piece c = refl

pub returns-in-Some-clause-least : goal.returns-in-Some-clause-least
returns-in-Some-clause-least c =
    search (rules, (next_of_all c.args.self.now (Some c.state_with.result)), (first_state-some c.args.self.now.numbers c.args.self.now.piece 0 0 c.in-Some.number c.state_with.result))

pub returns-in-Some-clause-rest : goal.returns-in-Some-clause-rest
returns-in-Some-clause-rest c = search (rules, taken_one)
