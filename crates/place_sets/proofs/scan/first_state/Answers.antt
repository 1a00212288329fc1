-- The first number is that of the first state.
use Rattle.std.proofs.Common.{rules}
use Rattle.place_sets.specs.Scan.{rising_number}
use Rattle.place_sets.proofs.PlaceNumbers.{first_state-some, first_state-none}
use Rattle.place_sets.proofs.scan.first_state.Goals as goal

pub returns-in-None : goal.returns-in-None
returns-in-None c = search (rules, first_state-none)

pub returns-in-Some : goal.returns-in-Some
returns-in-Some c =
    search (rules, (first_state-some c.args.numbers.now c.args.piece (rising_number c.args.first c.args.y c.args.x) c.number_from.result c.in-Some.number c.state_with.result c.number_from.ensures.start c.in-Some.ensures c.state_with.ensures.piece))
