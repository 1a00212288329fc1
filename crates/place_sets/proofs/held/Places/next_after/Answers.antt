-- The first state after the bound is the least one above the bound.
use Rattle.std.proofs.Common.{ap, rules}
use Rattle.std.specs.Option.{option_copied}
use Rattle.place_sets.proofs.ScanLemmas.{next_of_all_by, next_above_by}
use Rattle.place_sets.proofs.held.Places.next_after.Goals as goal

pub returns-in-None : goal.returns-in-None
returns-in-None c = next_of_all_by c.args.self.now (option_copied c.args.bound) c.first_state.result (ap option_copied c.in-None.is) c.first_state.ensures

pub returns-in-Some : goal.returns-in-Some
returns-in-Some c = search (rules, (next_above_by c.args.self.now (option_copied c.args.bound) c.in-Some.last.now))
