-- What is left out has nothing to do.
use Rattle.std.proofs.Common.{rules}
use Rattle.std.proofs.lemmas.Bool.{and_parts, not-true}
use Rattle.srs.proofs.CallerLemmas.{some_same}
use Rattle.enumerate.specs.Frames.{events_of}
use Rattle.enumerate.specs.Setups.{state_of}
use Rattle.enumerate.proofs.DeadPlaces.{left-out}
use Rattle.enumerate.proofs.frame.Frame.leave_out.Goals as goal

pub invariant_of-self : goal.invariant_of-self
invariant_of-self c =
    search (rules, and_parts, c.leave_out.ensures.held, some_same, (c.args.self.now.held_below c.in-Some.places c.in-Some.is), not-true, (c.args.self.now.same_piece c.in-Some.places c.in-Some.is))

pub returns-in-Some-clause-goes : goal.returns-in-Some-clause-goes
unfolding events_of state_of
returns-in-Some-clause-goes c = search (rules, left-out)
