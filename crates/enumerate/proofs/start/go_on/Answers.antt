-- What comes before the start is passed by where that is still to be done, and then the frames go on.
use Rattle.std.proofs.Common.{List, [], take, rules}
use Rattle.srs.specs.Kick.{Table}
use Rattle.srs.specs.Rules.{table_of}
use Rattle.enumerate.specs.Items.{items_of}
use Rattle.enumerate.specs.Events.{Event}
use Rattle.enumerate.specs.Frames.{stacked}
use Rattle.enumerate.specs.Rest.{events_from}
use Rattle.enumerate.specs.Seeks.{SkipsTo}
use Rattle.enumerate.proofs.SearchLemmas.{finds-same, moved-skips, pending-skips, standing-skips}
use Rattle.enumerate.proofs.Counting.{counts-none, counts-then}
use Rattle.enumerate.proofs.start.go_on.Given.{Over}
use Rattle.enumerate.proofs.start.go_on.Goals as goal
use Rattle.enumerate.proofs.start.go_on.Goals.{After-advance, then-pending, else-pending}

passed : (g : Over) (c : After-advance g) → SkipsTo
    (events_from c.args.problem.now (items_of c.args.queue.now) (items_of c.args.after.now) c.args.pending (take c.args.depth c.args.frames.now))
    (stacked (table_of c.args.problem.now.rules) c.args.problem.now.drop_mode [] (take c.if-pending.depth c.if-pending.frames)) c.args.steps.now c.if-pending.steps
passed g c = elim c.if-pending.branch [
  | then-pending w ↦ search (rules, moved-skips, pending-skips)
  | else-pending w ↦ search (rules, moved-skips, standing-skips)
]

-- what stands before and after the frames go on, by a table
abbrev before : (g : Over) (c : After-advance g) → Table → List Event
before g c table = stacked table c.args.problem.now.drop_mode [] (take c.if-pending.depth c.if-pending.frames)

abbrev after : (g : Over) (c : After-advance g) → Table → List Event
after g c table = stacked table c.args.problem.now.drop_mode [] (take c.advance.result c.advance.new.frames)

pub returns-clause-found : goal.returns-clause-found
returns-clause-found g c = search (rules, finds-same, (passed g c))

pub returns-clause-counted : goal.returns-clause-counted
returns-clause-counted g c = search (rules, (passed g c))

pub returns-clause-fewer : goal.returns-clause-fewer
returns-clause-fewer g c = search (rules, (passed g c))

pub returns-clause-noted : goal.returns-clause-noted
returns-clause-noted g c = counts-then c.args.notes.now.floods c.if-pending.notes.floods c.advance.new.notes.floods c.args.steps.now c.if-pending.steps c.advance.new.steps (search (rules, (counts-none c.args.notes.now.floods c.args.steps.now))) c.advance.ensures.noted
