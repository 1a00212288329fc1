-- One more cell has the difference, or the first one that hasn't is met.
use Rattle.std.proofs.Common.{rules}
use Rattle.fumen_pages.proofs.WriteLoop.{counted_starts, counted_more, counted_stops, counted_all}
use Rattle.fumen_pages.proofs.record.same_count.Goals as goal

pub loop-i-init : goal.loop-i-init
loop-i-init c = counted_starts c.args.shift c.args.old.now c.args.new.now

pub loop-i-preserved : goal.loop-i-preserved
loop-i-preserved c = search (rules, counted_more)

pub returns-then-difference-shift-clause-value : goal.returns-then-difference-shift-clause-value
returns-then-difference-shift-clause-value c = search (rules, counted_stops)

pub returns-clause-value : goal.returns-clause-value
returns-clause-value c = search (rules, counted_all)
