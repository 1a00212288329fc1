-- One more row is mirrored, and then all are.
use Rattle.std.proofs.Common.{arith, rules}
use Rattle.fumen_pages.proofs.NextLaws.{mirrored_starts, mirrored_more, mirrored_all}
use Rattle.fumen_pages.proofs.next.mirror.Goals as goal

pub loop-i-init : goal.loop-i-init
loop-i-init c = mirrored_starts c.args.dialect c.args.cells.now

pub loop-i-preserved : goal.loop-i-preserved
loop-i-preserved c =
    mirrored_more c.args.dialect c.args.cells.now c.loop-i.cells c.reverse.new.self c.loop-i.i _ _ c.told-cells (omega arith) (omega arith) (omega arith) c.reverse.ensures.after c.loop-i.invariant

pub returns-clause-rows : goal.returns-clause-rows
returns-clause-rows c = search (rules, mirrored_all)

pub returns-clause-missing : goal.returns-clause-missing
returns-clause-missing c =
    (mirrored_all c.args.dialect c.args.cells.now c.loop-i.cells c.loop-i.i c.told-cells (omega arith) c.loop-i.invariant).1
