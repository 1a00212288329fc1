-- Locking is filling, then removing.
use Rattle.well.specs.Well.{filled}
use Rattle.well.proofs.LockLemmas.{locked-by, removed-by}
use Rattle.well.proofs.well.Well.lock.Goals as goal

pub returns-clause-field : goal.returns-clause-field
returns-clause-field c = locked-by (filled c.args.self.now) _ c.args.placement.now c.fill.ensures _ c.remove_full_rows-removed.ensures.field

pub returns-clause-removed : goal.returns-clause-removed
returns-clause-removed c = removed-by (filled c.args.self.now) _ c.args.placement.now c.fill.ensures _ c.remove_full_rows-removed.ensures.removed
