-- The last placement completes a solution where it leaves no row.
use Rattle.std.proofs.Common.{rules}
use Rattle.well.specs.Well.{filled}
use Rattle.enumerate.proofs.PlaceLaws.{lockable_free}
use Rattle.enumerate.proofs.TryLemmas.{enters-full, enters-rows_left, not-zero}
use Rattle.enumerate.proofs.setup.Setup.complete.Goals as goal

pub lock-removed-requires : goal.lock-removed-requires
lock-removed-requires c = lockable_free (filled c.args.self.now.well) c.args.placement.now.piece c.args.placement.now c.requires.lockable

pub returns-then-saturating_sub-eq0 : goal.returns-then-saturating_sub-eq0
returns-then-saturating_sub-eq0 c = search (rules, enters-full)

pub returns : goal.returns
returns c = search (rules, enters-rows_left, not-zero)
