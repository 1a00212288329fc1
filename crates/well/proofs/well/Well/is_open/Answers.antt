-- A cell beside the well is not open, and one of the well is open where it is not filled.
use Rattle.std.proofs.Common.{rules}
use Rattle.well.proofs.FreeLemmas.{closed, open_at}
use Rattle.well.proofs.well.Well.is_open.Goals as goal
use Rattle.well.proofs.well.Well.is_open.Goals.{then-x-lt0-via-then-x-lt0, then-x-lt0-via-else-x-lt0+then-x-gt9, then-x-lt0-via-else-x-lt0+else-x-gt9+then-y-lt0, then-x-lt0-via-else-x-lt0+else-x-gt9+else-y-lt0+then-y-gt22}

pub returns-then-x-lt0 : goal.returns-then-x-lt0
returns-then-x-lt0 c = search (rules, closed)

pub returns : goal.returns
returns c = search (rules, open_at)
