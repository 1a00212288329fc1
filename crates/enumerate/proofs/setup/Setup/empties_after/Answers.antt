-- Where no row goes, the cells of the placement are all that goes.
use Rattle.std.proofs.Common.{rules}
use Rattle.well.proofs.CallerLemmas.{free_pivot_inside}
use Rattle.empty_cells.proofs.CallerLemmas.{left_by_placement}
use Rattle.enumerate.proofs.KeptRows.{kept_empties}
use Rattle.enumerate.proofs.PlaceLaws.{lockable_free}
use Rattle.enumerate.proofs.setup.Setup.empties_after.Goals as goal

pub without-requires-clause-column : goal.without-requires-clause-column
without-requires-clause-column c = search (rules, free_pivot_inside, lockable_free)

pub without-requires-clause-row : goal.without-requires-clause-row
without-requires-clause-row c = search (rules, free_pivot_inside, lockable_free)

pub returns-then-removed-eq0 : goal.returns-then-removed-eq0
returns-then-removed-eq0 c = search (rules, left_by_placement, kept_empties)
