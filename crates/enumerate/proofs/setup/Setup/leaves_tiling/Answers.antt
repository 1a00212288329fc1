-- The empty cells tell what the field after the placement does.
use Rattle.std.proofs.Common.{ap, rules}
use Rattle.well.specs.Well.{filled}
use Rattle.well.proofs.CallerLemmas.{free_pivot_inside}
use Rattle.empty_cells.specs.Empties.{empty_cells, without_placement}
use Rattle.empty_cells.specs.SupplyWords.{supply_of}
use Rattle.empty_cells.proofs.CallerLemmas.{right-from_answer}
use Rattle.enumerate.proofs.PlaceLaws.{lockable_free}
use Rattle.enumerate.proofs.TilingLaws.{left-tiled}
use Rattle.enumerate.proofs.setup.Setup.leaves_tiling.Goals as goal

pub leaves_tiling-requires-clause-column : goal.leaves_tiling-requires-clause-column
leaves_tiling-requires-clause-column c = search (rules, free_pivot_inside, lockable_free)

pub leaves_tiling-requires-clause-row : goal.leaves_tiling-requires-clause-row
leaves_tiling-requires-clause-row c = search (rules, free_pivot_inside, lockable_free)

pub lock-removed-requires : goal.lock-removed-requires
lock-removed-requires c = lockable_free (filled c.args.self.now.well) c.args.placement.now.piece c.args.placement.now c.requires.lockable

pub returns-then-self-lt-MANY : goal.returns-then-self-lt-MANY
returns-then-self-lt-MANY c =
    let setup = c.args.self.now in
    let q = c.args.placement.now in
    left-tiled (filled setup.well) (without_placement (empty_cells setup.empties) q) setup.rows q (supply_of c.args.supply) c.leaves_tiling.result setup.low setup.bounded (lockable_free (filled setup.well) q.piece q c.requires.lockable) c.requires.below
    (ap (λ E. without_placement E q) setup.emptied) (right-from_answer c.leaves_tiling.result _ 8 _ c.leaves_tiling.ensures)

pub returns : goal.returns
returns c = search rules
