-- The setup after a placement has what the placement leaves.
use Rattle.std.proofs.Common.{◌≡◌, ◌+◌, ◌-◌, ◌≤◌, ℕ, min, sym, ◌∙◌, arith, rules}
use Rattle.srs.specs.declared.piece.Piece.{Piece}
use Rattle.well.specs.Well.{filled}
use Rattle.well.proofs.CallerLemmas.{locked-by, removed-by}
use Rattle.hold_queue.specs.QueueSet.{queues_in_play}
use Rattle.hold_queue.specs.Supply.{supply_in_play}
use Rattle.prune.specs.Tiling.{Supply}
use Rattle.prune.specs.OnePart.{less_one}
use Rattle.empty_cells.specs.SupplyWords.{supply_of}
use Rattle.enumerate.proofs.PlaceLaws.{lockable_free}
use Rattle.enumerate.proofs.TilingLaws.{locked-below, supply-moves}
use Rattle.enumerate.proofs.TryLemmas.{child-state}
use Rattle.enumerate.proofs.setup.Setup.lead_to.Goals as goal

few_left : (supply : Supply) (left most : ℕ) (piece other : Piece) (after : ℕ) → after ≡ min left (less_one supply piece other) → supply other ≤ most → after ≤ most
unfolding less_one
few_left supply left most piece other after is few = search rules

pub fill-requires : goal.fill-requires
fill-requires c = lockable_free (filled c.args.self.now.well) c.args.placement.now.piece c.args.placement.now c.requires.lockable

pub empties_after-child-requires-clause-field : goal.empties_after-child-requires-clause-field
empties_after-child-requires-clause-field c = locked-by (filled c.args.self.now.well) _ c.args.placement.now c.fill.ensures _ c.remove_full_rows-removed.ensures.field

pub empties_after-child-requires-clause-removed : goal.empties_after-child-requires-clause-removed
empties_after-child-requires-clause-removed c = removed-by (filled c.args.self.now.well) _ c.args.placement.now c.fill.ensures _ c.remove_full_rows-removed.ensures.removed

pub invariant_of-child-clause-bounded : goal.invariant_of-child-clause-bounded
invariant_of-child-clause-bounded c = search (rules, locked-below, lockable_free, locked-by, removed-by)

pub invariant_of-child-clause-supplied : goal.invariant_of-child-clause-supplied
invariant_of-child-clause-supplied c =
    let setup = c.args.self.now in
    let left : setup.left ≡ setup.left - 1 + 1 = omega (arith, c.requires.some) in
    supply-moves (queues_in_play setup.line.queues) c.args.placement.now.piece setup.left (supply_of setup.supply) (supply_of c.args.next_supply.now.supply) setup.supplied c.requires.supplied.supplied
    ∙ (λ i. supply_in_play (sym c.follow.ensures i) (left i))

pub invariant_of-child-clause-few_of_each : goal.invariant_of-child-clause-few_of_each
invariant_of-child-clause-few_of_each c = λ other.
    few_left (supply_of c.args.self.now.supply) c.args.self.now.left c.args.self.now.most c.args.placement.now.piece other _ (c.requires.supplied.supplied other) (c.args.self.now.few_of_each other)

pub returns-clause-state : goal.returns-clause-state
returns-clause-state c = search (rules, locked-by, removed-by, child-state)
