-- No kind has more pieces than may come, or as many as placements come are kept.
use Rattle.std.proofs.Common.{◌≡◌, ◌<◌, ◌≤◌, ℕ, min, arith, rules}
use Rattle.std.specs.Prelude.{◌-◌}
use Rattle.srs.specs.declared.piece.Piece.{Piece}
use Rattle.prune.specs.Tiling.{Supply}
use Rattle.prune.specs.OnePart.{less_one}
use Rattle.empty_cells.specs.SupplyWords.{supply_of}
use Rattle.enumerate.proofs.setup.Setup.supply_after.Goals as goal

with_few : (supply : Supply) (left most : ℕ) (piece other : Piece) → supply other ≤ most → most < left →
    min left (less_one supply piece other) ≡ min (left - 1) (min left (less_one supply piece other))
unfolding less_one
with_few supply left most piece other few less = search rules

pub returns-then-self : goal.returns-then-self
returns-then-self c =
    search (rules, c.without_one-supply.ensures, (with_few (supply_of c.args.self.now.supply) c.args.self.now.left c.args.self.now.most c.args.piece), c.args.self.now.few_of_each)

pub returns : goal.returns
returns c = record { supplied = c.without_one-supply.ensures; limits = λ other. omega (arith, c.at_most.ensures other, c.saturating_sub.ensures) }
