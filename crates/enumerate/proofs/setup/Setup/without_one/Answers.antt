-- What is limited has one piece fewer after a piece, unless there are more of its kind than the limit.
use Rattle.std.proofs.Common.{◌≡◌, ◌<◌, ◌≤◌, ℕ, min, rules}
use Rattle.srs.specs.declared.piece.Piece.{Piece}
use Rattle.prune.specs.Tiling.{Supply}
use Rattle.prune.specs.OnePart.{less_one}
use Rattle.empty_cells.specs.SupplyWords.{supply_of}
use Rattle.enumerate.proofs.setup.Setup.without_one.Goals as goal

module _ (supply limited : Supply) (left : ℕ) (piece other : Piece) (is : limited other ≡ min left (supply other)) where
  with_more : left < supply piece → limited other ≡ min left (less_one supply piece other)
  unfolding less_one
  with_more many = search rules

  with_few : supply piece ≤ left → less_one limited piece other ≡ min left (less_one supply piece other)
  unfolding less_one
  with_few few = search rules

pub returns-then-self-count_of : goal.returns-then-self-count_of
returns-then-self-count_of c =
    search (rules, (with_more (supply_of c.args.self.now.supply) (supply_of c.args.self.now.limited) c.args.self.now.left c.args.piece), c.args.self.now.limits)

pub returns : goal.returns
returns c = search (rules, (with_few (supply_of c.args.self.now.supply) (supply_of c.args.self.now.limited) c.args.self.now.left c.args.piece), c.args.self.now.limits)
