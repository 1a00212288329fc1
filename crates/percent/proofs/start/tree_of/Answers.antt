-- The pattern that is cut has at most as many pieces as are drawn.
use Rattle.percent.proofs.StartLemmas.{cut-short, cut-tree}
use Rattle.percent.proofs.start.tree_of.Goals as goal

pub new-requires : goal.new-requires
new-requires c = cut-short c.args.problem.now c.args.pattern.now c.cut-cut.result c.pieces_that_matter.result c.requires c.pieces_that_matter.ensures c.cut-cut.ensures

pub returns : goal.returns
returns c =
    cut-tree c.args.problem.now c.args.pattern.now c.cut-cut.result c.pieces_that_matter.result c.new.result c.pieces_that_matter.ensures c.cut-cut.ensures
    c.new.ensures.pattern c.new.ensures.hold
