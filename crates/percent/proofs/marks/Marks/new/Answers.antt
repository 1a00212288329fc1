-- Each row stands in itself.
use Rattle.well.specs.Well.{filled}
use Rattle.empty_cells.specs.Empties.{empty_cells}
use Rattle.percent.proofs.SpreadLemmas.{spread-own}
use Rattle.percent.proofs.marks.Marks.new.Goals as goal

pub invariant_of-result : goal.invariant_of-result
invariant_of-result c =
    let p = c.args.position.now in record {
      spread = spread-own (filled p.well) (empty_cells c.below.result) p.rows p.few c.below.ensures;
      hard = c.drops.ensures.0;
    }
