-- The cells are those of the shape, each counted from the lowest one.
use Rattle.std.proofs.Common.{pos, sym, subst, rules}
use Rattle.std.specs.Bool.{IsTrue}
use Rattle.std.specs.List.{list_all}
use Rattle.low_flood.specs.LaneShapes.{is_near_lane}
use Rattle.low_flood.proofs.ShapeLemmas.{lane_cells-are, lane_cells-near}
use Rattle.low_flood.proofs.lane_shapes.lane_cells.Goals as goal

pub returns-clause-cells : goal.returns-clause-cells
returns-clause-cells c =
    lane_cells-are c.args.piece c.args.rotation (pos 0, pos 0) c.shape.result _ _ _ _ _
    c.shape.ensures.shape (search (rules, c.lowest_row-lowest.ensures.rows))
    c.from_lowest.ensures c.from_lowest-2.ensures c.from_lowest-3.ensures c.from_lowest-4.ensures

pub returns-clause-near : goal.returns-clause-near
returns-clause-near c =
    subst (λ cells. IsTrue (list_all is_near_lane cells)) (sym (returns-clause-cells c)) (lane_cells-near c.args.piece c.args.rotation)
