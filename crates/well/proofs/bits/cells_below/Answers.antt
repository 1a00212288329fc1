-- Row after row is packed, from the highest down.
use Rattle.std.proofs.Common.{◌≡◌, ◌-◌, refl, ap, subst, ◌∙◌, arith}
use Rattle.lane_board.specs.Lanes.{has_bit}
use Rattle.well.specs.Well.{filled}
use Rattle.well.proofs.WellFields.{filled-within}
use Rattle.well.proofs.PackedBits.{IsPacked, packed_none, packed_more, packed_fits, packed_all}
use Rattle.well.proofs.bits.cells_below.Goals as goal

-- the row that is read is that of the well
row_read : (c : goal.After-from) → has_bit c.from.result ≡ (λ x. filled c.args.well.now x (c.loop-y.y - 1))
row_read c = ap has_bit c.from.ensures ∙ c.row.ensures ∙ ap (λ F x. F x (c.loop-y.y - 1)) c.board-board.ensures

pub loop-y-init : goal.loop-y-init
loop-y-init c = packed_none (filled c.args.well.now) c.args.rows_left

pub overflow_mul-cells : goal.overflow_mul-cells
overflow_mul-cells c = let fits = packed_fits (filled c.args.well.now) c.args.rows_left c.loop-y.y c.loop-y.cells c.requires (omega arith) c.loop-y.invariant in omega (arith, fits)

pub overflow_add-cells : goal.overflow_add-cells
overflow_add-cells c = let fits = packed_fits (filled c.args.well.now) c.args.rows_left c.loop-y.y c.loop-y.cells c.requires (omega arith) c.loop-y.invariant in omega (arith, fits, c.from.ensures, c.row.type_inv)

pub loop-y-preserved : goal.loop-y-preserved
loop-y-preserved c = packed_more (filled c.args.well.now) c.args.rows_left c.loop-y.y (c.loop-y.y - 1) c.loop-y.cells c.from.result _ (omega arith) c.loop-y.auto.y (row_read c) (λ x y has. (filled-within c.args.well.now x y has).0) refl c.loop-y.invariant

pub returns : goal.returns
returns c = packed_all (filled c.args.well.now) c.args.rows_left c.loop-y.cells (λ x y has. (filled-within c.args.well.now x y has).0) (subst (λ y. IsPacked (filled c.args.well.now) c.args.rows_left y c.loop-y.cells) {x = c.loop-y.y} (omega arith) c.loop-y.invariant)
