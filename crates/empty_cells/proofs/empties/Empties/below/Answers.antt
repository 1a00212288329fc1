-- One more row.
use Rattle.std.proofs.Common.{Bool, not, ◌&&◌, ◌==◌, ap, ◌∙◌, arith}
use Rattle.lane_board.specs.Field.{Field}
use Rattle.empty_cells.proofs.FoundCells.{empty-small, empty_bits, found-all, found-next, found-start}
use Rattle.empty_cells.proofs.empties.Empties.below.Goals as goal

pub loop-y-init : goal.loop-y-init
loop-y-init c = found-start _

pub spread-requires : goal.spread-requires
spread-requires c = empty-small c.row.result

pub loop-y-preserved : goal.loop-y-preserved
loop-y-preserved c = found-next _ _ _ _ (omega (arith, c.requires, c.loop-y-test.true)) c.spread.ensures.small
    (λ a b column low. c.spread.ensures.bits a b column low
    ∙ ap (λ t. (b == 0) && t) (empty_bits c.row.result a column)
    ∙ ap (λ (has : _ → Bool). (b == 0) && not (has a)) c.row.ensures
    ∙ ap (λ (F : Field). (b == 0) && not (F a c.loop-y.y)) c.board-board.ensures)
    c.loop-y.invariant

pub invariant_of-result : goal.invariant_of-result
invariant_of-result c = record { in_columns = c.loop-y.invariant.small }

pub returns : goal.returns
returns c = found-all _ c.args.rows c.loop-y.y _ c.requires (omega arith) c.loop-y.invariant
