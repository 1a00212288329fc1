-- No lane of the comparison is set.
use Rattle.std.proofs.Common.{eq-eqb, eqb-true}
use Rattle.lane_board.proofs.EightRows.{agree_by_mask}
use Rattle.lane_board.proofs.eights.agree.Goals as goal

pub returns : goal.returns
returns c =
    let by_mask = agree_by_mask c.args.at c.args.a.now c.args.b.now _ _ c.load.ensures.lanes c.load.ensures.eight c.load-2.ensures.lanes c.load-2.ensures.eight in
    (λ none. by_mask.0 (eqb-true _ _ none), λ same. eq-eqb _ _ (by_mask.1 same))
