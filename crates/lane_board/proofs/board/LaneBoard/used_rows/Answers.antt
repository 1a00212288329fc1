-- No cell lies above the first eight rows, or none above the board.
use Rattle.std.proofs.Common.{arith}
use Rattle.std.proofs.lemmas.Bool.{false_from_ne_true}
use Rattle.lane_board.proofs.BoardFields.{field_of-within}
use Rattle.lane_board.proofs.board.LaneBoard.used_rows.Goals as goal

pub returns-clause-above : goal.returns-clause-above
returns-clause-above g c = λ x y high. false_from_ne_true _ (λ filled. let place = field_of-within c.args.self.now x y filled in absurd (omega (arith, place.1)))
