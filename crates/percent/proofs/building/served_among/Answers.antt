-- No tiling serves one of no hands.
use Rattle.std.proofs.Common.{ap, sym, ◌∙◌}
use Rattle.std.proofs.lemmas.Bool.{false≢true}
use Rattle.lane_board.specs.Lanes.{has_bit}
use Rattle.lane_board.proofs.CallerLemmas.{has_bit-zero}
use Rattle.percent.proofs.building.served_among.Goals as goal

pub returns-then-hands-eq0 : goal.returns-then-hands-eq0
returns-then-hands-eq0 c = λ bit. (
  λ there. absurd (false≢true (sym (has_bit-zero bit) ∙ there)),
  λ both. absurd (false≢true (sym (has_bit-zero bit) ∙ ap (λ n. has_bit n bit) (sym c.if-hands-eq0.true) ∙ both.0)),
)
