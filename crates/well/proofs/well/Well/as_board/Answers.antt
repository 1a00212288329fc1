-- The board is the well's own.
use Rattle.std.proofs.Common.{refl}
use Rattle.well.specs.Well.{filled}
use Rattle.well.proofs.well.Well.as_board.Goals as goal

pub returns : goal.returns
unfolding filled
returns c = refl
