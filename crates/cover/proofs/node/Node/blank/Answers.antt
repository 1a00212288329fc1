-- Nothing is below.
use Rattle.std.proofs.Common.{refl}
use Rattle.cover.proofs.NodeLemmas.{none-below}
use Rattle.cover.proofs.node.Node.blank.Goals as goal

pub returns : goal.returns
returns c = record { none = λ kind. none-below _ kind refl; open_end = refl }
