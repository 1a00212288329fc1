-- Equal fronts are the same.
use Rattle.std.proofs.Common.{rules}
use Rattle.std.specs.Cmp.Lexicographic.{pointwise_decides}
use Rattle.cover.proofs.PieceEqual.{equal-decides}
use Rattle.cover.proofs.front.has_same_front.Goals as goal

pub returns : goal.returns
returns c = search (rules, pointwise_decides, equal-decides)
