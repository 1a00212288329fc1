-- What the whole search finds above the bound is the list.
use Rattle.std.proofs.Common.{refl}
use Rattle.enumerate.proofs.SearchLists.{above-list}
use Rattle.enumerate.proofs.laws.lists_exist.Goals as goal

pub returns : goal.returns
returns c = λ problem queue bound fit. (_, above-list problem fit queue bound _ refl)
