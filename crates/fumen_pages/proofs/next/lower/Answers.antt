-- What is rotated, with its first row emptied.
use Rattle.std.proofs.Common.{rules}
use Rattle.fumen_pages.proofs.NextLaws.{lowered}
use Rattle.fumen_pages.proofs.next.lower.Goals as goal

pub returns : goal.returns
returns c = search (rules, lowered)
