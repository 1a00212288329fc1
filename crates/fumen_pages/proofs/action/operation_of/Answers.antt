-- The piece is placed where its pivot is moved back to.
use Rattle.std.proofs.Common.{rules}
use Rattle.fumen_pages.proofs.ActionReadAsSpelled.{moved-turned, written_by-turned}
use Rattle.fumen_pages.proofs.action.operation_of.Goals as goal

pub moved-pivot-requires-clause-near : goal.moved-pivot-requires-clause-near
moved-pivot-requires-clause-near c = search (rules, written_by-turned)

pub returns : goal.returns
returns c = search (rules, moved-turned)
