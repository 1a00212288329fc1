-- The action that a number says, and why it says none.
use Rattle.std.proofs.Common.{rules}
use Rattle.fumen_pages.proofs.ActionReadAsSpelled.{says_from_read, read_from_says, large_from_read, read_from_large, outside_from_read, read_from_outside}
use Rattle.fumen_pages.proofs.action.read_action.Goals as goal

pub returns-clause-found : goal.returns-clause-found
returns-clause-found c = search (rules, says_from_read, read_from_says)

pub returns-clause-too_large : goal.returns-clause-too_large
returns-clause-too_large c = search (rules, large_from_read, read_from_large)

pub returns-clause-outside : goal.returns-clause-outside
returns-clause-outside c = search (rules, outside_from_read, read_from_outside)
