-- The goals of `Family::is_empty` that need lemmas.
use Rattle.std.proofs.Common.{rules}
use Rattle.hold_queue.proofs.FamilyBits.{family_none, low_none, high_none}
use Rattle.hold_queue.proofs.family.Family.is_empty.Goals as goal

pub returns-then-has_none : goal.returns-then-has_none
returns-then-has_none c = search (rules, family_none, high_none)

pub returns-else-has_none : goal.returns-else-has_none
returns-else-has_none c = (λ some. let no = c.if-has_none.false in cc (some, no), λ none. c.has_none.ensures.1 (low_none c.args.self none))
