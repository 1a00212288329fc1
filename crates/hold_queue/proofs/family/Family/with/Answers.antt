-- The goals of `Family::with` that need lemmas.
use Rattle.std.proofs.Common.{◌-◌, ap}
use Rattle.hold_queue.proofs.FamilyBits.{has_set-with, has_set-with_s}
use Rattle.hold_queue.proofs.family.Family.with.Goals as goal

pub returns-in-S : goal.returns-in-S
returns-in-S c = λ set within. rw c.in-S.is (has_set-with_s c.args.self set within)

pub returns : goal.returns
returns c = λ set within. has_set-with c.args.self c.args.piece (c.code-index.result - 1) (ap (λ n. n - 1) c.code-index.ensures) c.in_default.not-S set within
