-- All tilings are listed, by whichever hands.
use Rattle.std.proofs.Common.{true, refl}
use Rattle.tails.specs.TailSets.{has}
use Rattle.percent.proofs.RestLemmas.{marks-of-tails}
use Rattle.percent.proofs.answered.marks_at.Goals as goal

pub returns-clause-lists : goal.returns-clause-lists
returns-clause-lists c =
    marks-of-tails c.args.kept.now.tree c.marks_of.result c.args.left (has c.args.tails.now) (λ hand. true) c.requires.tails (λ tail there. refl)
    (c.marks_of.ensures.all c.args.left (λ hand. true))
