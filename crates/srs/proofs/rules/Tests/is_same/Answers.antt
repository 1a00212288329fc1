-- The test of offsets is that of their pairs.
use Rattle.std.proofs.Common.{refl, ◌∙◌}
use Rattle.srs.proofs.TableLemmas.{pointwise-pairs}
use Rattle.srs.proofs.rules.Tests.is_same.Goals as goal

pub returns : goal.returns
returns c = c.eq.ensures ∙ pointwise-pairs _ (λ x y. refl) c.args.self.now.offsets c.args.other.now.offsets
