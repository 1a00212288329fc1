-- The goals of `choice_count` that need lemmas.
use Rattle.std.proofs.Common.{◌≤◌, ◌∙◌, ap, subst, sym, length}
use Rattle.queue_pattern.specs.Queues.{pieces_in, falling_factor}
use Rattle.queue_pattern.proofs.BuilderLemmas.{sound-within}
use Rattle.queue_pattern.proofs.FallingLemmas.{falling_factor-some}
use Rattle.queue_pattern.proofs.builder.choice_count.Goals as goal

pub returns-clause-some : goal.returns-clause-some
returns-clause-some c = subst (λ n. 1 ≤ n) (sym (c.falling_product.ensures.value ∙ ap (λ m. falling_factor m c.args.element.chosen) c.size.ensures.number)) (falling_factor-some c.args.element.chosen (length (pieces_in c.args.element.set)) (sound-within c.args.element c.requires))
