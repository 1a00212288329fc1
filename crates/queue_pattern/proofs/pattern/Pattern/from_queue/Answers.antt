-- The goals of `Pattern::from_queue` that need lemmas.
use Rattle.std.proofs.Common.{◌∙◌, ap, rules}
use Rattle.std.proofs.lemmas.List.{take_all}
use Rattle.queue_pattern.specs.Sound.{is_sound}
use Rattle.queue_pattern.proofs.SetLemmas.{single-sound}
use Rattle.queue_pattern.proofs.SingleLemmas.{limited-singles}
use Rattle.queue_pattern.proofs.pattern.Pattern.from_queue.Goals as goal

pub add-requires : goal.add-requires
add-requires c = ap (λ set. is_sound (record { set = set; chosen = 1 })) c.set_of_one-set.ensures ∙ single-sound _

pub unreachable-requires : goal.unreachable-requires
unreachable-requires c = search (rules, take_all, limited-singles)
