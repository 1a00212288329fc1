-- The goals of `Pattern::count_from` that need lemmas.
use Rattle.std.proofs.Common.{◌-◌, ◌∙◌, ap, arith, drop, subst, take}
use Rattle.std.specs.List.{list_all}
use Rattle.std.proofs.lemmas.List.{take_all}
use Rattle.srs.proofs.CallerLemmas.{list_all_each}
use Rattle.queue_pattern.specs.Builder.{Holds}
use Rattle.queue_pattern.specs.Pattern.{elements_of}
use Rattle.queue_pattern.specs.Sound.{is_sound}
use Rattle.queue_pattern.proofs.LastElements.{counted, last-part, sound-last}
use Rattle.queue_pattern.proofs.pattern.Pattern.count_from.Goals as goal

pub add-requires : goal.add-requires
unfolding elements_of
add-requires c =
    let pattern = c.args.self.now in
    list_all_each is_sound (take (pattern.number - c.args.first) (drop c.args.first pattern.elements)) c.elements.element-index (record { set = 0; chosen = 0 })
    (ap (list_all is_sound) (last-part pattern.elements c.args.first pattern.number c.requires) ∙ sound-last (elements_of pattern) c.args.first pattern.sound)
    c.elements-test.true

pub returns : goal.returns
unfolding elements_of
returns c =
    let pattern = c.args.self.now in
    let part = take (pattern.number - c.args.first) (drop c.args.first pattern.elements) in
    counted pattern c.elements.builder c.args.first
    (subst (Holds c.elements.builder) (take_all c.elements.element-index part (omega arith) ∙ last-part pattern.elements c.args.first pattern.number c.requires) c.elements.invariant)
