-- What holds of each pattern.
use Rattle.std.proofs.Common.{◌≡◌, ℕ, ◌<◌, ◌≤◌, true, List, [], ◌∷◌, length, Some, slice_get, subst, sym, ◌∙◌}
use Rattle.std.specs.List.{list_all}
use Rattle.std.proofs.lemmas.Option.{get_or_from_slice_get, slice_get_within}
use Rattle.srs.specs.declared.piece.Piece.{Piece}
use Rattle.srs.proofs.CallerLemmas.{list_all_each}
use Rattle.queue_pattern.specs.declared.element.Element.{Element}
use Rattle.queue_pattern.specs.declared.pattern.Pattern.{Pattern}
use Rattle.queue_pattern.specs.Grammar.{singles}
use Rattle.queue_pattern.specs.Pattern.{elements_of}
use Rattle.queue_pattern.specs.Queues.{queues, queue_len}
use Rattle.queue_pattern.specs.Sound.{is_sound}
use Rattle.queue_pattern.proofs.LastElements.{last-some}
use Rattle.queue_pattern.proofs.OneQueue.{one_queue-singles}
use Rattle.queue_pattern.proofs.QueueLemmas.{length-queues}

-- its queues have at most 22 pieces
pub pattern-short : (pattern : Pattern) → queue_len (elements_of pattern) ≤ 22
unfolding elements_of
pattern-short pattern = subst (λ n. n ≤ 22) pattern.len pattern.short

-- it has a queue
pub pattern-some : (pattern : Pattern) → 0 < length (queues (elements_of pattern))
pattern-some pattern = last-some pattern 0

-- where it stands for one queue alone, its elements are the pieces of this queue
pub pattern-alone : (pattern : Pattern) (queue : List Piece) → queues (elements_of pattern) ≡ queue ∷ [] → elements_of pattern ≡ singles queue
unfolding elements_of
pattern-alone pattern queue is = one_queue-singles (elements_of pattern) queue pattern.sound is

-- each of its elements is sound
pub pattern-sound : (pattern : Pattern) → list_all is_sound (elements_of pattern) ≡ true
unfolding elements_of
pattern-sound pattern = pattern.sound

pub pattern-sound_at : (pattern : Pattern) (i : ℕ) (element : Element) → slice_get (elements_of pattern) i ≡ Some element → is_sound element ≡ true
pattern-sound_at pattern i element there =
    let all = elements_of pattern in
    subst (λ e. is_sound e ≡ true) (get_or_from_slice_get all i element element there)
    (list_all_each is_sound all i element (pattern-sound pattern) (slice_get_within all i element there))

-- how many queues it has, which are at most 10,000,000
pub pattern-count : (pattern : Pattern) → pattern.count ≡ length (queues (elements_of pattern))
unfolding elements_of
pattern-count pattern = pattern.counted ∙ sym (length-queues (elements_of pattern))

pub pattern-few : (pattern : Pattern) → length (queues (elements_of pattern)) ≤ 10000000
pattern-few pattern = subst (λ n. n ≤ 10000000) (pattern-count pattern) pattern.few
