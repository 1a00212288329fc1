-- The queues of the last elements: how many there are, and where they stand behind a choice of the element before them.
use Rattle.std.proofs.Common.{◌≡◌, ℕ, zero, suc, Some, ◌+◌, ◌-◌, ◌*◌, ◌<◌, ◌≤◌, true, List, [], ◌∷◌, ◌++◌, drop, take, get_or, length, refl, ap, sym, subst, ◌∙◌, arith}
use Rattle.std.specs.List.{list_all, slice_get}
use Rattle.std.specs.Option.{option_and_then}
use Rattle.std.proofs.Math.Nat.{mul-le-mul, one-mul}
use Rattle.std.proofs.Math.Seq.{drop-drop}
use Rattle.std.proofs.lemmas.Bool.{and_parts}
use Rattle.std.proofs.lemmas.List.{drop-take, get_or-map, length-map, length-take}
use Rattle.std.proofs.lemmas.Option.{get_or_from_slice_get, slice_get-get_or}
use Rattle.queue_pattern.specs.declared.builder.Builder.{Builder}
use Rattle.queue_pattern.specs.declared.element.Element.{Element}
use Rattle.queue_pattern.specs.declared.pattern.Pattern.{Pattern}
use Rattle.queue_pattern.specs.Builder.{Holds}
use Rattle.queue_pattern.specs.Pattern.{elements_of}
use Rattle.queue_pattern.specs.Queues.{choices, falling_factor, pieces_in, queue_count, queues}
use Rattle.queue_pattern.specs.Sound.{is_sound}
use Rattle.queue_pattern.proofs.BuilderLemmas.{sound-within}
use Rattle.queue_pattern.proofs.FallingLemmas.{falling_factor-some}
use Rattle.queue_pattern.proofs.LimitLemmas.{queue_count-some}
use Rattle.queue_pattern.proofs.QueueLemmas.{behind, length-queues, uniform-behind}
use Rattle.queue_pattern.proofs.UniformLemmas.{get-uniform, length-uniform}

pub queues-times : (element : Element) (elements : List Element)
    → length (queues (element ∷ elements)) ≡ length (choices (pieces_in element.set) element.chosen) * length (queues elements)
unfolding queues
queues-times element elements =
    let fronts = choices (pieces_in element.set) element.chosen in
    length-uniform (behind elements) fronts (length (queues elements)) (uniform-behind elements fronts)

pub queues-at : (element : Element) (elements : List Element) (q r : ℕ) → q < length (choices (pieces_in element.set) element.chosen) → r < length (queues elements)
    → get_or (queues (element ∷ elements)) (q * length (queues elements) + r) []
    ≡ get_or (choices (pieces_in element.set) element.chosen) q [] ++ get_or (queues elements) r []
unfolding queues
queues-at element elements q r q_within r_within =
    let fronts = choices (pieces_in element.set) element.chosen in
    let all = queues elements in
    let front = get_or fronts q [] in
    get_or_from_slice_get (queues (element ∷ elements)) (q * length all + r) (front ++ get_or all r []) []
    (get-uniform (behind elements) fronts (length all) q r (uniform-behind elements fronts) r_within
    ∙ ap (λ o. option_and_then (λ choice. slice_get (behind elements choice) r) o) (slice_get-get_or fronts q [] q_within)
    ∙ slice_get-get_or (behind elements front) r [] (subst (λ n. r < n) (sym (length-map all (λ rest. front ++ rest))) r_within)
    ∙ ap Some (get_or-map (λ rest. front ++ rest) all r [] [] r_within))

-- the elements from one on, of the first of a list
pub last-part : (elements : List Element) (first number : ℕ) → first ≤ length (take number elements)
    → take (number - first) (drop first elements) ≡ drop first (take number elements)
last-part elements first number within =
    let fewer = length-take number elements in
    let both : first + (number - first) ≡ number = omega (arith, within, fewer) in
    sym (drop-take first (number - first) elements) ∙ ap (λ n. drop first (take n elements)) both

pub sound-last : (elements : List Element) (first : ℕ) → list_all is_sound elements ≡ true → list_all is_sound (drop first elements) ≡ true
sound-last elements zero sound = sound
sound-last [] (suc first) sound = refl
sound-last (element ∷ elements) (suc first) sound = sound-last elements first (and_parts (is_sound element) (list_all is_sound elements) sound).1

pub fewer-behind : (elements : List Element) (first : ℕ) → list_all is_sound elements ≡ true → queue_count (drop first elements) ≤ queue_count elements
unfolding queue_count
fewer-behind elements zero sound = omega arith
fewer-behind [] (suc first) sound = omega arith
fewer-behind (element ∷ elements) (suc first) sound =
    let parts = and_parts (is_sound element) (list_all is_sound elements) sound in
    let some = falling_factor-some element.chosen (length (pieces_in element.set)) (sound-within element parts.0) in
    let rest = fewer-behind elements first parts.1 in
    let more : 1 * queue_count elements ≤ falling_factor (length (pieces_in element.set)) element.chosen * queue_count elements = mul-le-mul some (omega arith) in
    omega (arith, rest, more, one-mul (queue_count elements))

-- a builder of the last elements of a pattern has counted their queues
pub counted : (pattern : Pattern) (builder : Builder) (first : ℕ) → Holds builder (drop first (elements_of pattern))
    → builder.count ≡ length (queues (drop first (elements_of pattern)))
unfolding elements_of
counted pattern builder first held =
    let fewer = fewer-behind (elements_of pattern) first pattern.sound in
    let is = length-queues (drop first (elements_of pattern)) in
    omega (arith, held.count, fewer, pattern.counted, pattern.few, is)

-- the last elements of a pattern have some queues
pub last-some : (pattern : Pattern) (first : ℕ) → 0 < length (queues (drop first (elements_of pattern)))
unfolding elements_of
last-some pattern first =
    let some = queue_count-some (drop first (elements_of pattern)) (sound-last (elements_of pattern) first pattern.sound) in
    let is = length-queues (drop first (elements_of pattern)) in
    omega (arith, some, is)

-- fewer of them have no more
pub last-fewer : (pattern : Pattern) (first last : ℕ) → first ≤ last
    → length (queues (drop last (elements_of pattern))) ≤ length (queues (drop first (elements_of pattern)))
unfolding elements_of
last-fewer pattern first last before =
    let all = elements_of pattern in
    let part = drop first all in
    let fewer = fewer-behind part (last - first) (sound-last all first pattern.sound) in
    let same : drop (last - first) part ≡ drop last all = drop-drop (last - first) first all ∙ ap (λ n. drop n all) (omega arith) in
    let one = length-queues (drop last all) in
    let two = length-queues part in
    let at = ap queue_count same in
    omega (arith, fewer, one, two, at)
