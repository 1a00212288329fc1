-- What a builder holds after one more element.
use Rattle.std.proofs.Common.{◌≡◌, ℕ, ◌+◌, ◌*◌, ◌<◌, ◌≤◌, min, true, List, [], ◌∷◌, ◌++◌, length, length-append, take, set, refl, ap, sym, ◌∙◌, arith, add-one, rules}
use Rattle.std.specs.List.{list_all}
use Rattle.std.proofs.Math.Nat.{mul-le-mul, mul_assoc, mul-one}
use Rattle.std.proofs.Math.Seq.{take-suc-set}
use Rattle.std.proofs.lemmas.Bool.{and_from, cases_lt}
use Rattle.std.proofs.lemmas.Bool.Decides.{nat_tests}
use Rattle.std.proofs.lemmas.List.{take-append-le, take_all}
use Rattle.std.proofs.lemmas.List.Sums.{sum_by-append}
use Rattle.std.proofs.lemmas.List.Folds.{list_all-append}
use Rattle.queue_pattern.specs.declared.element.Element.{Element}
use Rattle.queue_pattern.specs.Queues.{pieces_in, falling_factor, queue_len, queue_count}
use Rattle.queue_pattern.specs.Sound.{is_sound}

pub queue_count-append : (elements : List Element) (element : Element) → queue_count (elements ++ element ∷ []) ≡ queue_count elements * falling_factor (length (pieces_in element.set)) element.chosen
unfolding queue_count
queue_count-append [] element = omega (arith, mul-one (falling_factor (length (pieces_in element.set)) element.chosen))
queue_count-append (e ∷ elements) element = search (rules, mul_assoc, queue_count-append elements element)

pub pieces_more : (pieces : ℕ) (elements : List Element) (element : Element) → pieces ≡ min (queue_len elements) 23
    → min (min (pieces + element.chosen) 255) 23 ≡ min (queue_len (elements ++ element ∷ [])) 23
pieces_more pieces elements element is = omega (arith, sum_by-append (λ (e : Element). e.chosen) elements (element ∷ []))

pub kept_more : (number : ℕ) (kept elements : List Element) (element : Element) → number < 22 → number < length kept → number ≡ min (length elements) 22
    → take number kept ≡ take 22 elements → take (number + 1) (set kept number element) ≡ take 22 (elements ++ element ∷ [])
kept_more number kept elements element room within is same =
    let short : length elements ≡ number = omega arith in
    let all : take 22 elements ≡ elements = take_all 22 elements (omega arith) in
    let more : take 22 (elements ++ element ∷ []) ≡ elements ++ element ∷ [] = take_all 22 (elements ++ element ∷ []) (omega (arith, length-append elements (element ∷ []))) in
    rw (add-one, take-suc-set kept number element within) (ap (λ front. front ++ element ∷ []) (same ∙ all) ∙ sym more)

pub kept_full : (number : ℕ) (kept elements : List Element) (element : Element) → 22 ≤ number → number ≡ min (length elements) 22
    → take number kept ≡ take 22 elements → take number kept ≡ take 22 (elements ++ element ∷ [])
kept_full number kept elements element full is same = search (rules, take-append-le)

pub sound_more : (elements : List Element) (element : Element) → list_all is_sound elements ≡ true → is_sound element ≡ true → list_all is_sound (elements ++ element ∷ []) ≡ true
sound_more elements element all one = list_all-append is_sound elements (element ∷ []) ∙ and_from _ _ all (and_from _ _ one refl)

pub number_more : (number : ℕ) (elements : List Element) (element : Element) → number < 22 → number ≡ min (length elements) 22 → number + 1 ≡ min (length (elements ++ element ∷ [])) 22
number_more number elements element room is = omega (arith, length-append elements (element ∷ []))

pub number_full : (number : ℕ) (elements : List Element) (element : Element) → 22 ≤ number → number ≡ min (length elements) 22 → number ≡ min (length (elements ++ element ∷ [])) 22
number_full number elements element full is = omega (arith, length-append elements (element ∷ []))

pub count_more : (count choices : ℕ) (elements : List Element) (element : Element) → count ≡ min (queue_count elements) 10000001 → 1 ≤ choices
    → choices ≡ falling_factor (length (pieces_in element.set)) element.chosen
    → min (count * choices) 10000001 ≡ min (queue_count (elements ++ element ∷ [])) 10000001
count_more count choices elements element is some ways = search (rules, min, cases_lt, mul-le-mul, queue_count-append)

pub sound-set : (element : Element) → is_sound element ≡ true → element.set < 128
unfolding is_sound
sound-set element sound = grind (arith, nat_tests)

pub sound-within : (element : Element) → is_sound element ≡ true → element.chosen ≤ length (pieces_in element.set)
unfolding is_sound
sound-within element sound = grind (arith, nat_tests)
