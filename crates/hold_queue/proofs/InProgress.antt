-- What the next piece is drawn from, found along the elements.
use Rattle.std.proofs.Common.{◌≡◌, ℕ, suc, ◌+◌, ◌-◌, ◌<◌, ◌≤◌, ◌==◌, Some, None, List, ◌∷◌, length, drop, slice_get, refl, ap, ◌∙◌, sym, arith, drop-cons, rules}
use Rattle.std.proofs.lemmas.Bool.{lt-ltb, le-ltb}
use Rattle.std.proofs.lemmas.List.{drop_all}
use Rattle.std.proofs.lemmas.Option.{get_or_from_slice_get, slice_get_within}
use Rattle.queue_pattern.specs.declared.element.Element.{Element}
use Rattle.hold_queue.specs.States.{in_progress}

joined : {A : Type 0} {a b : A} {ys zs : List A} → a ≡ b → ys ≡ zs → a ∷ ys ≡ b ∷ zs
joined e h = cc

drop-get : {A : Type 0} (xs : List A) (i : ℕ) (x : A) → slice_get xs i ≡ Some x → drop i xs ≡ x ∷ drop (i + 1) xs
drop-get xs i x is =
    let next : suc i ≡ i + 1 = omega arith in
    drop-cons xs i x (slice_get_within xs i x is) ∙ joined (get_or_from_slice_get xs i x x is) (ap (λ n. drop n xs) next)

pub in_progress-here : (elements : List Element) (index left drawn : ℕ) (element : Element) → slice_get elements index ≡ Some element
    → in_progress (drop index elements) left ≡ in_progress elements drawn → left < element.chosen
    → Some (record { element = element; is_last = left + 1 == element.chosen }) ≡ in_progress elements drawn
unfolding in_progress
in_progress-here elements index left drawn element there so_far within = search (rules, drop-get, lt-ltb)

pub in_progress-later : (elements : List Element) (index left drawn : ℕ) (element : Element) → slice_get elements index ≡ Some element
    → in_progress (drop index elements) left ≡ in_progress elements drawn → element.chosen ≤ left
    → in_progress (drop (index + 1) elements) (left - element.chosen) ≡ in_progress elements drawn
unfolding in_progress
in_progress-later elements index left drawn element there so_far past =
    sym (ap (λ es. in_progress es left) (drop-get elements index element there) ∙ rw (le-ltb left element.chosen past) refl) ∙ so_far

pub in_progress-end : (elements : List Element) (index left drawn : ℕ) → length elements ≤ index
    → in_progress (drop index elements) left ≡ in_progress elements drawn → None ≡ in_progress elements drawn
unfolding in_progress
in_progress-end elements index left drawn past so_far = sym (ap (λ es. in_progress es left) (drop_all index elements past)) ∙ so_far
