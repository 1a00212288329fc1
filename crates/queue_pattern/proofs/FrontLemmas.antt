-- Queues and their fronts: how many share one, and how many of them pass a test.
use Rattle.std.proofs.Common.{◌≡◌, ℕ, suc, ◌+◌, ◌*◌, ◌/◌, ◌<◌, Bool, List, [], ◌∷◌, length, take, drop, get_or, ap, sym, subst, ◌∙◌, arith, zero-mul, mul-zero, count_by, Contains, Some}
use Rattle.std.specs.List.{slice_get}
use Rattle.std.specs.Option.{option_map}
use Rattle.std.proofs.Math.Nat.{mul-add, mul-add-div_right, mul-div_cancel, mul-suc, mul_comm, one-mul, suc-mul}
use Rattle.std.proofs.lemmas.List.{get_or_default, get_or-drop, get_or-take, length-drop, length-take-le, take-append-drop}
use Rattle.std.proofs.lemmas.List.Sums.{sum_by-append, sum_by-cons}
use Rattle.std.proofs.lemmas.Nat.{div_below}
use Rattle.srs.specs.declared.piece.Piece.{Piece}
use Rattle.queue_pattern.specs.declared.element.Element.{Element}
use Rattle.queue_pattern.specs.Cut.{cut}
use Rattle.queue_pattern.specs.Queues.{queues}
use Rattle.queue_pattern.proofs.ChoiceLemmas.{one_if}
use Rattle.queue_pattern.proofs.CutQueues.{fronts-get, queues-divided, queues-fronts, some_left, some_right}
use Rattle.queue_pattern.proofs.QueueLemmas.{length-queues}

-- so many queues share each front
pub record IsShared (elements : List Element) (n factor : ℕ) : Type 0 where
  pub divided : length (queues elements) ≡ factor * length (queues (cut n elements))
  pub some : 0 < factor
  pub fronts : 0 < length (queues (cut n elements))

-- as many as the quotient
pub shared-quotient : (elements : List Element) (n : ℕ) → 0 < length (queues elements)
    → IsShared elements n (length (queues elements) / length (queues (cut n elements)))
shared-quotient elements n some =
    let fronts = length (queues (cut n elements)) in
    let divided = queues-divided elements n in
    let within : 0 < divided.0 * fronts = omega (arith, some, divided.1) in
    let some_fronts = some_right divided.0 fronts 0 within in
    let quotient : length (queues elements) / fronts ≡ divided.0 = ap (λ k. k / fronts) divided.1 ∙ mul-div_cancel divided.0 some_fronts in
    subst (IsShared elements n) (sym quotient) (record { divided = divided.1; some = some_left divided.0 fronts 0 within; fronts = some_fronts })

-- the front of a queue has its number among the fronts
pub front-within : (elements : List Element) (n factor number : ℕ) → IsShared elements n factor → number < length (queues elements)
    → number / factor < length (queues (cut n elements))
front-within elements n factor number shared within =
    div_below number factor (length (queues (cut n elements))) shared.some (omega (arith, within, shared.divided, mul_comm factor (length (queues (cut n elements)))))

pub front-at : (elements : List Element) (n factor number : ℕ) (queue : List Piece) → IsShared elements n factor → number < length (queues elements)
    → slice_get (queues elements) number ≡ Some queue → slice_get (queues (cut n elements)) (number / factor) ≡ Some (take n queue)
front-at elements n factor number queue shared within there =
    let whole = length-queues elements in
    fronts-get elements n factor number (sym whole ∙ shared.divided ∙ ap (λ k. factor * k) (length-queues (cut n elements))) (omega (arith, within, whole))
    ∙ ap (option_map (λ front. take n front)) there

-- ---- how many pass a test

-- all of a list answer alike
count-alike : {A : Type 0} (test : A → Bool) (answer : Bool) (xs : List A) (d : A) → ((i : ℕ) → i < length xs → test (get_or xs i d) ≡ answer)
    → count_by test xs ≡ length xs * one_if answer
count-alike test answer [] d alike = sym (zero-mul (one_if answer))
count-alike test answer (x ∷ xs) d alike =
    let first : one_if (test x) ≡ one_if answer = ap one_if (alike 0 (omega arith)) in
    let rest = count-alike test answer xs d (λ i within. alike (suc i) (omega (arith, within))) in
    omega (arith, sum_by-cons (λ y. one_if (test y)) x xs, first, rest, suc-mul (length xs) (one_if answer))

-- each block of a list answers as one of another
count-blocks : {A B : Type 0} (test : A → Bool) (front_test : B → Bool) (factor : ℕ) (whole : List A) (fronts : List B) (d : A) (e : B) → 0 < factor
    → length whole ≡ factor * length fronts
    → ((i : ℕ) → i < length whole → test (get_or whole i d) ≡ front_test (get_or fronts (i / factor) e))
    → count_by test whole ≡ factor * count_by front_test fronts
count-blocks test front_test factor [] [] d e some long alike = sym (mul-zero factor)
count-blocks test front_test factor (x ∷ xs) [] d e some long alike = absurd (omega (arith, long, mul-zero factor))
count-blocks test front_test factor whole (y ∷ ys) d e some long alike =
    let block = take factor whole in
    let rest = drop factor whole in
    let all : length whole ≡ factor * length ys + factor = long ∙ mul-suc factor (length ys) in
    let block_long = length-take-le factor whole (omega (arith, all)) in
    let rest_long : length rest ≡ factor * length ys = omega (arith, length-drop factor whole, all) in
    let first = count-alike test (front_test y) block d (λ i within.
    let first_block : i / factor ≡ 0 = omega (arith, div_below i factor 1 some (omega (arith, within, block_long))) in
    ap test (get_or-take factor whole i d (omega (arith, within, block_long))) ∙ alike i (omega (arith, within, block_long, all))
    ∙ ap (λ k. front_test (get_or (y ∷ ys) k e)) first_block) in
    let others = count-blocks test front_test factor rest ys d e some rest_long (λ i within.
    let next_block : (factor + i) / factor ≡ suc (i / factor) =
    ap (λ k. (k + i) / factor) (sym (one-mul factor)) ∙ mul-add-div_right some 1 i ∙ omega arith in
    ap test (get_or-drop factor whole i d) ∙ alike (factor + i) (omega (arith, within, rest_long, all))
    ∙ ap (λ k. front_test (get_or (y ∷ ys) k e)) next_block) in
    let both : count_by test whole ≡ count_by test block + count_by test rest =
    sym (ap (count_by test) (take-append-drop factor whole)) ∙ sum_by-append (λ z. one_if (test z)) block rest in
    let one : length block * one_if (front_test y) ≡ factor * one_if (front_test y) = ap (λ k. k * one_if (front_test y)) block_long in
    omega (arith, both, first, one, others, ap (λ k. factor * k) (sum_by-cons (λ z. one_if (front_test z)) y ys), mul-add factor (one_if (front_test y)) (count_by front_test ys))

-- where a test of a queue is one of its front, as many times more queues pass it as share a front
pub count-fronts : (test front_test : List Piece → Bool) (elements : List Element) (n factor : ℕ) → IsShared elements n factor
    → ((queue : List Piece) → Contains (queues elements) queue → test queue ≡ front_test (take n queue))
    → count_by test (queues elements) ≡ factor * count_by front_test (queues (cut n elements))
count-fronts test front_test elements n factor shared same =
    count-blocks test front_test factor (queues elements) (queues (cut n elements)) [] [] shared.some shared.divided (λ i within.
    same (get_or (queues elements) i []) (i, within, get_or_default (queues elements) i (get_or (queues elements) i []) [] within)
    ∙ ap front_test (sym (queues-fronts elements n factor i shared.divided within)))
