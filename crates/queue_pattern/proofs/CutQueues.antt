-- Where a pattern is cut, each of its queues is the front of equally many queues of the whole, which stand together.
use Rattle.std.proofs.Common.{◌≡◌, ℕ, zero, suc, ◌+◌, ◌-◌, ◌*◌, ◌/◌, ◌%◌, ◌<◌, min, List, [], ◌∷◌, length, take, get_or, refl, ap, sym, ◌∙◌, arith, zero-mul, Option, Some, None}
use Rattle.std.specs.List.{slice_get}
use Rattle.std.specs.Option.{option_map}
use Rattle.std.proofs.Math.Nat.{mul-add-div_right, mul_assoc, mul_comm, mul-div_cancel_left, mul-one, one-mul}
use Rattle.std.proofs.lemmas.Nat.{div-add-mod', div_below, mod_below}
use Rattle.std.proofs.lemmas.Option.{get_or_from_slice_get, slice_get-get_or}
use Rattle.srs.specs.declared.piece.Piece.{Piece}
use Rattle.srs.specs.declared.piece.Piece.TheVariants.{I}
use Rattle.queue_pattern.specs.declared.element.Element.{Element}
use Rattle.queue_pattern.specs.Cut.{cut}
use Rattle.queue_pattern.specs.Queues.{pieces_in, others, queues, tails, falling_factor, queue_count}
use Rattle.queue_pattern.proofs.ChoiceLemmas.{IsSet, length-others, others-set, pieces_in-set}
use Rattle.queue_pattern.proofs.CutLemmas.{count-cut, count-none, cut-zero, swap_first}
use Rattle.queue_pattern.proofs.FallingLemmas.{falling_factor-more}
use Rattle.queue_pattern.proofs.QueueLemmas.{length-queues, length-tails, queues-none, queues-tails, tails-get, tails-none}

-- ---- the numbers of a queue and of its front

-- a number among m blocks, and the number of its front, where so many as a factor share a front
record IsFrontNumber (m block front_block factor number : ℕ) : Type 0 where
  blocks : block ≡ factor * front_block
  first : number / block < m
  rest : number % block < block
  front_rest : number % block / factor < front_block
  whole : number / block * block + number % block ≡ number
  front : number / factor ≡ number / block * front_block + number % block / factor

pub some_left : (a b number : ℕ) → number < a * b → 0 < a
some_left zero b number within = absurd (omega (arith, within, zero-mul b))
some_left (suc a) b number within = omega arith

pub some_right : (a b number : ℕ) → number < a * b → 0 < b
some_right a b number within = some_left b a number (omega (arith, within, mul_comm a b))

same_factor : (m a b : ℕ) → 0 < m → m * a ≡ m * b → a ≡ b
same_factor m a b some is = sym (mul-div_cancel_left a some) ∙ ap (λ n. n / m) is ∙ mul-div_cancel_left b some

-- whole blocks are divided, and what is left is divided
divided_sum : (q r front_block factor : ℕ) → 0 < factor → (q * (factor * front_block) + r) / factor ≡ q * front_block + r / factor
divided_sum q r front_block factor some =
    ap (λ n. (n + r) / factor) (swap_first q factor front_block ∙ mul_comm factor (q * front_block)) ∙ mul-add-div_right some (q * front_block) r

front_number : (m block front_block factor number : ℕ) → m * block ≡ factor * (m * front_block) → number < m * block
    → IsFrontNumber m block front_block factor number
front_number m block front_block factor number is within =
    let some = some_right m block number within in
    let blocks : block ≡ factor * front_block = same_factor m block (factor * front_block) (some_left m block number within) (is ∙ swap_first factor m front_block) in
    let less = mod_below number block some in
    let factor_some = some_left factor front_block (number % block) (omega (arith, less, blocks)) in
    let whole = div-add-mod' number block in
    record {
      blocks = blocks;
      first = div_below number block m some within;
      rest = less;
      front_rest = div_below (number % block) factor front_block factor_some (omega (arith, less, blocks, mul_comm factor front_block));
      whole = whole;
      front = ap (λ n. n / factor) (sym whole ∙ ap (λ b. number / block * b + number % block) blocks) ∙ divided_sum (number / block) (number % block) front_block factor factor_some;
    }

-- ---- where nothing is kept

one_front : (whole : List (List Piece)) (factor number : ℕ) → length whole ≡ factor → number < factor
    → slice_get ([] ∷ []) (number / factor) ≡ option_map (λ queue. take 0 queue) (slice_get whole number)
one_front whole factor number long within =
    let first : number / factor ≡ 0 = omega (arith, div_below number factor 1 (omega (arith, within)) (omega (arith, within))) in
    ap (slice_get ([] ∷ [])) first ∙ ap (option_map (λ queue. take 0 queue)) (sym (slice_get-get_or whole number [] (omega (arith, within, long))))

-- ---- where something is kept

-- the queue with each number has the front with the number of whole factors
abbrev pub HasFronts : List Element → Type 0
HasFronts elements = (n factor number : ℕ) → queue_count elements ≡ factor * queue_count (cut n elements) → number < queue_count elements
    → slice_get (queues (cut n elements)) (number / factor) ≡ option_map (λ queue. take n queue) (slice_get (queues elements) number)

take_map : (n : ℕ) (piece : Piece) (o : Option (List Piece))
    → option_map (λ rest. piece ∷ rest) (option_map (λ queue. take n queue) o) ≡ option_map (λ queue. take (suc n) queue) (option_map (λ rest. piece ∷ rest) o)
take_map n piece None = refl
take_map n piece (Some queue) = refl

more_blocks : (count m c rest : ℕ) → count ≡ falling_factor m (suc c) * rest → count ≡ m * (falling_factor (m - 1) c * rest)
more_blocks count m c rest is = is ∙ ap (λ f. f * rest) (falling_factor-more m (suc c) c refl) ∙ mul_assoc m (falling_factor (m - 1) c) rest

no_blocks : (count m c rest : ℕ) → c ≡ 0 → count ≡ falling_factor m c * rest → count ≡ rest
unfolding falling_factor
no_blocks count m c rest none is = is ∙ ap (λ k. falling_factor m k * rest) none ∙ one-mul rest

pub tails-fronts : (c n kept later count front_count factor : ℕ) (pieces : List Piece) (elements : List Element) → IsSet pieces → HasFronts elements
    → kept ≡ min c n → later ≡ n - c → count ≡ falling_factor (length pieces) c * queue_count elements
    → front_count ≡ falling_factor (length pieces) kept * queue_count (cut later elements) → count ≡ factor * front_count → (number : ℕ) → number < count
    → slice_get (tails pieces kept (cut later elements)) (number / factor) ≡ option_map (λ queue. take n queue) (slice_get (tails pieces c elements) number)
tails-fronts zero n kept later count front_count factor pieces elements set fronts keeps leaves counted front_counted divided number within =
    let none : kept ≡ 0 = omega (arith, keeps) in
    let whole = no_blocks count (length pieces) 0 (queue_count elements) refl counted in
    let front = no_blocks front_count (length pieces) kept (queue_count (cut later elements)) none front_counted in
    let same : later ≡ n = omega (arith, leaves) in
    ap (λ k. slice_get (tails pieces k (cut later elements)) (number / factor)) none
    ∙ ap (λ qs. slice_get qs (number / factor)) (tails-none pieces (cut later elements) ∙ ap (λ k. queues (cut k elements)) same)
    ∙ fronts n factor number (sym whole ∙ divided ∙ ap (λ k. factor * k) (front ∙ ap (λ k. queue_count (cut k elements)) same)) (omega (arith, within, whole))
    ∙ ap (λ qs. option_map (λ queue. take n queue) (slice_get qs number)) (sym (tails-none pieces elements))
tails-fronts (suc c) zero kept later count front_count factor pieces elements set fronts keeps leaves counted front_counted divided number within =
    let none : kept ≡ 0 = omega (arith, keeps) in
    let no_later : later ≡ 0 = omega (arith, leaves) in
    let front : front_count ≡ 1 = no_blocks front_count (length pieces) kept (queue_count (cut later elements)) none front_counted ∙ count-none later elements no_later in
    let all : count ≡ factor = divided ∙ ap (λ k. factor * k) front ∙ mul-one factor in
    ap (λ k. slice_get (tails pieces k (cut later elements)) (number / factor)) none
    ∙ ap (λ qs. slice_get qs (number / factor)) (tails-none pieces (cut later elements) ∙ ap queues (cut-zero later elements no_later) ∙ queues-none)
    ∙ one_front (tails pieces (suc c) elements) factor number (length-tails pieces (suc c) elements set ∙ sym counted ∙ all) (omega (arith, within, all))
tails-fronts (suc c) (suc n) zero later count front_count factor pieces elements set fronts keeps leaves counted front_counted divided number within =
    absurd (omega (arith, keeps))
tails-fronts (suc c) (suc n) (suc kept) later count front_count factor pieces elements set fronts keeps leaves counted front_counted divided number within =
    let m = length pieces in
    let block = falling_factor (m - 1) c * queue_count elements in
    let front_block = falling_factor (m - 1) kept * queue_count (cut later elements) in
    let whole : count ≡ m * block = more_blocks count m c (queue_count elements) counted in
    let fewer : front_count ≡ m * front_block = more_blocks front_count m kept (queue_count (cut later elements)) front_counted in
    let is = front_number m block front_block factor number (sym whole ∙ divided ∙ ap (λ k. factor * k) fewer) (omega (arith, within, whole)) in
    let piece = get_or pieces (number / block) I in
    let there = slice_get-get_or pieces (number / block) I is.first in
    let shorter = length-others piece pieces set (number / block, is.first, get_or_from_slice_get pieces (number / block) piece piece there) in
    let same : length (others piece pieces) ≡ m - 1 = omega (arith, shorter) in
    let rest = tails-fronts c n kept later block front_block factor (others piece pieces) elements (others-set piece pieces set) fronts (omega (arith, keeps)) (omega (arith, leaves))
    (ap (λ k. falling_factor k c * queue_count elements) (sym same)) (ap (λ k. falling_factor k kept * queue_count (cut later elements)) (sym same)) is.blocks (number % block) is.rest in
    ap (slice_get (tails pieces (suc kept) (cut later elements))) is.front
    ∙ tails-get pieces kept (cut later elements) (number / block) (number % block / factor) front_block piece set refl is.front_rest there
    ∙ ap (option_map (λ rest. piece ∷ rest)) rest
    ∙ take_map n piece (slice_get (tails (others piece pieces) c elements) (number % block))
    ∙ ap (option_map (λ queue. take (suc n) queue)) (sym (tails-get pieces c elements (number / block) (number % block) block piece set refl is.rest there))
    ∙ ap (λ k. option_map (λ queue. take (suc n) queue) (slice_get (tails pieces (suc c) elements) k)) is.whole

pub fronts-get : (elements : List Element) → HasFronts elements
unfolding cut queue_count
fronts-get elements zero factor number divided within =
    let all : queue_count elements ≡ factor = divided ∙ mul-one factor in
    ap (λ qs. slice_get qs (number / factor)) queues-none
    ∙ one_front (queues elements) factor number (length-queues elements ∙ all) (omega (arith, within, all))
fronts-get [] (suc n) factor number divided within =
    let all : 1 ≡ factor = divided ∙ mul-one factor in
    let first : number ≡ 0 = omega (arith, within) in
    let front : number / factor ≡ 0 = omega (arith, div_below number factor 1 (omega (arith, all)) (omega (arith, within, all))) in
    ap (slice_get (queues [])) front
    ∙ ap (λ qs. slice_get qs 0) queues-none
    ∙ ap (λ qs. option_map (λ queue. take (suc n) queue) (slice_get qs 0)) (sym queues-none)
    ∙ ap (λ k. option_map (λ queue. take (suc n) queue) (slice_get (queues []) k)) (sym first)
fronts-get (element ∷ elements) (suc n) factor number divided within =
    let later = suc n - element.chosen in
    let kept : Element = record { set = element.set; chosen = min element.chosen (suc n) } in
    ap (λ qs. slice_get qs (number / factor)) (queues-tails kept (cut later elements))
    ∙ tails-fronts element.chosen (suc n) kept.chosen later (queue_count (element ∷ elements)) (queue_count (kept ∷ cut later elements)) factor (pieces_in element.set) elements
    (pieces_in-set element.set) (fronts-get elements) refl refl refl refl divided number within
    ∙ ap (λ qs. option_map (λ queue. take (suc n) queue) (slice_get qs number)) (sym (queues-tails element elements))

-- ---- in the words of lists alone

pub queues-divided : (elements : List Element) (n : ℕ) → (factor : ℕ) × (length (queues elements) ≡ factor * length (queues (cut n elements)))
queues-divided elements n =
    let divided = count-cut n elements in
    (divided.0, length-queues elements ∙ divided.1 ∙ ap (λ k. divided.0 * k) (sym (length-queues (cut n elements))))

pub queues-fronts : (elements : List Element) (n factor number : ℕ) → length (queues elements) ≡ factor * length (queues (cut n elements)) → number < length (queues elements)
    → get_or (queues (cut n elements)) (number / factor) [] ≡ take n (get_or (queues elements) number [])
queues-fronts elements n factor number divided within =
    let whole = length-queues elements in
    let counted : queue_count elements ≡ factor * queue_count (cut n elements) = sym whole ∙ divided ∙ ap (λ k. factor * k) (length-queues (cut n elements)) in
    get_or_from_slice_get (queues (cut n elements)) (number / factor) (take n (get_or (queues elements) number [])) []
    (fronts-get elements n factor number counted (omega (arith, within, whole))
    ∙ ap (option_map (λ queue. take n queue)) (slice_get-get_or (queues elements) number [] within))
