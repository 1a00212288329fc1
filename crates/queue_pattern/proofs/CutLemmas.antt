-- A pattern that is cut to its queues' first pieces: its elements, and how many pieces and queues it has.
use Rattle.std.proofs.Common.{◌≡◌, ℕ, zero, suc, ◌-◌, ◌*◌, ◌<◌, ◌≤◌, min, true, List, [], ◌∷◌, ◌++◌, length, refl, ap, sym, subst, ◌∙◌, arith, append_assoc, append-nil, zero-mul, inl, inr, Ok}
use Rattle.std.specs.List.{list_all}
use Rattle.std.proofs.Math.Nat.{mul-le-mul, mul_assoc, mul-one, one-mul, mul_comm}
use Rattle.std.proofs.lemmas.Bool.{and_parts, cases_lt}
use Rattle.std.proofs.lemmas.Bool.Decides.{nat_tests}
use Rattle.std.proofs.lemmas.List.Sums.{sum_by-cons}
use Rattle.queue_pattern.specs.declared.builder.Builder.{Builder}
use Rattle.queue_pattern.specs.declared.element.Element.{Element}
use Rattle.queue_pattern.specs.declared.pattern.Pattern.{Pattern}
use Rattle.queue_pattern.specs.Builder.{Holds}
use Rattle.queue_pattern.specs.Cut.{cut}
use Rattle.queue_pattern.specs.Grammar.{limited}
use Rattle.queue_pattern.specs.Pattern.{elements_of}
use Rattle.queue_pattern.specs.Queues.{pieces_in, falling_factor, queue_len, queue_count}
use Rattle.queue_pattern.specs.Sound.{is_sound}
use Rattle.queue_pattern.proofs.BuilderLemmas.{sound-set, sound-within}
use Rattle.queue_pattern.proofs.FallingLemmas.{falling_factor-add}
use Rattle.queue_pattern.proofs.LimitLemmas.{queue_count-some, sound-some}
use Rattle.queue_pattern.proofs.PatternMade.{sound_of}

pub cut-zero : (n : ℕ) (elements : List Element) → n ≡ 0 → cut n elements ≡ []
unfolding cut
cut-zero n elements none = ap (λ k. cut k elements) none

pub cut-none : (n : ℕ) → cut n [] ≡ []
unfolding cut
cut-none zero = refl
cut-none (suc n) = refl

-- the first element keeps what is left for it
pub cut-more : (n chosen : ℕ) (element : Element) (elements : List Element) → 0 < n → chosen ≡ min element.chosen n
    → cut n (element ∷ elements) ≡ record { set = element.set; chosen = chosen } ∷ cut (n - element.chosen) elements
unfolding cut
cut-more zero chosen element elements some is = absurd (omega (arith, some))
cut-more (suc n) chosen element elements some is = λ i. record { set = element.set; chosen = sym is i } ∷ cut (suc n - element.chosen) elements

-- a pattern of so few pieces is not cut
pub cut-all : (n : ℕ) (elements : List Element) → list_all is_sound elements ≡ true → queue_len elements ≤ n → cut n elements ≡ elements
cut-all n [] sound few = cut-none n
cut-all n (element ∷ elements) sound few =
    let parts = and_parts (is_sound element) (list_all is_sound elements) sound in
    let some = sound-some element parts.0 in
    let both = sum_by-cons (λ (e : Element). e.chosen) element elements in
    let rest : queue_len elements ≤ n - element.chosen = omega (arith, few, both) in
    cut-more n element.chosen element elements (omega (arith, few, both, some)) (omega (arith, few, both))
    ∙ ap (λ es. element ∷ es) (cut-all (n - element.chosen) elements parts.1 rest)

-- ---- how many pieces and queues are left

pub queue_len-cut : (n : ℕ) (elements : List Element) → queue_len (cut n elements) ≡ min n (queue_len elements)
unfolding cut
queue_len-cut zero elements = omega arith
queue_len-cut (suc n) [] = omega arith
queue_len-cut (suc n) (element ∷ elements) =
    let rest = cut (suc n - element.chosen) elements in
    let first : Element = record { set = element.set; chosen = min element.chosen (suc n) } in
    omega (arith, sum_by-cons (λ (e : Element). e.chosen) element elements, sum_by-cons (λ (e : Element). e.chosen) first rest, queue_len-cut (suc n - element.chosen) elements)

pub swap_first : (a b c : ℕ) → a * (b * c) ≡ b * (a * c)
swap_first a b c = sym (mul_assoc a b c) ∙ ap (λ k. k * c) (mul_comm a b) ∙ mul_assoc b a c

-- a whole that is divided by a part of it
abbrev pub IsDivided : ℕ → ℕ → Type 0
IsDivided whole part = (factor : ℕ) × (whole ≡ factor * part)

-- an element is kept whole, and those after it are cut
divided_after : (ways whole part : ℕ) → IsDivided whole part → IsDivided (ways * whole) (ways * part)
divided_after ways whole part divided = (divided.0, ap (λ k. ways * k) divided.1 ∙ swap_first ways divided.0 part)

-- an element is cut, and those after it go
divided_within : (m c n whole part : ℕ) → n ≤ c → part ≡ 1 → IsDivided (falling_factor m c * whole) (falling_factor m n * part)
divided_within m c n whole part cuts none =
    let later = falling_factor (m - n) (c - n) in
    let split = falling_factor-add n (c - n) c m (omega (arith, cuts)) in (
      later * whole,
      ap (λ k. k * whole) split ∙ mul_assoc (falling_factor m n) later whole ∙ mul_comm (falling_factor m n) (later * whole)
          ∙ ap (λ k. later * whole * k) (sym (mul-one (falling_factor m n)) ∙ ap (λ k. falling_factor m n * k) (sym none)),
    )

pub divided_cut : (m c n whole part : ℕ) → IsDivided whole part → (n ≤ c → part ≡ 1)
    → IsDivided (falling_factor m c * whole) (falling_factor m (min c n) * part)
divided_cut m c n whole part divided none = elim (cases_lt c n) as (λ _. IsDivided (falling_factor m c * whole) (falling_factor m (min c n) * part)) [
  | inl less ↦ subst (λ k. IsDivided (falling_factor m c * whole) (falling_factor m k * part)) (omega (arith, less)) (divided_after (falling_factor m c) whole part divided)
  | inr more ↦ subst (λ k. IsDivided (falling_factor m c * whole) (falling_factor m k * part)) (omega (arith, more)) (divided_within m c n whole part more (none more))
]

pub count-none : (n : ℕ) (elements : List Element) → n ≡ 0 → queue_count (cut n elements) ≡ 1
unfolding queue_count
count-none n elements none = ap queue_count (cut-zero n elements none)

pub count-cut : (n : ℕ) (elements : List Element) → IsDivided (queue_count elements) (queue_count (cut n elements))
unfolding cut queue_count
count-cut zero elements = (queue_count elements, sym (mul-one (queue_count elements)))
count-cut (suc n) [] = (1, refl)
count-cut (suc n) (element ∷ elements) =
    divided_cut (length (pieces_in element.set)) element.chosen (suc n) (queue_count elements) (queue_count (cut (suc n - element.chosen) elements))
    (count-cut (suc n - element.chosen) elements) (λ more. count-none (suc n - element.chosen) elements (omega (arith, more)))

divided_fewer : (whole part : ℕ) → 1 ≤ whole → IsDivided whole part → part ≤ whole
divided_fewer whole part some (zero, is) = absurd (omega (arith, some, is, zero-mul part))
divided_fewer whole part some (suc factor, is) =
    let more : 1 * part ≤ suc factor * part = mul-le-mul (omega arith) (omega arith) in
    omega (arith, more, is, one-mul part)

-- a pattern that is cut is within the limits
pub limited-cut : (pattern : Pattern) (n : ℕ) → limited (Ok (cut n (elements_of pattern))) ≡ Ok (cut n (elements_of pattern))
unfolding elements_of
limited-cut pattern n =
    let all = elements_of pattern in
    let short : queue_len (cut n all) ≤ 22 = omega (arith, queue_len-cut n all, pattern.len, pattern.short) in
    let fewer = divided_fewer (queue_count all) (queue_count (cut n all)) (queue_count-some all pattern.sound) (count-cut n all) in
    let few : queue_count (cut n all) ≤ 10000000 = omega (arith, fewer, pattern.counted, pattern.few) in
    grind (arith, nat_tests, short, few)

-- ---- how it is built

-- so far a builder holds these, and the rest follows
pub record IsCutSoFar (whole : List Element) (pieces : ℕ) (builder : Builder) (left : ℕ) (rest : List Element) : Type 0 where
  pub front : List Element
  pub held : Holds builder front
  pub goes_on : front ++ cut left rest ≡ cut pieces whole

pub sound-cut : (element : Element) (chosen : ℕ) → is_sound element ≡ true → 0 < chosen → chosen ≤ element.chosen
    → is_sound (record { set = element.set; chosen = chosen }) ≡ true
sound-cut element chosen sound some fewer =
    sound_of element.set chosen (sound-set element sound) some (omega (arith, fewer, sound-within element sound))

pub cut_added : (whole : List Element) (pieces : ℕ) (before after : Builder) (left chosen : ℕ) (element : Element) (rest : List Element)
    → IsCutSoFar whole pieces before left (element ∷ rest) → chosen ≡ min element.chosen left → 0 < chosen
    → ((elements : List Element) → Holds before elements → Holds after (elements ++ record { set = element.set; chosen = chosen } ∷ []))
    → IsCutSoFar whole pieces after (left - chosen) rest
cut_added whole pieces before after left chosen element rest so_far is some added =
    let kept : Element = record { set = element.set; chosen = chosen } in
    let same : left - element.chosen ≡ left - chosen = omega (arith, is) in
    record {
      front = so_far.front ++ kept ∷ [];
      held = added so_far.front so_far.held;
      goes_on = append_assoc so_far.front (kept ∷ []) (cut (left - chosen) rest)
          ∙ ap (λ k. so_far.front ++ kept ∷ cut k rest) (sym same)
          ∙ ap (λ es. so_far.front ++ es) (sym (cut-more left chosen element rest (omega (arith, is, some)) is))
          ∙ so_far.goes_on;
    }

pub cut_left : (whole : List Element) (pieces : ℕ) (builder : Builder) (left chosen : ℕ) (element : Element) (rest : List Element)
    → IsCutSoFar whole pieces builder left (element ∷ rest) → is_sound element ≡ true → chosen ≡ min element.chosen left → chosen ≡ 0
    → IsCutSoFar whole pieces builder (left - chosen) rest
cut_left whole pieces builder left chosen element rest so_far sound is none =
    let full : left ≡ 0 = omega (arith, is, none, sound-some element sound) in
    record {
      front = so_far.front;
      held = so_far.held;
      goes_on = ap (λ es. so_far.front ++ es) (cut-zero (left - chosen) rest (omega (arith, full)) ∙ sym (cut-zero left (element ∷ rest) full)) ∙ so_far.goes_on;
    }

pub cut_first : (whole : List Element) (pieces : ℕ) (builder : Builder) → Holds builder [] → IsCutSoFar whole pieces builder pieces whole
cut_first whole pieces builder held = record { front = []; held = held; goes_on = refl }

-- no element is left
pub cut_done : (whole : List Element) (pieces : ℕ) (builder : Builder) (left : ℕ) (rest : List Element) → IsCutSoFar whole pieces builder left rest → rest ≡ []
    → Holds builder (cut pieces whole)
cut_done whole pieces builder left rest so_far none =
    subst (Holds builder)
    (sym (append-nil so_far.front) ∙ ap (λ es. so_far.front ++ es) (sym (ap (λ es. cut left es) none ∙ cut-none left)) ∙ so_far.goes_on) so_far.held
