-- The elements of a builder that is within the limits.
use Rattle.std.proofs.Common.{◌≡◌, ◌<◌, ◌≤◌, true, List, [], ◌∷◌, length, take, arith, Ok, rules}
use Rattle.std.specs.List.{list_all}
use Rattle.std.proofs.Math.Nat.{mul-le-mul}
use Rattle.std.proofs.lemmas.Bool.{and_parts}
use Rattle.std.proofs.lemmas.Bool.Decides.{nat_tests}
use Rattle.std.proofs.lemmas.List.{take_all}
use Rattle.std.proofs.lemmas.List.Sums.{sum_by-cons}
use Rattle.std.proofs.lemmas.Grind.{common_steps}
use Rattle.queue_pattern.specs.declared.builder.Builder.{Builder}
use Rattle.queue_pattern.specs.declared.element.Element.{Element}
use Rattle.queue_pattern.specs.Builder.{Holds}
use Rattle.queue_pattern.specs.Grammar.{limited}
use Rattle.queue_pattern.specs.Queues.{queue_len, queue_count}
use Rattle.queue_pattern.specs.Sound.{is_sound}
use Rattle.queue_pattern.proofs.BuilderLemmas.{sound-within}
use Rattle.queue_pattern.proofs.FallingLemmas.{falling_factor-some}

pub sound-some : (element : Element) → is_sound element ≡ true → 0 < element.chosen
unfolding is_sound
sound-some element sound = grind (arith, nat_tests)

pub length-le-queue_len : (elements : List Element) → list_all is_sound elements ≡ true → length elements ≤ queue_len elements
length-le-queue_len [] sound = omega arith
length-le-queue_len (e ∷ elements) sound =
    let parts = and_parts (is_sound e) (list_all is_sound elements) sound in
    omega (arith, sum_by-cons (λ (x : Element). x.chosen) e elements, sound-some e parts.0, length-le-queue_len elements parts.1)

pub queue_count-some : (elements : List Element) → list_all is_sound elements ≡ true → 1 ≤ queue_count elements
unfolding queue_count
queue_count-some [] sound = omega arith
queue_count-some (e ∷ elements) sound =
    search (rules, and_parts, mul-le-mul, falling_factor-some, sound-within, (queue_count-some elements))

-- all elements are kept, and the numbers are theirs
pub record IsWithin (builder : Builder) (elements : List Element) : Type 0 where
  pub kept : take builder.number builder.elements ≡ elements
  pub pieces : builder.pieces ≡ queue_len elements
  pub count : builder.count ≡ queue_count elements
  pub some : 0 < builder.count
  pub sound : list_all is_sound elements ≡ true

pub within : (builder : Builder) (elements : List Element) → Holds builder elements → builder.pieces ≤ 22 → builder.count ≤ 10000000 → IsWithin builder elements
within builder elements held few rare = grind (arith, common_steps, length-le-queue_len, queue_count-some, take_all)

pub limited-within : (builder : Builder) (elements : List Element) → IsWithin builder elements → builder.pieces ≤ 22 → builder.count ≤ 10000000
    → limited (Ok elements) ≡ Ok elements
limited-within builder elements is few rare = grind (arith, nat_tests, is.pieces, is.count)
