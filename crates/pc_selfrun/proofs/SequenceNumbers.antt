-- A rising list of sequences of four placements in the well has at most 2 ^ 63 members: each sequence has a number of its
-- own below 6440 ^ 4.
use Rattle.std.proofs.Common.{◌≡◌, ◌≢◌, ◌∙◌, ℕ, ◌+◌, ◌-◌, ◌*◌, ◌^◌, ◌<◌, ◌≤◌, true, false, eqb, eqb-true, List, [], ◌∷◌, length, map, refl, sym, subst, arith, inl, inr, rules}
use Rattle.std.specs.Prelude.{Contains}
use Rattle.std.specs.List.{list_any, IsDistinct, AllByRecursion}
use Rattle.std.specs.List.Sorted.{IsStrictlySortedBy}
use Rattle.std.specs.Cmp.{tied_itself}
use Rattle.std.specs.declared.cmp.Ordering.TheVariants.{Less, Equal}
use Rattle.std.proofs.lemmas.Bool.{ne_eqb, or_cases}
use Rattle.std.proofs.lemmas.List.{length-map}
use Rattle.std.proofs.lemmas.Map.Steps.{length-le_from_distinct_below}
use Rattle.srs.proofs.CallerLemmas.{Contains-here, Contains-there, rising-first, rising-rest, piece_code-injective, rotation_index-injective, sequence_cmp-total, piece_code-some, rotation_index-small, same_placement}
use Rattle.srs.specs.declared.placement.Placement.{Placement}
use Rattle.srs.specs.Piece.{piece_code}
use Rattle.srs.specs.Rotation.{rotation_index}
use Rattle.srs.specs.Order.{sequence_cmp}
use Rattle.srs.specs.Cells.{HasPivotInWell}

-- ---- the number of a sequence

-- the number of four coordinates, of a placement, and of a sequence
number_with : (code rotation x y : ℕ) → ℕ
number_with code rotation x y = x + 10 * (y + 23 * (rotation + 4 * (code - 1)))

placement_number : Placement → ℕ
placement_number q = number_with (piece_code q.piece) (rotation_index q.rotation) q.x q.y

sequence_number : List Placement → ℕ
sequence_number [] = 0
sequence_number (q ∷ rest) = placement_number q + 6440 * sequence_number rest

number_below : (q : Placement) → HasPivotInWell q → placement_number q < 6440
unfolding placement_number number_with
number_below q inside = search rules

record IsSameWith (a b r s x u y v : ℕ) : Type 0 where
  code : a ≡ b
  rotation : r ≡ s
  column : x ≡ u
  row : y ≡ v

with_same : (a b r s x u y v : ℕ) → 1 ≤ a → 1 ≤ b → r < 4 → s < 4 → x ≤ 9 → u ≤ 9 → y ≤ 22 → v ≤ 22 → number_with a r x y ≡ number_with b s u v → IsSameWith a b r s x u y v
unfolding number_with
with_same a b r s x u y v a-some b-some r-few s-few x-few u-few y-few v-few same = search rules

same_number : (q r : Placement) → HasPivotInWell q → HasPivotInWell r → placement_number q ≡ placement_number r → q ≡ r
unfolding placement_number
same_number q r one other same =
    let is = with_same _ _ _ _ _ _ _ _ (piece_code-some q.piece) (piece_code-some r.piece) (rotation_index-small q.rotation) (rotation_index-small r.rotation) one.in_columns other.in_columns one.in_rows other.in_rows same in
    same_placement q r (piece_code-injective q.piece r.piece is.code) (rotation_index-injective q.rotation r.rotation is.rotation) is.column is.row

-- four placements whose pivots lie in the well
pub record AreFour (s : List Placement) : Type 0 where
  pub four : length s ≡ 4
  pub inside : AllByRecursion HasPivotInWell s

same_sequence : (s t : List Placement) → AllByRecursion HasPivotInWell s → AllByRecursion HasPivotInWell t → length s ≡ length t → sequence_number s ≡ sequence_number t → s ≡ t
unfolding sequence_number
same_sequence [] [] one other long same = refl
same_sequence [] (r ∷ t) one other long same = absurd (omega (arith, long))
same_sequence (q ∷ s) [] one other long same = absurd (omega (arith, long))
same_sequence (q ∷ s) (r ∷ t) one other long same =
    let a = number_below q one.0 in
    let b = number_below r other.0 in
    let rest : sequence_number s ≡ sequence_number t = omega (arith, a, b, same) in
    let first : placement_number q ≡ placement_number r = omega (arith, same, rest) in
    λ i. same_number q r one.0 other.0 first i ∷ same_sequence s t one.1 other.1 (omega (arith, long)) rest i

four_below : (s : List Placement) → AreFour s → sequence_number s < 2 ^ 63
unfolding sequence_number
four_below [] are = let four = are.four in absurd (omega (arith, four))
four_below (a ∷ []) are = let four = are.four in absurd (omega (arith, four))
four_below (a ∷ b ∷ []) are = let four = are.four in absurd (omega (arith, four))
four_below (a ∷ b ∷ c ∷ []) are = let four = are.four in absurd (omega (arith, four))
four_below (a ∷ b ∷ c ∷ d ∷ []) are = search (rules, number_below)
four_below (a ∷ b ∷ c ∷ d ∷ e ∷ s) are = let four = are.four in absurd (omega (arith, four))

-- ---- a list of different sequences

apart : (s : List Placement) (xs : List (List Placement)) → ((t : List Placement) → Contains xs t → sequence_number s ≢ sequence_number t)
    → AllByRecursion (λ n. eqb (sequence_number s) n ≡ false) (map sequence_number xs)
apart s [] other = tt
apart s (t ∷ xs) other =
    (ne_eqb (sequence_number s) (sequence_number t) (other t (Contains-here t xs)), apart s xs (λ u among. other u (Contains-there t xs u among)))

never_less : (s t : List Placement) → sequence_cmp s t ≡ Less → s ≡ t → ⊥
never_less s t less same =
    let tied : sequence_cmp t t ≡ Equal = tied_itself sequence_cmp-total t in
    let before : sequence_cmp t t ≡ Less = subst (λ s. sequence_cmp s t ≡ Less) same less in
    cc

numbers_distinct : (xs : List (List Placement)) → IsStrictlySortedBy sequence_cmp xs → ((s : List Placement) → Contains xs s → AreFour s) → IsDistinct eqb (map sequence_number xs)
unfolding IsDistinct
numbers_distinct [] rising four = tt
numbers_distinct (s ∷ xs) rising four =
    let one = four s (Contains-here s xs) in (
      apart s xs (λ t among same.
          let other = four t (Contains-there s xs t among) in
          never_less s t (rising-first sequence_cmp s xs rising t among) (same_sequence s t one.inside other.inside (one.four ∙ sym other.four) same)),
      numbers_distinct xs (rising-rest sequence_cmp s xs rising) (λ t among. four t (Contains-there s xs t among)),
    )

numbers_below : (xs : List (List Placement)) → ((s : List Placement) → Contains xs s → AreFour s) → (n : ℕ) → list_any (eqb n) (map sequence_number xs) ≡ true → n < 2 ^ 63
numbers_below [] four n has = cc
numbers_below (s ∷ xs) four n has = elim (or_cases (eqb n (sequence_number s)) (list_any (eqb n) (map sequence_number xs)) has) [
  | inl first ↦ let is = eqb-true n (sequence_number s) first in subst (λ n. n < 2 ^ 63) (sym is) (four_below s (four s (Contains-here s xs)))
  | inr later ↦ numbers_below xs (λ t among. four t (Contains-there s xs t among)) n later
]

pub few_sequences : (xs : List (List Placement)) → IsStrictlySortedBy sequence_cmp xs → ((s : List Placement) → Contains xs s → AreFour s) → length xs ≤ 2 ^ 63
few_sequences xs rising four =
    subst (λ n. n ≤ 2 ^ 63) (length-map xs sequence_number) (length-le_from_distinct_below (map sequence_number xs) (2 ^ 63) (numbers_distinct xs rising four) (numbers_below xs four))
