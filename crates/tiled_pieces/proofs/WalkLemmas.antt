-- The pieces of a list, and what carries hands on.
use Rattle.std.proofs.Common.{◌≡◌, ◌⊎◌, ◌↔◌, ℕ, suc, ◌+◌, ◌*◌, ◌/◌, ◌%◌, ◌^◌, ◌<◌, Bool, true, false, not, ◌&&◌, ◌||◌, nat_lt, if◌then◌else◌, bit_and, bit_or, List, length, map, get_or, slice_index, slice_set, refl, sym, ap, subst, ◌∙◌, inl, inr, arith, rules}
use Rattle.std.proofs.Math.Path.{fun_ext}
use Rattle.std.proofs.lemmas.Bool.{and_from, and_parts, both_ways, cases_eq}
use Rattle.std.proofs.lemmas.List.{get_or-set_other, get_or-set_same, get_or-map}
use Rattle.lane_board.specs.Field.{Field, difference}
use Rattle.lane_board.specs.Lanes.{has_bit}
use Rattle.lane_board.proofs.CallerLemmas.{has_bit-and, has_bit-or, has_bit-zero}
use Rattle.srs.specs.declared.piece.Piece.TheVariants.{I}
use Rattle.empty_cells.specs.Spans.{HasNoCell}
use Rattle.empty_cells.specs.Empties.{cells_by_column}
use Rattle.tiled_pieces.specs.TilingLists.{LaidPiece}
use Rattle.tiled_pieces.specs.declared.laid.Laid.{Laid}
use Rattle.tiled_pieces.specs.Built.{Fits}
use Rattle.tiled_pieces.specs.Orders.{Carries, IsCarried, Visits, cells_at, left_after, number_after, weight_at}
use Rattle.tiled_pieces.proofs.FitTests.{cell_at, none_set}

-- what is left of a set as a number
pub field_without : (a b w : ℕ) → ((k : ℕ) → has_bit w k ≡ (has_bit a k && not (has_bit b k))) → cells_by_column w ≡ difference (cells_by_column a) (cells_by_column b)
unfolding cells_by_column difference
field_without a b w bits = fun_ext (λ x. fun_ext (λ y. ap (λ t. nat_lt y 8 && t) (bits (8 * x + y)) ∙ within (nat_lt y 8) (has_bit a (8 * x + y)) (has_bit b (8 * x + y))))
  where
    within : (t p q : Bool) → (t && (p && not q)) ≡ ((t && p) && not (t && q))
    within t p q = search rules

number_at : (f : Laid → ℕ) (pieces : List Laid) (i : ℕ) (piece : Laid) → i < length pieces → piece ≡ get_or pieces i piece → slice_index (map f pieces) i ≡ f piece
number_at f pieces i piece known is = get_or-map f pieces i piece 0 known ∙ ap f (sym is)

pub cells_is : (pieces : List Laid) (i : ℕ) (piece : Laid) → i < length pieces → piece ≡ get_or pieces i piece → cells_at pieces i ≡ cells_by_column piece.cells
unfolding cells_at
cells_is pieces i piece known is = ap cells_by_column (number_at (λ (piece : Laid). piece.cells) pieces i piece known is)

pub weight_is : (pieces : List Laid) (i : ℕ) (piece : Laid) → i < length pieces → piece ≡ get_or pieces i piece → weight_at pieces i ≡ piece.weight
unfolding weight_at
weight_is pieces i piece known is = number_at (λ (piece : Laid). piece.weight) pieces i piece known is

module _ (pieces : List Laid) (E : Field) (set n : ℕ) where
  pub left_with : has_bit set n ≡ true → left_after pieces E set (n + 1) ≡ difference (left_after pieces E set n) (cells_at pieces n)
  unfolding left_after
  left_with has = ap (left_after pieces E set) {x = n + 1} {y = suc n} (omega arith)
      ∙ ap (λ (b : Bool). if b then difference (left_after pieces E set n) (cells_at pieces n) else left_after pieces E set n) has

  pub left_without : has_bit set n ≡ false → left_after pieces E set (n + 1) ≡ left_after pieces E set n
  unfolding left_after
  left_without none = ap (left_after pieces E set) {x = n + 1} {y = suc n} (omega arith)
      ∙ ap (λ (b : Bool). if b then difference (left_after pieces E set n) (cells_at pieces n) else left_after pieces E set n) none

  pub number_with : has_bit set n ≡ true → number_after pieces set (n + 1) ≡ number_after pieces set n + weight_at pieces n
  unfolding number_after
  number_with has = ap (number_after pieces set) {x = n + 1} {y = suc n} (omega arith)
      ∙ ap (λ (b : Bool). number_after pieces set n + (if b then weight_at pieces n else 0)) has

  pub number_without : has_bit set n ≡ false → number_after pieces set (n + 1) ≡ number_after pieces set n
  unfolding number_after
  number_without none = ap (number_after pieces set) {x = n + 1} {y = suc n} (omega arith)
      ∙ ap (λ (b : Bool). number_after pieces set n + (if b then weight_at pieces n else 0)) none ∙ omega arith

pub left_start : (pieces : List Laid) (E : Field) (set : ℕ) → left_after pieces E set 0 ≡ E
unfolding left_after
left_start pieces E set = refl

pub number_start : (pieces : List Laid) (set : ℕ) → number_after pieces set 0 ≡ 0
unfolding number_after
number_start pieces set = refl

-- the hands that a piece carries on
module _ (pieces : List Laid) (drops : Bool) (allowed : List ℕ) (hands set : ℕ) (E : Field) (number i bit : ℕ) (piece : Laid) (a : ℕ)
    (known : i < length pieces) (is : piece ≡ get_or pieces i piece) (at : a ≡ slice_index allowed (number + piece.weight)) where
  abbrev laid : LaidPiece
  laid = record { piece = I; cells = cells_by_column piece.cells }

  same_number : slice_index allowed (number + weight_at pieces i) ≡ a
  same_number = ap (λ w. slice_index allowed (number + w)) (weight_is pieces i piece known is) ∙ sym at

  same_laid : laid ≡ record { piece = I; cells = cells_at pieces i }
  same_laid = ap (λ (cells : Field). record { piece = I; cells = cells }) (sym (cells_is pieces i piece known is))

  pub carried_fits : IsCarried pieces drops allowed hands set E number i bit → Fits E drops laid
  carried_fits carried = subst (Fits E drops) (sym same_laid) carried.follows.fits

  pub carried_bit : IsCarried pieces drops allowed hands set E number i bit → has_bit (bit_and hands a) bit ≡ true
  carried_bit carried = has_bit-and hands a bit ∙ and_from _ _ carried.hand (ap (λ n. has_bit n bit) (sym same_number) ∙ carried.follows.permitted)

  pub carried_from : has_bit set i ≡ false → Fits E drops laid → has_bit (bit_and hands a) bit ≡ true → IsCarried pieces drops allowed hands set E number i bit
  carried_from unset fits has =
      let both = and_parts (has_bit hands bit) (has_bit a bit) (sym (has_bit-and hands a bit) ∙ has) in
      record {
        unset = unset;
        hand = both.0;
        follows = record { known = known; fits = subst (Fits E drops) same_laid fits; permitted = ap (λ n. has_bit n bit) same_number ∙ both.1 };
      }

-- one piece after the other carries them on
module _ (pieces : List Laid) (drops : Bool) (allowed : List ℕ) (hands set : ℕ) (E : Field) (number : ℕ) (old : List ℕ) where
  abbrev IsSo : ℕ → ℕ → Type 0
  IsSo i bit = IsCarried pieces drops allowed hands set E number i bit

  abbrev UpTo : List ℕ → ℕ → Type 0
  UpTo new n = Carries pieces drops allowed hands set E number old new n

  pub carries_none : (n : ℕ) → ((i bit : ℕ) → i < n → IsSo i bit → ⊥) → UpTo old n
  carries_none n none = record {
    keeps = λ s bit has. has;
    carries = λ i bit below carried. absurd (none i bit below carried);
    only = λ s bit has. inl has;
  }

  is_one : (p q : Bool) → (p || q) ≡ true → (p ≡ true) ⊎ (q ≡ true)
  is_one true q e = inl refl
  is_one false q e = inr e

  or_left : (p q : Bool) → p ≡ true → (p || q) ≡ true
  or_left p q e = search rules

  or_right : (p q : Bool) → q ≡ true → (p || q) ≡ true
  or_right p q e = search rules

  pub carries_more : (mid : List ℕ) (t bits i : ℕ) → t ≡ bit_or set (2 ^ i) → t < length mid → ((bit : ℕ) → has_bit bits bit ≡ true ↔ IsSo i bit) → UpTo mid i →
      UpTo (slice_set mid t (bit_or (slice_index mid t) bits)) (i + 1)
  carries_more mid t bits i at within told so = record { keeps = keeps; carries = carries; only = only }
    where
      new : List ℕ
      new = slice_set mid t (bit_or (slice_index mid t) bits)

      there : (bit : ℕ) → has_bit (slice_index (slice_set mid t (bit_or (slice_index mid t) bits)) t) bit ≡ (has_bit (slice_index mid t) bit || has_bit bits bit)
      there bit = ap (λ n. has_bit n bit) (get_or-set_same mid t (bit_or (slice_index mid t) bits) 0 within) ∙ has_bit-or (slice_index mid t) bits bit

      elsewhere : (s bit : ℕ) → (s ≡ t → ⊥) → has_bit (slice_index (slice_set mid t (bit_or (slice_index mid t) bits)) s) bit ≡ has_bit (slice_index mid s) bit
      elsewhere s bit other = ap (λ n. has_bit n bit) (get_or-set_other mid t s (bit_or (slice_index mid t) bits) 0 other)

      grows : (s bit : ℕ) → has_bit (slice_index mid s) bit ≡ true → has_bit (slice_index (slice_set mid t (bit_or (slice_index mid t) bits)) s) bit ≡ true
      grows s bit has = elim (cases_eq s t) [
        | inl same ↦ rw same (there bit ∙ or_left _ _ (ap (λ s. has_bit (slice_index mid s) bit) (sym same) ∙ has))
        | inr other ↦ elsewhere s bit other ∙ has
      ]

      keeps : (s bit : ℕ) → has_bit (slice_index old s) bit ≡ true → has_bit (slice_index (slice_set mid t (bit_or (slice_index mid t) bits)) s) bit ≡ true
      keeps s bit has = grows s bit (so.keeps s bit has)

      carries : (k bit : ℕ) → k < i + 1 → IsSo k bit → has_bit (slice_index (slice_set mid t (bit_or (slice_index mid t) bits)) (bit_or set (2 ^ k))) bit ≡ true
      carries k bit below carried = elim (cases_eq k i) [
        | inl same ↦
            ap (λ s. has_bit (slice_index (slice_set mid t (bit_or (slice_index mid t) bits)) s) bit) (ap (λ k. bit_or set (2 ^ k)) same ∙ sym at)
            ∙ there bit ∙ or_right _ _ ((told bit).1 (subst (λ k. IsSo k bit) same carried))
        | inr other ↦ grows (bit_or set (2 ^ k)) bit (so.carries k bit (omega (arith, below, other)) carried)
      ]

      only : (s bit : ℕ) → has_bit (slice_index (slice_set mid t (bit_or (slice_index mid t) bits)) s) bit ≡ true →
          (has_bit (slice_index old s) bit ≡ true) ⊎ ((k : ℕ) × (s ≡ bit_or set (2 ^ k)) × IsSo k bit)
      only s bit has = elim (cases_eq s t) [
        | inl same ↦ elim (is_one _ _ (sym (there bit) ∙ ap (λ s. has_bit (slice_index (slice_set mid t (bit_or (slice_index mid t) bits)) s) bit) (sym same) ∙ has)) [
          | inl before ↦ so.only s bit (ap (λ s. has_bit (slice_index mid s) bit) same ∙ before)
          | inr now ↦ inr (i, same ∙ at, (told bit).0 now)
        ]
        | inr other ↦ so.only s bit (sym (elsewhere s bit other) ∙ has)
      ]

-- what a visit does
module _ (pieces : List Laid) (drops : Bool) (allowed : List ℕ) (E : Field) (set : ℕ) (old : List ℕ) where
  abbrev Done : List ℕ → ℕ → Type 0
  Done new found = Visits pieces drops allowed E set old new found

  abbrev left : Field
  left = left_after pieces E set (length pieces)

  no_hand : (bit : ℕ) → slice_index old set ≡ 0 → has_bit (slice_index old set) bit ≡ true → ⊥
  no_hand bit none has = both_ways _ (has_bit-zero bit) (ap (λ n. has_bit n bit) (sym none) ∙ has)

  pub visit_none : slice_index old set ≡ 0 → Done old 0
  visit_none none = record {
    finds = λ bit has. absurd (both_ways _ (has_bit-zero bit) has);
    ends = λ bit empty has. absurd (no_hand bit none has);
    carries = carries_none pieces drops allowed (slice_index old set) set left (number_after pieces set (length pieces)) old (length pieces)
        (λ i bit below carried. no_hand bit none carried.hand);
  }

  pub visit_found : HasNoCell left → Done old (slice_index old set)
  visit_found empty = record {
    finds = λ bit has. (empty, has);
    ends = λ bit empty has. has;
    carries = carries_none pieces drops allowed (slice_index old set) set left (number_after pieces set (length pieces)) old (length pieces)
        (λ i bit below carried.
        let fits = carried.follows.fits in
        both_ways _ (empty.none fits.rests.x fits.rests.y) (fits.inside fits.rests.x fits.rests.y fits.rests.there));
  }

  pub visit_carried : (new : List ℕ) (d : Bool) (F : Field) (k : ℕ) → d ≡ drops → F ≡ left → k ≡ number_after pieces set (length pieces) → (HasNoCell F → ⊥) →
      Carries pieces d allowed (slice_index old set) set F k old new (length pieces) → Done new 0
  visit_carried new d F k drop field number some carried = record {
    finds = λ bit has. absurd (both_ways _ (has_bit-zero bit) has);
    ends = λ bit empty has. absurd (some (subst HasNoCell (sym field) empty));
    carries =
        subst (λ d. Carries pieces d allowed (slice_index old set) set left (number_after pieces set (length pieces)) old new (length pieces)) drop
        (subst (λ (F : Field). Carries pieces d allowed (slice_index old set) set F (number_after pieces set (length pieces)) old new (length pieces)) field
        (subst (λ k. Carries pieces d allowed (slice_index old set) set F k old new (length pieces)) number carried));
  }

pub some_cell : (n : ℕ) → (n ≡ 0 → ⊥) → HasNoCell (cells_by_column n) → ⊥
some_cell n some empty = some (none_set n (λ k bit. both_ways _ (empty.none (k / 8) (k % 8)) (cell_at n k bit)))

pub empty_cells_of : (n : ℕ) → n ≡ 0 → HasNoCell (cells_by_column n)
unfolding cells_by_column
empty_cells_of n is = record { none = λ x y. is_none (nat_lt y 8) _ (ap (λ n. has_bit n (8 * x + y)) is ∙ has_bit-zero (8 * x + y)) }
  where
    is_none : (t b : Bool) → b ≡ false → (t && b) ≡ false
    is_none t b e = search rules
