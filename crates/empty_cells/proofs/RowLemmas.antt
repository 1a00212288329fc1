-- The rows that the lowest span may take, as bits.
use Rattle.std.proofs.Common.{◌≡◌, ℕ, ◌<◌, bit_and, Bool, true, false, not, ◌&&◌, nat_le, refl, ap₂, ◌∙◌, rules}
use Rattle.std.proofs.lemmas.Bool.{and_from, and_parts, both_ways, le-leb, leb-true, agree_below_at}
use Rattle.lane_board.specs.Field.{Field}
use Rattle.lane_board.specs.Lanes.{has_bit}
use Rattle.lane_board.proofs.CallerLemmas.{has_bit-and}
use Rattle.empty_cells.specs.declared.span.Span.{Span}
use Rattle.empty_cells.specs.Spans.{has_span}
use Rattle.empty_cells.specs.Stacks.{MayTake, is_allowed}

-- a byte of ones
pub ones : (k : ℕ) → k < 8 → has_bit 255 k ≡ true
unfolding has_bit
ones k low = agree_below_at (has_bit 255) (λ k. true) 8 k refl low

module _ (E : Field) (x y floor : ℕ) (span : Span) (rows permitted : ℕ) (has : (row : ℕ) → row < 8 → has_bit rows row ≡ has_span E x span row)
    (allowed : (row : ℕ) → row < 8 → has_bit permitted row ≡ (nat_le floor row && is_allowed y floor span row)) where
  bits : (row : ℕ) → row < 8 → has_bit (bit_and rows permitted) row ≡ (has_span E x span row && (nat_le floor row && is_allowed y floor span row))
  bits row low = has_bit-and rows permitted row ∙ ap₂ ◌&&◌ (has row low) (allowed row low)

  pub may_from_bit : (row : ℕ) → row < 8 → has_bit (bit_and rows permitted) row ≡ true → MayTake (is_allowed y) E x floor span row
  may_from_bit row low bit = search (rules, leb-true, and_parts, (bits row low))

  pub bit_from_may : (row : ℕ) → row < 8 → MayTake (is_allowed y) E x floor span row → has_bit (bit_and rows permitted) row ≡ true
  bit_from_may row low may = bits row low ∙ and_from _ _ may.has (and_from _ _ (le-leb floor row may.above) may.permitted)

-- a bit that isn't set once another one is taken away wasn't set before
pub was_unset : (p q : Bool) → q ≡ false → (p && not q) ≡ false → p ≡ false
was_unset p q other left = search (rules, both_ways)
