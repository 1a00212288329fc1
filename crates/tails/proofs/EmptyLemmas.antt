-- A set with no tail has no block.
use Rattle.std.proofs.Common.{ℕ, ◌≡◌, ◌+◌, ◌*◌, ◌^◌, ◌<◌, ◌↔◌, ◌==◌, Bool, true, false, List, length, get_or, ap, ◌∙◌, sym, arith, inl, inr, ◌/◌, ◌%◌}
use Rattle.std.specs.Prelude.{IsTrue}
use Rattle.std.proofs.lemmas.Bool.{cases_lt, both_ways, and_from, eq-eqb, eqb-true, false_from_ne_true}
use Rattle.std.proofs.lemmas.List.{nil_from_length}
use Rattle.std.proofs.lemmas.List.Folds.{list_any_at}
use Rattle.lane_board.specs.Lanes.{has_bit}
use Rattle.lane_board.proofs.CallerLemmas.{has_bit-past, has_bit-zero, same_from_columns}
use Rattle.tails.specs.declared.block.Block.{Block}
use Rattle.tails.specs.declared.tail_set.TailSet.{TailSet}
use Rattle.tails.specs.Blocks.{have_parts, IsBlock}
use Rattle.tails.specs.TailSets.{block_count, has}
use Rattle.tails.proofs.PartLemmas.{has_part, no_block, parts-none}

pub parts-at : (blocks : List Block) (i : ℕ) (d : Block) (key bit : ℕ) → i < length blocks → (get_or blocks i d).key ≡ key → has_bit (get_or blocks i d).bits bit ≡ true
    → have_parts blocks key bit ≡ true
unfolding have_parts
parts-at blocks i d key bit below same there = list_any_at (λ block. has_part block key bit) blocks i d below (and_from _ _ (eq-eqb _ _ same) there)

bit-small : (bits bit : ℕ) → bits < 2 ^ 64 → has_bit bits bit ≡ true → bit < 64
bit-small bits bit fits there = elim (cases_lt bit 64) [
  | inl inside ↦ inside
  | inr past ↦ absurd (both_ways (has_bit bits bit) (has_bit-past bits 64 bit fits past) there)
]

at-place : (key bit : ℕ) → bit < 64 → (key * 64 + bit) % 64 ≡ bit
at-place key bit small = omega arith

-- each block has a tail
some_tail : (tails : TailSet) → 0 < length tails.blocks.items → ((tail : ℕ) → has tails tail ≡ false) → ⊥
unfolding has
some_tail tails some no_tail =
    let block = get_or tails.blocks.items 0 no_block in
    let is : IsBlock block = tails.each 0 no_block some in
    is.some (same_from_columns block.bits 0 (λ bit. false_from_ne_true (has_bit block.bits bit) (λ there.
    let small = bit-small block.bits bit is.few there in
    let tail = block.key * 64 + bit in
    both_ways (has tails tail) (no_tail tail)
    (parts-at tails.blocks.items 0 no_block (tail / 64) (tail % 64) some (omega arith) (ap (has_bit block.bits) (at-place block.key bit small) ∙ there))) ∙ sym (has_bit-zero bit)))

pub no_blocks : (tails : TailSet) → length tails.blocks.items ≡ 0 → (tail : ℕ) → has tails tail ≡ false
unfolding has
no_blocks tails short tail = ap (λ l. have_parts l (tail / 64) (tail % 64)) (nil_from_length tails.blocks.items short) ∙ parts-none (tail / 64) (tail % 64)

pub none-counted : (tails : TailSet) → block_count tails ≡ 0 → (tail : ℕ) → has tails tail ≡ false
unfolding block_count
none-counted tails none tail = no_blocks tails none tail

pub empty-if : (tails : TailSet) (count : ℕ) (result : Bool) → count ≡ length tails.blocks.items → result ≡ (count == 0)
    → IsTrue result ↔ ((tail : ℕ) → has tails tail ≡ false)
empty-if tails count result size is = (
  λ is_empty. no_blocks tails (sym size ∙ eqb-true count 0 (sym is ∙ is_empty)),
  λ no_tail. is ∙ eq-eqb count 0 (elim (cases_lt 0 count) [
    | inl some ↦ absurd (some_tail tails (omega arith) no_tail)
    | inr short ↦ omega arith
  ]),
)
