-- The numbers of the tails of a block, the lowest bit first.
use Rattle.std.proofs.Common.{ℕ, ◌≡◌, ◌+◌, ◌*◌, ◌/◌, ◌%◌, ◌^◌, ◌<◌, Bool, true, false, not, ◌&&◌, ◌||◌, ◌==◌, List, [], ◌∷◌, ◌++◌, refl, sym, ap, ◌∙◌, arith, inl, inr}
use Rattle.std.proofs.lemmas.Bool.{and_parts, both_ways, cases_lt, eqb-true}
use Rattle.std.proofs.lemmas.Bool.Decides.{nat_tests}
use Rattle.lane_board.specs.Lanes.{has_bit}
use Rattle.lane_board.specs.LowestBit.{IsLowestBit}
use Rattle.lane_board.proofs.CallerLemmas.{has_bit-past, has_bit-zero}
use Rattle.hands.specs.Numbers.{has_number}
use Rattle.hands.proofs.CallerLemmas.{has-push}
use Rattle.tails.specs.declared.block.Block.{Block}
use Rattle.tails.specs.Blocks.{in_block}

-- the tail with a key and a bit
tail-is : (key bit tail : ℕ) → bit < 64 → (key * 64 + bit == tail) ≡ ((key == tail / 64) && (tail % 64 == bit))
tail-is key bit tail small = grind (arith, nat_tests)

-- the tails of a block whose bits are passed are numbered
pub record ArePushed (old numbers : List ℕ) (block : Block) (bits : ℕ) : Type 0 where
  pub members : (tail : ℕ) → has_number numbers tail
      ≡ (has_number old tail || ((block.key == tail / 64) && (has_bit block.bits (tail % 64) && not (has_bit bits (tail % 64)))))
  pub within : (k : ℕ) → has_bit bits k ≡ true → has_bit block.bits k ≡ true

one_more : (o q a e s : Bool) → (s ≡ true → e ≡ true) → (e ≡ true → a ≡ true) → ((o || (q && (a && not e))) || (q && s)) ≡ (o || (q && (a && not (e && not s))))
one_more true q a e s s_e e_a = refl
one_more false false a e s s_e e_a = refl
one_more false true true true true s_e e_a = refl
one_more false true true true false s_e e_a = refl
one_more false true true false false s_e e_a = refl
one_more false true true false true s_e e_a = cc (s_e refl)
one_more false true false true s s_e e_a = cc (e_a refl)
one_more false true false false true s_e e_a = cc (s_e refl)
one_more false true false false false s_e e_a = refl

pub pushed-more : (old numbers new : List ℕ) (block : Block) (bit value bits left : ℕ) → ArePushed old numbers block bits → IsLowestBit bits bit → bit < 64
    → new ≡ numbers ++ value ∷ [] → value ≡ block.key * 64 + bit → left < 2 ^ 64
    → ((bit k : ℕ) → IsLowestBit bits bit → k < 64 → has_bit left k ≡ (has_bit bits k && not (k == bit))) → ArePushed old new block left
pushed-more old numbers new block bit value bits left state lowest small new_is value_is fits rest = record {
  members = λ tail.
      ap (λ l. has_number l tail) new_is
      ∙ has-push numbers value tail
      ∙ (λ x. state.members tail x || value_is x == tail)
      ∙ ap (λ b. was tail || b) (tail-is block.key bit tail small)
      ∙ one_more (has_number old tail) (block.key == tail / 64) (has_bit block.bits (tail % 64)) (has_bit bits (tail % 64)) (tail % 64 == bit)
      (λ here. ap (has_bit bits) (eqb-true _ _ here) ∙ lowest.has) (state.within (tail % 64))
      ∙ ap (λ b. has_number old tail || ((block.key == tail / 64) && (has_bit block.bits (tail % 64) && not b))) (sym (rest bit (tail % 64) lowest (omega arith)));
  within = λ k there. state.within k (elim (cases_lt k 64) [
    | inl inside ↦ (and_parts _ _ (sym (rest bit k lowest inside) ∙ there)).0
    | inr past ↦ absurd (both_ways (has_bit left k) (has_bit-past left 64 k fits past) there)
  ]);
}
  where
    was : ℕ → Bool
    was tail = has_number old tail || ((block.key == tail / 64) && (has_bit block.bits (tail % 64) && not (has_bit bits (tail % 64))))

all_passed : (o q a : Bool) → (o || (q && (a && not false))) ≡ (o || (q && a))
all_passed true q a = refl
all_passed false false a = refl
all_passed false true true = refl
all_passed false true false = refl

pub pushed-done : (old numbers : List ℕ) (block : Block) (bits : ℕ) → ArePushed old numbers block bits → bits ≡ 0
    → (tail : ℕ) → has_number numbers tail ≡ (has_number old tail || in_block block tail)
unfolding in_block
pushed-done old numbers block bits state none tail =
    state.members tail
    ∙ ap (λ b. has_number old tail || ((block.key == tail / 64) && (has_bit block.bits (tail % 64) && not b))) (ap (λ n. has_bit n (tail % 64)) none ∙ has_bit-zero (tail % 64))
    ∙ all_passed (has_number old tail) (block.key == tail / 64) (has_bit block.bits (tail % 64))
