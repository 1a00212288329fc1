-- The tails of a set that fail a test, one block on.
use Rattle.std.proofs.Common.{ℕ, ◌≡◌, ◌+◌, ◌<◌, ◌≤◌, Bool, false, not, ◌&&◌, ◌||◌, List, length, get_or, take, refl, sym, ap, subst, ◌∙◌, inl, inr, arith, ◌/◌, ◌%◌}
use Rattle.std.proofs.lemmas.Bool.{cases_eq}
use Rattle.std.proofs.lemmas.Bool.Decides.{nat_tests}
use Rattle.lane_board.specs.Lanes.{has_bit}
use Rattle.tails.specs.declared.block.Block.{Block}
use Rattle.tails.specs.declared.tail_set.TailSet.{TailSet}
use Rattle.tails.specs.Blocks.{have_parts, in_block}
use Rattle.tails.specs.TailSets.{has}
use Rattle.tails.proofs.BlockLemmas.{in-at, made, not-in}
use Rattle.tails.proofs.PartLemmas.{parts-all, parts-more, parts-none, parts-one}

-- a set has the tails of the first blocks that fail a test
pub record HasKept (test : ℕ → Bool) (blocks : List Block) (count : ℕ) (tails : TailSet) : Type 0 where
  pub is : (tail : ℕ) → has tails tail ≡ (have_parts (take count blocks) (tail / 64) (tail % 64) && not (test tail))

pub kept-none : (test : ℕ → Bool) (blocks : List Block) (tails : TailSet) → ((tail : ℕ) → has tails tail ≡ false) → HasKept test blocks 0 tails
kept-none test blocks tails none = record { is = λ tail. none tail ∙ ap (λ b. b && not (test tail)) (sym (parts-none (tail / 64) (tail % 64))) }

-- the bits of a block whose tails fail a test
pub record AreKept (test : ℕ → Bool) (block : Block) (bits : ℕ) : Type 0 where
  pub gone : ℕ
  pub bits_are : (k : ℕ) → has_bit bits k ≡ (has_bit block.bits k && not (has_bit gone k))
  pub test_is : (tail : ℕ) → tail / 64 ≡ block.key → has_bit gone (tail % 64) ≡ test tail

in-kept : (test : ℕ → Bool) (block : Block) (bits tail : ℕ) → AreKept test block bits → in_block (made block.key bits) tail ≡ (in_block block tail && not (test tail))
in-kept test block bits tail kept = elim (cases_eq block.key (tail / 64)) [
  | inl same ↦
      let bit = kept.bits_are (tail % 64) in
      let fails = kept.test_is tail (sym same) in
      let one = in-at (made block.key bits) tail (tail / 64) (tail % 64) refl refl in
      let other = in-at block tail (tail / 64) (tail % 64) refl refl in
      grind (arith, nat_tests)
  | inr other ↦ not-in (made block.key bits) tail other ∙ ap (λ b. b && not (test tail)) (sym (not-in block tail other))
]

both_kept : (a b t : Bool) → ((a && not t) || (b && not t)) ≡ ((a || b) && not t)
both_kept a b t = grind (arith, nat_tests)

pub kept-more : (test : ℕ → Bool) (blocks : List Block) (i : ℕ) (d : Block) (bits : ℕ) (tails new : TailSet) → i < length blocks
    → AreKept test (get_or blocks i d) bits
    → ((tail : ℕ) → has new tail ≡ (has tails tail || in_block (made (get_or blocks i d).key bits) tail))
    → HasKept test blocks i tails → HasKept test blocks (i + 1) new
kept-more test blocks i d bits tails new below kept added so_far = record {
  is = λ tail.
      let parts = have_parts (take i blocks) (tail / 64) (tail % 64) in
      added tail ∙ (λ j. so_far.is tail j || in-kept test (get_or blocks i d) bits tail kept j)
      ∙ both_kept parts (in_block (get_or blocks i d) tail) (test tail)
      ∙ ap (λ b. (parts || b) && not (test tail)) (sym (parts-one (get_or blocks i d) tail))
      ∙ ap (λ b. b && not (test tail)) (sym (parts-more blocks i d (tail / 64) (tail % 64) below));
}

pub kept-step : (test : ℕ → Bool) (blocks items : List Block) (i : ℕ) (d : Block) (bits : ℕ) (tails new : TailSet) → items ≡ blocks → i < length items
    → AreKept test (get_or items i d) bits
    → ((tail : ℕ) → has new tail ≡ (has tails tail || in_block (made (get_or items i d).key bits) tail))
    → HasKept test blocks i tails → HasKept test blocks (i + 1) new
kept-step test blocks items i d bits tails new same below kept added =
    subst (λ (l : List Block). HasKept test l i tails → HasKept test l (i + 1) new) same (kept-more test items i d bits tails new below kept added)

pub kept-all : (test : ℕ → Bool) (all tails : TailSet) (i : ℕ) → length all.blocks.items ≤ i → HasKept test all.blocks.items i tails
    → (tail : ℕ) → has tails tail ≡ (has all tail && not (test tail))
unfolding has
kept-all test all tails i past kept tail = kept.is tail ∙ ap (λ b. b && not (test tail)) (parts-all all.blocks.items i (tail / 64) (tail % 64) past)
