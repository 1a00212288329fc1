-- The blocks of two sets are added to a third.
use Rattle.std.proofs.Common.{ℕ, ◌≡◌, ◌+◌, ◌<◌, ◌≤◌, Bool, true, false, ◌||◌, List, length, get_or, take, refl, sym, ap, ◌∙◌, arith, ◌/◌, ◌%◌}
use Rattle.std.proofs.Math.Bool.{or_assoc, or_comm}
use Rattle.tails.specs.declared.block.Block.{Block}
use Rattle.tails.specs.declared.tail_set.TailSet.{TailSet}
use Rattle.tails.specs.Blocks.{have_parts, in_block}
use Rattle.tails.specs.TailSets.{has}
use Rattle.tails.proofs.PartLemmas.{parts-all, parts-more, parts-none, parts-one}

-- whether one of the first blocks has a tail
abbrev pub first_have : List Block → ℕ → ℕ → Bool
first_have blocks i tail = have_parts (take i blocks) (tail / 64) (tail % 64)

-- a set has the tails of so many blocks of two lists
pub record Merged (tails : TailSet) (a b : List Block) (i j : ℕ) : Type 0 where
  pub members : (tail : ℕ) → has tails tail ≡ (first_have a i tail || first_have b j tail)
  pub within : j ≤ length b

pub merge-starts : (tails : TailSet) (a b : List Block) → ((tail : ℕ) → has tails tail ≡ false) → Merged tails a b 0 0
merge-starts tails a b none = record { members = λ tail. none tail ∙ (λ x. sym (parts-none (tail / 64) (tail % 64)) x || sym (parts-none (tail / 64) (tail % 64)) x); within = omega arith }

pub first-more : (blocks : List Block) (i : ℕ) (d : Block) (tail : ℕ) → i < length blocks → first_have blocks (i + 1) tail ≡ (first_have blocks i tail || in_block (get_or blocks i d) tail)
first-more blocks i d tail below = parts-more blocks i d (tail / 64) (tail % 64) below ∙ ap (λ b. first_have blocks i tail || b) (parts-one (get_or blocks i d) tail)

or_first : (s t e : Bool) → ((s || t) || e) ≡ ((s || e) || t)
or_first true t e = refl
or_first false t e = or_comm t e

pub merge-second : (old new : TailSet) (a b : List Block) (i j : ℕ) (block d : Block) → Merged old a b i j → j < length b → block ≡ get_or b j d
    → ((tail : ℕ) → has new tail ≡ (has old tail || in_block block tail)) → Merged new a b i (j + 1)
merge-second old new a b i j block d state below is added = record {
  members = λ tail.
      added tail ∙ ap (λ s. s || in_block block tail) (state.members tail)
      ∙ or_assoc (first_have a i tail) (first_have b j tail) (in_block block tail)
      ∙ ap (λ (x : Block). first_have a i tail || (first_have b j tail || in_block x tail)) is
      ∙ ap (λ s. first_have a i tail || s) (sym (first-more b j d tail below));
  within = omega arith;
}

pub merge-first : (old new : TailSet) (a b : List Block) (i j : ℕ) (block d : Block) → Merged old a b i j → i < length a → block ≡ get_or a i d
    → ((tail : ℕ) → has new tail ≡ (has old tail || in_block block tail)) → Merged new a b (i + 1) j
merge-first old new a b i j block d state below is added = record {
  members = λ tail.
      added tail ∙ ap (λ s. s || in_block block tail) (state.members tail)
      ∙ or_first (first_have a i tail) (first_have b j tail) (in_block block tail)
      ∙ ap (λ (x : Block). (first_have a i tail || in_block x tail) || first_have b j tail) is
      ∙ ap (λ s. s || first_have b j tail) (sym (first-more a i d tail below));
  within = state.within;
}

pub merge-done : (tails one other : TailSet) (a b : List Block) (i j : ℕ) → Merged tails a b i j → length a ≤ i → length b ≤ j → a ≡ one.blocks.items → b ≡ other.blocks.items
    → (tail : ℕ) → has tails tail ≡ (has one tail || has other tail)
unfolding has
merge-done tails one other a b i j state all_a all_b a_is b_is tail =
    state.members tail
    ∙ ap (λ s. s || first_have b j tail) (parts-all a i (tail / 64) (tail % 64) all_a)
    ∙ ap (λ s. have_parts a (tail / 64) (tail % 64) || s) (parts-all b j (tail / 64) (tail % 64) all_b)
    ∙ (λ x. have_parts (a_is x) (tail / 64) (tail % 64) || have_parts (b_is x) (tail / 64) (tail % 64))
