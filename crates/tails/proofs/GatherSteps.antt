-- Blocks of tails in any order.
use Rattle.std.proofs.Common.{ℕ, ◌≡◌, ◌≤◌, ◌/◌, ◌%◌, List, [], length, sym, ◌∙◌}
use Rattle.std.specs.List.{list_any}
use Rattle.std.specs.Prelude.{IsPermutation}
use Rattle.std.proofs.Math.Bool.{or-false}
use Rattle.std.proofs.lemmas.List.Sorted.{list_any-IsPermutation}
use Rattle.tails.specs.declared.block.Block.{Block}
use Rattle.tails.specs.declared.tail_set.TailSet.{TailSet}
use Rattle.tails.specs.Blocks.{have_parts, in_block}
use Rattle.tails.specs.TailSets.{has}
use Rattle.tails.proofs.MergeSteps.{Merged}
use Rattle.tails.proofs.PartLemmas.{has_part, parts-all}

-- sorted, and added to a set
pub added-done : (tails : TailSet) (blocks sorted : List Block) (i : ℕ) → Merged tails sorted [] i 0 → length sorted ≤ i
    → IsPermutation blocks sorted → (tail : ℕ) → has tails tail ≡ list_any (λ block. in_block block tail) blocks
unfolding in_block have_parts
added-done tails blocks sorted i state all same tail =
    state.members tail ∙ or-false _
    ∙ parts-all sorted i (tail / 64) (tail % 64) all
    ∙ sym (list_any-IsPermutation (λ block. has_part block (tail / 64) (tail % 64)) blocks sorted same)
