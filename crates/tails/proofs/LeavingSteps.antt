-- The tails of a set from which a piece can't be taken so that a rest is left, block by block.
use Rattle.std.proofs.Common.{ℕ, ◌≡◌, ◌+◌, ◌*◌, ◌/◌, ◌%◌, ◌^◌, Bool, true, false, not, nat_lt, ◌&&◌, ◌||◌, List, take, refl, sym, ap, ◌∙◌, inl, inr, arith}
use Rattle.std.specs.List.{list_any}
use Rattle.std.proofs.Math.Path.{fun_ext}
use Rattle.std.proofs.lemmas.Bool.{cases_Bool, lt-ltb}
use Rattle.std.proofs.lemmas.Bool.Decides.{nat_tests}
use Rattle.lane_board.specs.Lanes.{has_bit}
use Rattle.tails.specs.declared.block.Block.{Block}
use Rattle.tails.specs.declared.tail_set.TailSet.{TailSet}
use Rattle.tails.specs.declared.takings.Taking.{Taking}
use Rattle.tails.specs.declared.tree.TailTree.{TailTree}
use Rattle.tails.specs.Blocks.{have_parts, in_block}
use Rattle.tails.specs.Numbers.{held_of, place_of}
use Rattle.tails.specs.TailSets.{has}
use Rattle.tails.specs.Takings.{AreTakings, in_run, left_of, runs_to}
use Rattle.tails.specs.Tails.{AreTails, behind_letter, leads, letter_at}
use Rattle.tails.proofs.BlockLemmas.{made}
use Rattle.tails.proofs.BlockRests.{HasTails, in-key, leads-by}
use Rattle.tails.proofs.KeptSteps.{HasKept}
use Rattle.tails.proofs.RestLists.{IsRead, read-more, read-tails}

-- no rest is left where there is none
none-passes : (a b x y : Bool) → x ≡ false → y ≡ false → ((a && x) || (b && y)) ≡ false
none-passes a b x y one other = grind (arith, nat_tests)

pub leads-nothing : (tree : TailTree) (code : ℕ) (goes_on : ℕ → Bool) (tail : ℕ) → ((rest : ℕ) → goes_on rest ≡ false) → leads tree code goes_on tail ≡ false
unfolding leads
leads-nothing tree code goes_on tail none = none-passes _ _ _ _ (none (behind_letter tree tail (letter_at tree tail))) (none (behind_letter tree tail (held_of tail)))

pub all-stay : (tree : TailTree) (code : ℕ) (tails rests : TailSet) → ((tail : ℕ) → has rests tail ≡ false)
    → (tail : ℕ) → has tails tail ≡ (has tails tail && not (leads tree code (has rests) tail))
all-stay tree code tails rests none tail =
    let nothing = leads-nothing tree code (has rests) tail none in
    grind (arith, nat_tests)

-- a run by the place of a tail
run-at : (goes_on : ℕ → Bool) (tail : ℕ) (taking : Taking) → (in_run taking tail && goes_on (left_of taking tail)) ≡ runs_to goes_on (place_of tail) taking
unfolding in_run left_of runs_to
run-at goes_on tail taking = grind (arith, nat_tests)

place-at : (block : Block) (tail place : ℕ) → block.key ≡ tail / 64 → place ≡ block.key % 2 ^ 26 * 64 → place + tail % 64 ≡ place_of tail
unfolding place_of
place-at block tail place key_is place_is = omega (arith, key_is, place_is)

-- The bits that lead to a rest, and those that stay.
pub record AreLeading (rests : TailSet) (block : Block) (takings : List Taking) (leading bits : ℕ) : Type 0 where
  pub leads_are : (k : ℕ) → has_bit leading k ≡ (nat_lt k 64 && list_any (runs_to (has rests) (block.key % 2 ^ 26 * 64 + k)) takings)
  pub bits_are : (k : ℕ) → has_bit bits k ≡ (has_bit block.bits k && not (has_bit leading k))

module _ (tree : TailTree) (code : ℕ) (rests : TailSet) (block : Block) (takings : List Taking) (leading bits : ℕ) (are : AreLeading rests block takings leading bits)
    (tails : HasTails tree block) (ways : AreTakings tree (block.key / 2 ^ 26 / 8) (block.key / 2 ^ 26 % 8) code takings) where
  leading-is : (tail : ℕ) → in_block block tail ≡ true → has_bit leading (tail % 64) ≡ leads tree code (has rests) tail
  leading-is tail there =
      let place = place-at block tail (block.key % 2 ^ 26 * 64) (in-key block tail there) refl in
      are.leads_are (tail % 64)
      ∙ ap (λ b. b && list_any (runs_to (has rests) (block.key % 2 ^ 26 * 64 + tail % 64)) takings) (lt-ltb (tail % 64) 64 (omega arith))
      ∙ ap (λ n. list_any (runs_to (has rests) n) takings) place
      ∙ ap (λ (f : Taking → Bool). list_any f takings) (sym (fun_ext (run-at (has rests) tail)))
      ∙ sym (leads-by tree code block takings tails ways tail (has rests) there)

  stay-in : (tail : ℕ) → in_block (made block.key bits) tail ≡ (in_block block tail && not (leads tree code (has rests) tail))
  unfolding in_block
  stay-in tail = elim (cases_Bool (in_block block tail)) [
    | inl there ↦
        let is = leading-is tail there in
        let bit = are.bits_are (tail % 64) in
        grind (arith, nat_tests)
    | inr missing ↦
        let bit = are.bits_are (tail % 64) in
        grind (arith, nat_tests)
  ]

both_stay : (a b t : Bool) → ((a && not t) || (b && not t)) ≡ ((a || b) && not t)
both_stay a b t = grind (arith, nat_tests)

pub stay-more : (tree : TailTree) (code : ℕ) (rests tails stay new : TailSet) (i : ℕ) (block : Block) (takings : List Taking) (leading bits : ℕ) → AreTails tree (has tails)
    → IsRead tree tails i block → AreTakings tree (block.key / 2 ^ 26 / 8) (block.key / 2 ^ 26 % 8) code takings → AreLeading rests block takings leading bits
    → ((tail : ℕ) → has new tail ≡ (has stay tail || in_block (made block.key bits) tail))
    → HasKept (leads tree code (has rests)) tails.blocks.items i stay → HasKept (leads tree code (has rests)) tails.blocks.items (i + 1) new
stay-more tree code rests tails stay new i block takings leading bits are read ways leading_are added so_far = record {
  is = λ tail.
      let test = leads tree code (has rests) tail in
      added tail
      ∙ (λ j. so_far.is tail j || stay-in tree code rests block takings leading bits leading_are (read-tails tree tails i block are read) ways tail j)
      ∙ both_stay (have_parts (take i tails.blocks.items) (tail / 64) (tail % 64)) (in_block block tail) test
      ∙ ap (λ b. b && not test) (sym (read-more tree tails i block tail read));
}
