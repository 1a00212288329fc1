-- What lists of blocks have, one block on.
use Rattle.std.proofs.Common.{ℕ, ◌≡◌, ◌+◌, ◌<◌, ◌≤◌, Bool, false, ◌||◌, ◌&&◌, ◌==◌, List, [], ◌∷◌, ◌++◌, length, get_or, take, drop, All, refl, sym, ap, ◌∙◌, ◌/◌, ◌%◌}
use Rattle.std.proofs.lemmas.Bool.{ne_eqb, and_left}
use Rattle.std.proofs.lemmas.List.{take_all, take-append-drop}
use Rattle.std.proofs.lemmas.List.Folds.{list_any-append, list_any_more, list_any_none}
use Rattle.std.proofs.Math.Bool.{or-false}
use Rattle.lane_board.specs.Lanes.{has_bit}
use Rattle.tails.specs.declared.block.Block.{Block}
use Rattle.tails.specs.Blocks.{have_parts, in_block}

-- what stands for an element past the end
abbrev pub no_block : Block
no_block = record { key = 0; bits = 0 }

-- whether a block has a key and an bit
abbrev pub has_part : Block → ℕ → ℕ → Bool
has_part block key bit = (block.key == key) && has_bit block.bits bit

pub parts-none : (key bit : ℕ) → have_parts [] key bit ≡ false
unfolding have_parts
parts-none key bit = refl

pub parts-append : (xs ys : List Block) (key bit : ℕ) → have_parts (xs ++ ys) key bit ≡ (have_parts xs key bit || have_parts ys key bit)
unfolding have_parts
parts-append xs ys key bit = list_any-append (λ block. has_part block key bit) xs ys

pub parts-first : (block : Block) (blocks : List Block) (key bit : ℕ) → have_parts (block ∷ blocks) key bit ≡ (has_part block key bit || have_parts blocks key bit)
unfolding have_parts
parts-first block blocks key bit = refl

pub parts-more : (blocks : List Block) (i : ℕ) (d : Block) (key bit : ℕ) → i < length blocks
    → have_parts (take (i + 1) blocks) key bit ≡ (have_parts (take i blocks) key bit || has_part (get_or blocks i d) key bit)
unfolding have_parts
parts-more blocks i d key bit below = list_any_more (λ block. has_part block key bit) blocks i d below

pub parts-all : (blocks : List Block) (i key bit : ℕ) → length blocks ≤ i → have_parts (take i blocks) key bit ≡ have_parts blocks key bit
parts-all blocks i key bit all = ap (λ l. have_parts l key bit) (take_all i blocks all)

pub parts-absent : (blocks : List Block) (key bit : ℕ) → All (λ block. block.key ≡ key → ⊥) blocks → have_parts blocks key bit ≡ false
unfolding have_parts
parts-absent blocks key bit other =
    list_any_none (λ block. has_part block key bit) blocks (λ k d below. and_left _ _ (ne_eqb _ _ (other k d below)))

pub parts-cut : (blocks : List Block) (i key bit : ℕ) → have_parts blocks key bit ≡ (have_parts (take i blocks) key bit || have_parts (drop i blocks) key bit)
parts-cut blocks i key bit = ap (λ l. have_parts l key bit) (sym (take-append-drop i blocks)) ∙ parts-append (take i blocks) (drop i blocks) key bit

pub parts-one : (block : Block) (tail : ℕ) → has_part block (tail / 64) (tail % 64) ≡ in_block block tail
unfolding in_block
parts-one block tail = refl

pub tails-push : (blocks : List Block) (block : Block) (tail : ℕ)
    → have_parts (blocks ++ block ∷ []) (tail / 64) (tail % 64) ≡ (have_parts blocks (tail / 64) (tail % 64) || in_block block tail)
unfolding in_block have_parts
tails-push blocks block tail =
    list_any-append (λ b. has_part b (tail / 64) (tail % 64)) blocks (block ∷ [])
    ∙ ap (λ b. have_parts blocks (tail / 64) (tail % 64) || b) (or-false _)
