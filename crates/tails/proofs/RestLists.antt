-- What is left of the tails of a set, block by block.
use Rattle.std.proofs.Common.{ℕ, ◌≡◌, ◌+◌, ◌/◌, ◌%◌, ◌^◌, ◌<◌, ◌≤◌, true, false, ◌||◌, ◌==◌, List, [], length, get_or, take, All, refl, sym, ap, subst, ◌∙◌, inl, inr, arith}
use Rattle.std.specs.List.{list_any}
use Rattle.std.proofs.lemmas.Bool.{and_parts, both_ways, eqb-true, or_cases}
use Rattle.std.proofs.lemmas.Bool.Decides.{nat_tests}
use Rattle.tails.specs.declared.block.Block.{Block}
use Rattle.tails.specs.declared.rests.LastTakings.{LastTakings}
use Rattle.tails.specs.declared.tail_set.TailSet.{TailSet}
use Rattle.tails.specs.declared.takings.Taking.{Taking}
use Rattle.tails.specs.declared.tree.TailTree.{TailTree}
use Rattle.lane_board.specs.Lanes.{has_bit}
use Rattle.tails.specs.Blocks.{IsBlock, have_parts, in_block}
use Rattle.tails.specs.TailSets.{AreRests, has}
use Rattle.tails.specs.Takings.{AreLastTakings, AreTakings, in_some, is_sent}
use Rattle.tails.specs.Tails.{AreTails, IsTail, leads}
use Rattle.tails.proofs.BlockRests.{HasTails, key-small, sent-all, sent-only}
use Rattle.tails.proofs.EmptyLemmas.{parts-at}
use Rattle.tails.proofs.PartLemmas.{parts-all, parts-more, parts-one}

-- the blocks of all that is left of the tails of the first blocks
pub record HasRests (tree : TailTree) (code : ℕ) (blocks : List Block) (i : ℕ) (rests : List Block) : Type 0 where
  pub fit : All (λ (b : Block). b.key < 2 ^ 58) rests
  pub all : (tail rest : ℕ) → have_parts (take i blocks) (tail / 64) (tail % 64) ≡ true → leads tree code (λ r. r == rest) tail ≡ true → in_some rests rest ≡ true
  pub only : (rest : ℕ) → in_some rests rest ≡ true
      → (tail : ℕ) × (have_parts (take i blocks) (tail / 64) (tail % 64) ≡ true) × (leads tree code (λ r. r == rest) tail ≡ true)

pub rests-none : (tree : TailTree) (code : ℕ) (blocks rests : List Block) → rests ≡ [] → HasRests tree code blocks 0 rests
unfolding in_some have_parts
rests-none tree code blocks rests none = record {
  fit = λ k d below. absurd (omega (arith, ap length none));
  all = λ tail rest there led. absurd (both_ways false refl there);
  only = λ rest there. absurd (both_ways (in_some rests rest) (ap (λ l. in_some l rest) none) there);
}

-- the tails of the set's blocks are tails of the tree
pub block-tails : (tree : TailTree) (tails : TailSet) (i : ℕ) (d : Block) → AreTails tree (has tails) → i < length tails.blocks.items
    → HasTails tree (get_or tails.blocks.items i d)
unfolding has in_block
block-tails tree tails i d are below = record {
  tails = λ tail there.
      let block = get_or tails.blocks.items i d in
      let parts = and_parts (block.key == tail / 64) (has_bit block.bits (tail % 64)) there in
      are tail (parts-at tails.blocks.items i d (tail / 64) (tail % 64) below (eqb-true block.key (tail / 64) parts.0) parts.1);
}

-- a block of the set that a loop reads
pub record IsRead (tree : TailTree) (tails : TailSet) (i : ℕ) (block : Block) : Type 0 where
  pub default : Block
  pub below : i < length tails.blocks.items
  pub is : block ≡ get_or tails.blocks.items i default

pub read-block : (tree : TailTree) (tails : TailSet) (items : List Block) (i : ℕ) (d : Block) → items ≡ tails.blocks.items → i < length items
    → IsRead tree tails i (get_or items i d)
read-block tree tails items i d same below = record {
  default = d;
  below = subst (λ (l : List Block). i < length l) same below;
  is = ap (λ l. get_or l i d) same;
}

pub read-tails : (tree : TailTree) (tails : TailSet) (i : ℕ) (block : Block) → AreTails tree (has tails) → IsRead tree tails i block → HasTails tree block
read-tails tree tails i block are read = subst (HasTails tree) (sym read.is) (block-tails tree tails i read.default are read.below)

pub read-key : (tree : TailTree) (tails : TailSet) (i : ℕ) (block : Block) → AreTails tree (has tails) → IsRead tree tails i block → block.key < 2 ^ 45
read-key tree tails i block are read =
    key-small tree block (subst IsBlock (sym read.is) (tails.each i read.default read.below)) (read-tails tree tails i block are read)

pub last-takings : (tree : TailTree) (code key : ℕ) (last : LastTakings) (takings : List Taking) → AreLastTakings tree code last → last.front ≡ key / 2 ^ 26
    → takings ≡ last.takings.items → AreTakings tree (key / 2 ^ 26 / 8) (key / 2 ^ 26 % 8) code takings
last-takings tree code key last takings was front is =
    subst (λ (l : List Taking). AreTakings tree (key / 2 ^ 26 / 8) (key / 2 ^ 26 % 8) code l) (sym is)
    (subst (λ (n : ℕ). AreTakings tree (n / 8) (n % 8) code last.takings.items) front was.takings)

pub read-more : (tree : TailTree) (tails : TailSet) (i : ℕ) (block : Block) (tail : ℕ) → IsRead tree tails i block
    → have_parts (take (i + 1) tails.blocks.items) (tail / 64) (tail % 64) ≡ (have_parts (take i tails.blocks.items) (tail / 64) (tail % 64) || in_block block tail)
read-more tree tails i block tail read =
    let blocks = tails.blocks.items in
    parts-more blocks i read.default (tail / 64) (tail % 64) read.below
    ∙ ap (λ b. have_parts (take i blocks) (tail / 64) (tail % 64) || b) (parts-one (get_or blocks i read.default) tail ∙ ap (λ b. in_block b tail) (sym read.is))

pub rests-more : (tree : TailTree) (code : ℕ) (tails : TailSet) (i : ℕ) (block : Block) (takings : List Taking) (rests new : List Block) → AreTails tree (has tails)
    → IsRead tree tails i block → AreTakings tree (block.key / 2 ^ 26 / 8) (block.key / 2 ^ 26 % 8) code takings
    → All (λ (b : Block). b.key < 2 ^ 58) new
    → ((tail : ℕ) → in_some new tail ≡ (in_some rests tail || list_any (λ taking. is_sent block taking tail) takings))
    → HasRests tree code tails.blocks.items i rests → HasRests tree code tails.blocks.items (i + 1) new
rests-more tree code tails i block takings rests new are read ways fit pushed so_far =
    let blocks = tails.blocks.items in
    let has = read-tails tree tails i block are read in
    let more = λ (tail : ℕ). read-more tree tails i block tail read in
    record {
      fit = fit;
      all = λ tail rest there led. elim (or_cases (have_parts (take i blocks) (tail / 64) (tail % 64)) (in_block block tail) (sym (more tail) ∙ there)) [
        | inl before ↦
            let known = so_far.all tail rest before led in
            pushed rest ∙ ap (λ b. b || list_any (λ taking. is_sent block taking rest) takings) known
        | inr here ↦
            let sent = sent-all tree code block takings has ways tail rest here led in
            let is = pushed rest in
            grind (arith, nat_tests)
      ];
      only = λ rest there. elim (or_cases (in_some rests rest) (list_any (λ taking. is_sent block taking rest) takings) (sym (pushed rest) ∙ there)) [
        | inl before ↦
            let known = so_far.only rest before in
            (known.0, more known.0 ∙ ap (λ b. b || in_block block known.0) known.1, known.2)
        | inr here ↦
            let found = sent-only tree code block takings has ways rest here in
            let is = more found.0 in
            let inside = found.1 in
            (found.0, grind (arith, nat_tests), found.2)
      ];
    }

pub rests-done : (tree : TailTree) (code : ℕ) (tails rests : TailSet) (blocks : List Block) (i : ℕ) → length tails.blocks.items ≤ i → AreTails tree (has tails)
    → ((tail rest : ℕ) → IsTail tree tail → leads tree code (λ other. other == rest) tail ≡ true → IsTail tree rest)
    → ((tail : ℕ) → has rests tail ≡ in_some blocks tail)
    → HasRests tree code tails.blocks.items i blocks → AreRests tree code (has tails) (has rests)
unfolding has
rests-done tree code tails rests blocks i past are left is done =
    let whole = λ (tail : ℕ). parts-all tails.blocks.items i (tail / 64) (tail % 64) past in
    let only : (rest : ℕ) → has rests rest ≡ true → (tail : ℕ) × (has tails tail ≡ true) × (leads tree code (λ r. r == rest) tail ≡ true) = λ rest there.
    let found = done.only rest (sym (is rest) ∙ there) in
    (found.0, sym (whole found.0) ∙ found.1, found.2) in
    record {
      are_tails = λ rest there. let found = only rest there in left found.0 rest (are found.0 found.1) found.2;
      all = λ tail rest there led. is rest ∙ done.all tail rest (whole tail ∙ there) led;
      only = only;
    }
