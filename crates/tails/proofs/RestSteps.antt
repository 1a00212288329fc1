-- What is left of the tails of a set, one run and one block on.
use Rattle.std.proofs.Common.{ℕ, ◌≡◌, ◌+◌, ◌<◌, ◌≤◌, ◌^◌, Bool, false, nat_lt, ◌&&◌, ◌||◌, List, [], ◌∷◌, ◌++◌, length, get_or, take, All, sym, ap, ◌∙◌, arith}
use Rattle.std.specs.List.{list_any}
use Rattle.std.proofs.Math.Bool.{or-false}
use Rattle.std.proofs.lemmas.Bool.Decides.{nat_tests}
use Rattle.std.proofs.lemmas.List.{take_all}
use Rattle.std.proofs.lemmas.List.Folds.{list_any-append, list_any_more}
use Rattle.lane_board.specs.Lanes.{has_bit}
use Rattle.lane_board.proofs.CallerLemmas.{has_bit-zero}
use Rattle.tails.specs.declared.block.Block.{Block}
use Rattle.tails.specs.declared.takings.Taking.{Taking}
use Rattle.tails.specs.Blocks.{in_block}
use Rattle.tails.specs.Takings.{in_some, is_sent}
use Rattle.tails.proofs.BlockLemmas.{in-empty, made}

pub some-push : (blocks new : List Block) (block : Block) (tail : ℕ) → new ≡ blocks ++ block ∷ []
    → in_some new tail ≡ (in_some blocks tail || in_block block tail)
unfolding in_some
some-push blocks new block tail is =
    ap (λ l. in_some l tail) is ∙ list_any-append (λ b. in_block b tail) blocks (block ∷ [])
    ∙ ap (λ b. in_some blocks tail || b) (or-false (in_block block tail))

pub some-same : (blocks : List Block) (block : Block) (tail : ℕ) → block.bits ≡ 0 → in_some blocks tail ≡ (in_some blocks tail || in_block block tail)
some-same blocks block tail none =
    sym (ap (λ b. in_some blocks tail || b) (ap (λ n. in_block (made block.key n) tail) none ∙ in-empty block.key tail) ∙ or-false (in_some blocks tail))

-- the blocks of what is left in the first ways, behind others
pub record HasSent (block : Block) (before : List Block) (takings : List Taking) (i : ℕ) (rests : List Block) : Type 0 where
  pub fit : All (λ (b : Block). b.key < 2 ^ 58) rests
  pub pushed : (tail : ℕ) → in_some rests tail ≡ (in_some before tail || list_any (λ taking. is_sent block taking tail) (take i takings))

pub sent-starts : (block : Block) (before : List Block) (takings : List Taking) → All (λ (b : Block). b.key < 2 ^ 58) before → HasSent block before takings 0 before
sent-starts block before takings fit = record { fit = fit; pushed = λ tail. sym (or-false (in_some before tail)) }

either-more : (a b low high sent : Bool) → (low || high) ≡ sent → (((a || b) || low) || high) ≡ (a || (b || sent))
either-more a b low high sent is = grind (arith, nat_tests)

pub sent-more : (block low high : Block) (before rests middle new : List Block) (takings : List Taking) (i : ℕ) (d : Taking) → i < length takings
    → ((tail : ℕ) → (in_block low tail || in_block high tail) ≡ is_sent block (get_or takings i d) tail)
    → ((tail : ℕ) → in_some middle tail ≡ (in_some rests tail || in_block low tail))
    → ((tail : ℕ) → in_some new tail ≡ (in_some middle tail || in_block high tail))
    → All (λ (b : Block). b.key < 2 ^ 58) new → HasSent block before takings i rests → HasSent block before takings (i + 1) new
sent-more block low high before rests middle new takings i d below sent first second fit so_far = record {
  fit = fit;
  pushed = λ tail.
      let passed = list_any (λ taking. is_sent block taking tail) (take i takings) in
      second tail ∙ (λ j. first tail j || in_block high tail)
      ∙ (λ j. (so_far.pushed tail j || in_block low tail) || in_block high tail)
      ∙ either-more (in_some before tail) passed (in_block low tail) (in_block high tail) (is_sent block (get_or takings i d) tail) (sent tail)
      ∙ ap (λ b. in_some before tail || b) (sym (list_any_more (λ taking. is_sent block taking tail) takings i d below));
}

pub sent-done : (block : Block) (before : List Block) (takings : List Taking) (i : ℕ) (rests : List Block) → length takings ≤ i → HasSent block before takings i rests
    → (tail : ℕ) → in_some rests tail ≡ (in_some before tail || list_any (λ taking. is_sent block taking tail) takings)
sent-done block before takings i rests past done tail =
    done.pushed tail ∙ ap (λ l. in_some before tail || list_any (λ taking. is_sent block taking tail) l) (take_all i takings past)

-- the windows of the first ways together
pub leading-starts : (k : ℕ) → has_bit 0 k ≡ (nat_lt k 64 && false)
leading-starts k = has_bit-zero k ∙ grind (arith, nat_tests)

and-or : (a b c : Bool) → ((a && b) || (a && c)) ≡ (a && (b || c))
and-or a b c = grind (arith, nat_tests)

pub leading-more : (test : Taking → Bool) (takings : List Taking) (i : ℕ) (d : Taking) (leading window new k : ℕ) → i < length takings
    → has_bit new k ≡ (has_bit leading k || has_bit window k) → has_bit window k ≡ (nat_lt k 64 && test (get_or takings i d))
    → has_bit leading k ≡ (nat_lt k 64 && list_any test (take i takings))
    → has_bit new k ≡ (nat_lt k 64 && list_any test (take (i + 1) takings))
leading-more test takings i d leading window new k below both window_is so_far =
    both ∙ (λ j. so_far j || window_is j)
    ∙ and-or (nat_lt k 64) (list_any test (take i takings)) (test (get_or takings i d))
    ∙ ap (λ b. nat_lt k 64 && b) (sym (list_any_more test takings i d below))
