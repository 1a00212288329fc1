-- Where a key belongs among blocks whose keys rise.
use Rattle.std.proofs.Common.{ℕ, ◌≡◌, ◌≢◌, ◌+◌, ◌-◌, ◌<◌, ◌≤◌, false, List, length, get_or, ap, subst, ◌∙◌, arith, inl, inr}
use Rattle.std.proofs.lemmas.Bool.{cases_lt}
use Rattle.std.proofs.lemmas.List.{get_or_default}
use Rattle.lane_board.specs.Lanes.{has_bit}
use Rattle.tails.specs.declared.block.Block.{Block}
use Rattle.tails.specs.Blocks.{have_parts, IsPlace, KeysRise}
use Rattle.tails.proofs.OrderLemmas.{IsPassed, key-at, parts-here, parts-stopped, passed-before, passed-none, rises-at}
use Rattle.tails.proofs.PartLemmas.{no_block}

-- no key from an index on is below this one
pub record IsAhead (blocks : List Block) (from key : ℕ) : Type 0 where
  pub above : (k : ℕ) (d : Block) → from ≤ k → k < length blocks → key ≤ (get_or blocks k d).key

ahead-none : (blocks : List Block) (from key : ℕ) → length blocks ≤ from → IsAhead blocks from key
ahead-none blocks from key past = record { above = λ k d later below. absurd (omega arith) }

ahead-at : (blocks : List Block) (from key : ℕ) → KeysRise blocks → from < length blocks → key ≤ (get_or blocks from no_block).key → IsAhead blocks from key
ahead-at blocks from key up within least = record {
  above = λ k d later below. elim (cases_lt from k) [
    | inl after ↦ let step = rises-at blocks from k no_block d up after below in omega arith
    | inr same ↦
        let is : k ≡ from = omega arith in
        let key_is : (get_or blocks k d).key ≡ (get_or blocks from no_block).key =
        ap (λ n. (get_or blocks n d).key) is ∙ ap (λ (b : Block). b.key) (get_or_default blocks from d no_block within) in
        omega arith
  ];
}

passed-at : (blocks : List Block) (at key : ℕ) → KeysRise blocks → at < length blocks → (get_or blocks at no_block).key < key → IsPassed blocks (at + 1) key
passed-at blocks at key up within less =
    let back : at ≡ at + 1 - 1 = omega arith in
    passed-before blocks (at + 1) key no_block up (omega arith) (omega arith) (subst (λ n. (get_or blocks n no_block).key < key) back less)

pub place-from : (blocks : List Block) (place key : ℕ) → IsPassed blocks place key → IsAhead blocks place key → IsPlace blocks key place
place-from blocks place key passed ahead = record {
  within = passed.within;
  before = λ k early.
      let within : k < length blocks = omega (arith, early, passed.within) in
      omega (arith, passed.below k no_block early, key-at blocks k no_block within);
  behind = λ k later below. omega (arith, ahead.above k no_block later below, key-at blocks k no_block below);
}

place-passed : (blocks : List Block) (place key : ℕ) → IsPlace blocks key place → IsPassed blocks place key
place-passed blocks place key is = record {
  below = λ k d early.
      let within : k < length blocks = omega (arith, early, is.within) in
      omega (arith, is.before k early, key-at blocks k d within);
  within = is.within;
}

-- what the tests at an index tell
pub place-tested : (blocks : List Block) (place key : ℕ) → KeysRise blocks → place ≤ length blocks → (0 < place → (get_or blocks (place - 1) no_block).key < key)
    → (place < length blocks → key ≤ (get_or blocks place no_block).key) → IsPlace blocks key place
place-tested blocks place key up within passed ahead =
    place-from blocks place key
    (elim (cases_lt 0 place) [
      | inl some ↦ passed-before blocks place key no_block up some within (passed some)
      | inr none ↦ let zero : place ≡ 0 = omega arith in rw zero (passed-none blocks key)
    ])
    (elim (cases_lt place (length blocks)) [
      | inl below ↦ ahead-at blocks place key up below (ahead below)
      | inr past ↦ ahead-none blocks place key past
    ])

-- a key is looked for between two indices
pub record IsBetween (blocks : List Block) (low high key : ℕ) : Type 0 where
  pub passed : IsPassed blocks low key
  pub ahead : IsAhead blocks high key
  pub order : low ≤ high
  pub within : high ≤ length blocks

pub between-later : (blocks : List Block) (low high key at : ℕ) → KeysRise blocks → IsBetween blocks low high key → at < high → (get_or blocks at no_block).key < key
    → IsBetween blocks (at + 1) high key
between-later blocks low high key at up between below less = record {
  passed = passed-at blocks at key up (let within = between.within in omega arith) less;
  ahead = between.ahead;
  order = omega arith;
  within = between.within;
}

pub between-earlier : (blocks : List Block) (low high key at : ℕ) → KeysRise blocks → IsBetween blocks low high key → low ≤ at → at < high → key ≤ (get_or blocks at no_block).key
    → IsBetween blocks low at key
between-earlier blocks low high key at up between from below least =
    let within = between.within in
    record {
      passed = between.passed;
      ahead = ahead-at blocks at key up (omega arith) least;
      order = from;
      within = omega arith;
    }

pub between-none : (blocks : List Block) (low high key : ℕ) → IsBetween blocks low high key → high ≤ low → IsPlace blocks key low
between-none blocks low high key between none =
    place-from blocks low key between.passed (record { above = λ k d later below. between.ahead.above k d (omega arith) below })

-- at the place of a key stands its block, or there is none
pub parts-placed : (blocks : List Block) (place key bit : ℕ) (d : Block) → KeysRise blocks → IsPlace blocks key place → place < length blocks → (get_or blocks place d).key ≡ key
    → have_parts blocks key bit ≡ has_bit (get_or blocks place d).bits bit
parts-placed blocks place key bit d up is below same = parts-here blocks place key bit d up (place-passed blocks place key is) below same

pub parts-not_placed : (blocks : List Block) (place key bit : ℕ) → KeysRise blocks → IsPlace blocks key place → (place < length blocks → (get_or blocks place no_block).key ≢ key)
    → have_parts blocks key bit ≡ false
parts-not_placed blocks place key bit up is other =
    parts-stopped blocks place key bit no_block up (place-passed blocks place key is)
    (λ below. omega (arith, is.behind place (omega arith) below, key-at blocks place no_block below)) other
