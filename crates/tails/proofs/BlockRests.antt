-- What is left of the tails of a block.
use Rattle.std.proofs.Common.{ℕ, ◌≡◌, ◌+◌, ◌-◌, ◌*◌, ◌/◌, ◌%◌, ◌^◌, ◌<◌, ◌≤◌, Bool, true, false, nat_le, nat_lt, ◌&&◌, ◌||◌, ◌==◌, List, [], ◌∷◌, All, refl, sym, ap, ◌∙◌, inl, inr, arith}
use Rattle.std.specs.List.{list_any}
use Rattle.std.proofs.lemmas.Bool.{and_from, and_parts, both_ways, cases_lt, eq-eqb, eqb-true, false_from_ne_true, le-leb, leb-true, lt-ltb, ltb-true, or_cases}
use Rattle.std.proofs.lemmas.Bool.Decides.{nat_tests}
use Rattle.std.proofs.lemmas.List.Elements.{All-head, All-tail}
use Rattle.lane_board.specs.Lanes.{has_bit}
use Rattle.lane_board.proofs.CallerLemmas.{has_bit-past, has_bit-zero, same_from_columns}
use Rattle.tails.specs.declared.block.Block.{Block}
use Rattle.tails.specs.declared.takings.Taking.{Taking}
use Rattle.tails.specs.declared.tree.TailTree.{TailTree}
use Rattle.tails.specs.Blocks.{IsBlock, in_block}
use Rattle.tails.specs.Numbers.{held_of, place_of, state_of}
use Rattle.tails.specs.Takings.{AreTakings, IsTaking, front_of, in_run, is_sent, left_of}
use Rattle.tails.specs.Tails.{IsTail, leads}

-- the tails of a block are tails of a tree
pub record HasTails (tree : TailTree) (block : Block) : Type 0 where
  pub tails : (tail : ℕ) → in_block block tail ≡ true → IsTail tree tail

pub in-key : (block : Block) (tail : ℕ) → in_block block tail ≡ true → block.key ≡ tail / 64
unfolding in_block
in-key block tail there = eqb-true block.key (tail / 64) (and_parts (block.key == tail / 64) (has_bit block.bits (tail % 64)) there).0

pub state-in : (block : Block) (tail : ℕ) → block.key ≡ tail / 64 → state_of tail ≡ block.key / 2 ^ 26 / 8
unfolding state_of
state-in block tail key_is = omega (arith, key_is)

pub held-in : (block : Block) (tail : ℕ) → block.key ≡ tail / 64 → held_of tail ≡ block.key / 2 ^ 26 % 8
unfolding held_of
held-in block tail key_is = omega (arith, key_is)

front-in : (block : Block) (tail : ℕ) → block.key ≡ tail / 64 → front_of block + place_of tail ≡ tail
unfolding front_of place_of
front-in block tail key_is = omega (arith, key_is)

place-in : (block : Block) (place : ℕ) → place < 2 ^ 32 → place_of (front_of block + place) ≡ place
unfolding front_of place_of
place-in block place small = omega arith

-- the key of a block of tails of a tree
pub key-small : (tree : TailTree) (block : Block) → IsBlock block → HasTails tree block → block.key < 2 ^ 45
unfolding in_block state_of
key-small tree block is has = elim (cases_lt block.key (2 ^ 45)) [
  | inl small ↦ small
  | inr large ↦ absurd (is.some (same_from_columns block.bits 0 (λ bit. false_from_ne_true (has_bit block.bits bit) (λ there.
      elim (cases_lt bit 64) [
        | inl inside ↦
            let tail = block.key * 64 + bit in
            let same : block.key ≡ tail / 64 = omega arith in
            let at : tail % 64 ≡ bit = omega arith in
            let tail_is = has.tails tail (and_from (block.key == tail / 64) (has_bit block.bits (tail % 64)) (eq-eqb block.key (tail / 64) same) (ap (has_bit block.bits) at ∙ there)) in
            let within = tail_is.within in
            let few = tree.are_states.few in
            omega (arith, within, few)
        | inr past ↦ both_ways (has_bit block.bits bit) (has_bit-past block.bits 64 bit is.few past) there
      ]) ∙ sym (has_bit-zero bit))))
]

any-implied : {A : Type 0} (p q : A → Bool) (xs : List A) → ((x : A) → p x ≡ true → q x ≡ true) → list_any p xs ≡ true → list_any q xs ≡ true
any-implied p q [] implied led = led
any-implied p q (x ∷ xs) implied led = elim (or_cases (p x) (list_any p xs) led) [
  | inl here ↦ ap (λ b. b || list_any q xs) (implied x here)
  | inr there ↦ let rest = any-implied p q xs implied there in grind (arith, nat_tests)
]

-- a run that passes a test
some-taking : (test : Taking → Bool) (takings : List Taking) → All IsTaking takings → list_any test takings ≡ true
    → (taking : Taking) × IsTaking taking × (test taking ≡ true) × ((other : Taking → Bool) → other taking ≡ true → list_any other takings ≡ true)
some-taking test [] are led = absurd (both_ways false refl led)
some-taking test (x ∷ xs) are led = elim (or_cases (test x) (list_any test xs) led) [
  | inl here ↦ (x, All-head IsTaking x xs are, here, λ other is. ap (λ b. b || list_any other xs) is)
  | inr there ↦
      let rest = some-taking test xs (All-tail IsTaking x xs are) there in
      (rest.0, rest.1, rest.2, λ other is. let more = rest.3 other is in grind (arith, nat_tests))
]

-- a tail in a run, and what is left of it
run-sent : (block : Block) (taking : Taking) (tail rest : ℕ) → in_block block tail ≡ true → (in_run taking tail && (left_of taking tail == rest)) ≡ true
    → is_sent block taking rest ≡ true
unfolding in_run left_of is_sent
run-sent block taking tail rest there led =
    let parts = and_parts (in_run taking tail) (left_of taking tail == rest) led in
    let inside = and_parts (nat_le taking.first (place_of tail)) (nat_lt (place_of tail - taking.first) taking.count) parts.0 in
    let from : taking.first ≤ place_of tail = leb-true taking.first (place_of tail) inside.0 in
    let within : place_of tail - taking.first < taking.count = ltb-true (place_of tail - taking.first) taking.count inside.1 in
    let left : taking.base + (place_of tail - taking.first) ≡ rest = eqb-true (left_of taking tail) rest parts.1 in
    let front = front-in block tail (in-key block tail there) in
    let back : front_of block + (taking.first + (rest - taking.base)) ≡ tail = omega arith in
    and_from (nat_le taking.base rest) _ (le-leb taking.base rest (omega arith))
    (and_from (nat_lt (rest - taking.base) taking.count) _ (lt-ltb (rest - taking.base) taking.count (omega arith)) (ap (in_block block) back ∙ there))

-- the tail of which something is left
unfoldable pub tail_behind : Block → Taking → ℕ → ℕ
tail_behind block taking rest = front_of block + (taking.first + (rest - taking.base))

sent-run : (block : Block) (taking : Taking) (rest : ℕ) → IsTaking taking → is_sent block taking rest ≡ true
    → (in_block block (tail_behind block taking rest) ≡ true)
    × ((in_run taking (tail_behind block taking rest) && (left_of taking (tail_behind block taking rest) == rest)) ≡ true)
unfolding in_run left_of is_sent tail_behind
sent-run block taking rest taken sent =
    let parts = and_parts (nat_le taking.base rest) (nat_lt (rest - taking.base) taking.count && in_block block (tail_behind block taking rest)) sent in
    let more = and_parts (nat_lt (rest - taking.base) taking.count) (in_block block (tail_behind block taking rest)) parts.1 in
    let from : taking.base ≤ rest = leb-true taking.base rest parts.0 in
    let within : rest - taking.base < taking.count = ltb-true (rest - taking.base) taking.count more.0 in
    let few = taken.few in
    let place = place-in block (taking.first + (rest - taking.base)) (omega arith) in (
      more.1,
      and_from (in_run taking (tail_behind block taking rest)) _
          (and_from (nat_le taking.first (place_of (tail_behind block taking rest))) _ (le-leb taking.first (place_of (tail_behind block taking rest)) (omega arith))
          (lt-ltb (place_of (tail_behind block taking rest) - taking.first) taking.count (omega arith)))
          (eq-eqb (left_of taking (tail_behind block taking rest)) rest (omega arith)),
    )

-- all that is left of the tails of a block is sent, and nothing else
module _ (tree : TailTree) (code : ℕ) (block : Block) (takings : List Taking) (has : HasTails tree block)
    (ways : AreTakings tree (block.key / 2 ^ 26 / 8) (block.key / 2 ^ 26 % 8) code takings) where
  pub leads-by : (tail : ℕ) (goes_on : ℕ → Bool) → in_block block tail ≡ true
      → leads tree code goes_on tail ≡ list_any (λ taking. in_run taking tail && goes_on (left_of taking tail)) takings
  leads-by tail goes_on there =
      let key_is = in-key block tail there in
      ways.all tail goes_on (has.tails tail there) (state-in block tail key_is) (held-in block tail key_is)

  pub sent-all : (tail rest : ℕ) → in_block block tail ≡ true → leads tree code (λ r. r == rest) tail ≡ true
      → list_any (λ taking. is_sent block taking rest) takings ≡ true
  sent-all tail rest there led =
      any-implied (λ taking. in_run taking tail && (left_of taking tail == rest)) (λ taking. is_sent block taking rest) takings
      (λ taking. run-sent block taking tail rest there) (sym (leads-by tail (λ r. r == rest) there) ∙ led)

  pub sent-only : (rest : ℕ) → list_any (λ taking. is_sent block taking rest) takings ≡ true
      → (tail : ℕ) × (in_block block tail ≡ true) × (leads tree code (λ r. r == rest) tail ≡ true)
  sent-only rest sent =
      let some = some-taking (λ taking. is_sent block taking rest) takings ways.are sent in
      let tail = tail_behind block some.0 rest in
      let run = sent-run block some.0 rest some.1 some.2 in
      (tail, run.0, leads-by tail (λ r. r == rest) run.0 ∙ some.3 (λ taking. in_run taking tail && (left_of taking tail == rest)) run.1)
