-- Blocks whose keys rise, and where a key stands among them.
use Rattle.std.proofs.Common.{ℕ, ◌≡◌, ◌≢◌, ◌+◌, ◌-◌, ◌<◌, ◌≤◌, false, ◌||◌, ◌&&◌, List, [], ◌∷◌, ◌++◌, length, get_or, take, drop, min, All, ap, ◌∙◌, arith, inl, inr, rules}
use Rattle.std.proofs.lemmas.Bool.{cases_lt, or_from, eq-eqb}
use Rattle.std.proofs.lemmas.List.{length-map, get_or-map, get_or-drop, get_or-take, get_or_default, drop_more, drop_min, length-drop, length-take, take_all, take_min}
use Rattle.std.proofs.lemmas.Grind.{common_steps}
use Rattle.std.proofs.Math.Bool.{or-false}
use Rattle.lane_board.specs.Lanes.{has_bit}
use Rattle.tails.specs.declared.block.Block.{Block}
use Rattle.tails.specs.Blocks.{have_parts, IsRising, IsBlock, keys_of, KeysRise}
use Rattle.tails.proofs.PartLemmas.{no_block, parts-absent, parts-cut, parts-first, has_part}

pub keys-length : (blocks : List Block) → length (keys_of blocks) ≡ length blocks
unfolding keys_of
keys-length blocks = length-map blocks (λ block. block.key)

pub key-at : (blocks : List Block) (i : ℕ) (d : Block) → i < length blocks → get_or (keys_of blocks) i 0 ≡ (get_or blocks i d).key
unfolding keys_of
key-at blocks i d below = get_or-map (λ block. block.key) blocks i d 0 below

-- each number is below a bound
abbrev pub AllBelow : List ℕ → ℕ → Type 0
AllBelow xs bound = (i : ℕ) → i < length xs → get_or xs i 0 < bound

pub rising-push : (xs : List ℕ) (y : ℕ) → IsRising xs → AllBelow xs y → IsRising (xs ++ y ∷ [])
rising-push xs y up all i j before within = grind (arith, common_steps, up i j before, all i)

-- each key is below each later one
pub rises-at : (blocks : List Block) (i j : ℕ) (d e : Block) → KeysRise blocks → i < j → j < length blocks → (get_or blocks i d).key < (get_or blocks j e).key
rises-at blocks i j d e up before below =
    let step : get_or (keys_of blocks) i 0 < get_or (keys_of blocks) j 0 = up i j before (omega (arith, keys-length blocks)) in
    omega (arith, step, key-at blocks i d (omega arith), key-at blocks j e below)

pub rises-from : (blocks : List Block) (d : Block) → ((i j : ℕ) → i < j → j < length blocks → (get_or blocks i d).key < (get_or blocks j d).key) → KeysRise blocks
rises-from blocks d up i j before below =
    let within : j < length blocks = omega (arith, keys-length blocks, below) in
    let step = up i j before within in
    omega (arith, step, key-at blocks i d (omega arith), key-at blocks j d within)

-- the first blocks, and the others
pub keys_rise-take : (blocks : List Block) (n : ℕ) → KeysRise blocks → KeysRise (take n blocks)
keys_rise-take blocks n up = rises-from (take n blocks) no_block (λ i j before within.
    let size = length-take n blocks in
    let low : j < n = omega (arith, size, within) in
    let step = rises-at blocks i j no_block no_block up before (omega (arith, size, within)) in
    let one = ap (λ (b : Block). b.key) (get_or-take n blocks i no_block (omega (arith, before, low))) in
    let two = ap (λ (b : Block). b.key) (get_or-take n blocks j no_block low) in
    omega (arith, step, one, two))

pub keys_rise-drop : (blocks : List Block) (n : ℕ) → KeysRise blocks → KeysRise (drop n blocks)
keys_rise-drop blocks n up = rises-from (drop n blocks) no_block (λ i j before within.
    let size = length-drop n blocks in
    let step = rises-at blocks (n + i) (n + j) no_block no_block up (omega (arith, before)) (omega (arith, size, within)) in
    let one = ap (λ (b : Block). b.key) (get_or-drop n blocks i no_block) in
    let two = ap (λ (b : Block). b.key) (get_or-drop n blocks j no_block) in
    omega (arith, step, one, two))

-- the first blocks up to a cut, and the others
pub before-cut : (blocks slice first : List Block) (count cut : ℕ) → first ≡ take cut slice → slice ≡ blocks → cut ≡ min count (length blocks) → first ≡ take count blocks
before-cut blocks slice first count cut is same at = is ∙ ap (take cut) same ∙ ap (λ n. take n blocks) at ∙ take_min count blocks

pub behind-cut : (blocks slice others : List Block) (count cut : ℕ) → others ≡ take (length slice - cut) (drop cut slice) → slice ≡ blocks → cut ≡ min count (length blocks) → others ≡ drop count blocks
behind-cut blocks slice others count cut is same at =
    is ∙ take_all (length slice - cut) (drop cut slice) (omega (arith, length-drop cut slice)) ∙ ap (drop cut) same ∙ ap (λ n. drop n blocks) at ∙ drop_min count blocks

-- the keys before an index are below this one
pub record IsPassed (blocks : List Block) (next key : ℕ) : Type 0 where
  pub below : (k : ℕ) (d : Block) → k < next → (get_or blocks k d).key < key
  pub within : next ≤ length blocks

pub passed-none : (blocks : List Block) (key : ℕ) → IsPassed blocks 0 key
passed-none blocks key = record { below = λ k d early. absurd (omega arith); within = omega arith }

pub passed-before : (blocks : List Block) (next key : ℕ) (d : Block) → KeysRise blocks → 0 < next → next ≤ length blocks → (get_or blocks (next - 1) d).key < key
    → IsPassed blocks next key
passed-before blocks next key d up some within less = record {
  below = λ k e early. elim (cases_lt k (next - 1)) [
    | inl before ↦ let step = rises-at blocks k (next - 1) e d up before (omega arith) in omega arith
    | inr here ↦ let same : k ≡ next - 1 = omega arith in search (rules, get_or_default)
  ];
  within = within;
}

pub keys_rise-none : (blocks : List Block) → blocks ≡ [] → KeysRise blocks
keys_rise-none blocks none i j before below = absurd (omega (arith, below, keys-length blocks, ap length none))

pub each-none : (blocks : List Block) → blocks ≡ [] → All IsBlock blocks
each-none blocks none k d below = absurd (omega (arith, below, ap length none))

pub parts-passed : (blocks : List Block) (next key bit : ℕ) → IsPassed blocks next key → have_parts (take next blocks) key bit ≡ false
parts-passed blocks next key bit passed = parts-absent (take next blocks) key bit (λ k d below same.
    let size = length-take next blocks in
    let less = passed.below k d (omega (arith, below)) in
    let is : get_or (take next blocks) k d ≡ get_or blocks k d = get_or-take next blocks k d (omega (arith, below)) in
    let key_is : (get_or (take next blocks) k d).key ≡ (get_or blocks k d).key = ap (λ (b : Block). b.key) is in
    omega (arith, same))

pub parts-after : (blocks : List Block) (from key bit : ℕ) → KeysRise blocks → ((d : Block) → from < length blocks → key < (get_or blocks from d).key) → have_parts (drop from blocks) key bit ≡ false
parts-after blocks from key bit up first = parts-absent (drop from blocks) key bit (λ k d below same.
    let size = length-drop from blocks in
    let is : get_or (drop from blocks) k d ≡ get_or blocks (from + k) d = get_or-drop from blocks k d in
    let key_is : (get_or (drop from blocks) k d).key ≡ (get_or blocks (from + k) d).key = ap (λ (b : Block). b.key) is in
    let more : key < (get_or blocks (from + k) d).key =
    elim (cases_lt 0 k) [
      | inl later ↦ let step = rises-at blocks from (from + k) d d up (omega arith) (omega (arith, below)) in let here = first d (omega (arith, below)) in omega arith
      | inr here ↦ let same_index : from ≡ from + k = omega arith in let at = first d (omega (arith, below)) in rw (← same_index) at
    ] in
    omega (arith, same))

-- no block has the key
pub parts-missing : (blocks : List Block) (next key bit : ℕ) → KeysRise blocks → IsPassed blocks next key → ((d : Block) → next < length blocks → key < (get_or blocks next d).key)
    → have_parts blocks key bit ≡ false
parts-missing blocks next key bit up passed first =
    parts-cut blocks next key bit ∙ or_from _ _ (parts-passed blocks next key bit passed) (parts-after blocks next key bit up first)

same_part : (block : Block) (key bit : ℕ) → block.key ≡ key → has_part block key bit ≡ has_bit block.bits bit
same_part block key bit same = ap (λ b. b && has_bit block.bits bit) (eq-eqb block.key key same)

-- the block at an index has the key
pub parts-here : (blocks : List Block) (next key bit : ℕ) (d : Block) → KeysRise blocks → IsPassed blocks next key → next < length blocks → (get_or blocks next d).key ≡ key
    → have_parts blocks key bit ≡ has_bit (get_or blocks next d).bits bit
parts-here blocks next key bit d up passed below same =
    parts-cut blocks next key bit
    ∙ ap (λ b. b || have_parts (drop next blocks) key bit) (parts-passed blocks next key bit passed)
    ∙ ap (λ l. have_parts l key bit) (drop_more blocks next d below)
    ∙ parts-first (get_or blocks next d) (drop (next + 1) blocks) key bit
    ∙ ap (λ b. has_part (get_or blocks next d) key bit || b)
    (parts-after blocks (next + 1) key bit up (λ e more. let step = rises-at blocks next (next + 1) d e up (omega arith) more in omega arith))
    ∙ or-false _
    ∙ same_part (get_or blocks next d) key bit same

-- where the search stops the key isn't there
pub parts-stopped : (blocks : List Block) (next key bit : ℕ) (d : Block) → KeysRise blocks → IsPassed blocks next key
    → (next < length blocks → key ≤ (get_or blocks next d).key) → (next < length blocks → (get_or blocks next d).key ≢ key) → have_parts blocks key bit ≡ false
parts-stopped blocks next key bit d up passed reached other = parts-missing blocks next key bit up passed (λ e below.
    let is : get_or blocks next d ≡ get_or blocks next e = get_or_default blocks next d e below in
    let key_is : (get_or blocks next d).key ≡ (get_or blocks next e).key = ap (λ (b : Block). b.key) is in
    let le = reached below in
    let ne = other below in
    omega arith)
