-- A block that is put where its key belongs.
use Rattle.std.proofs.Common.{ℕ, ◌≡◌, ◌≢◌, ◌+◌, ◌-◌, ◌<◌, ◌≤◌, suc, Bool, true, false, ◌||◌, ◌&&◌, ◌==◌, if◌then◌else◌, List, [], ◌∷◌, ◌++◌, length, get_or, set, take, drop, All, Result, Ok, Err, refl, sym, ap, subst, ◌∙◌, add-one, arith, inl, inr, rules, ◌%◌, ◌^◌}
use Rattle.std.specs.List.{insert}
use Rattle.std.specs.Result.{OnErr}
use Rattle.std.proofs.lemmas.Bool.{cases_lt, and_right}
use Rattle.std.proofs.lemmas.List.{drop_more, get_or_read, map-set, map_push, set-get_or, set_split}
use Rattle.std.proofs.lemmas.List.Edits.{get_or-insert_below, get_or-insert_at, get_or-insert_above, length-insert}
use Rattle.std.proofs.lemmas.List.Elements.{All-append, All-cons, All-drop, All-push, All-set, All-take}
use Rattle.lane_board.specs.Lanes.{has_bit}
use Rattle.lane_board.proofs.CallerLemmas.{has_bit-zero, same_from_columns}
use Rattle.tails.specs.declared.block.Block.{Block}
use Rattle.tails.specs.Blocks.{have_parts, in_block, IsBlock, IsRising, keys_of, KeysRise}
use Rattle.tails.proofs.OrderLemmas.{key-at, keys-length, passed-before, rises-at, rises-from, rising-push}
use Rattle.tails.proofs.PartLemmas.{has_part, parts-append, parts-cut, parts-first}

-- no key from an index on is below this one
pub record IsReached (blocks : List Block) (index key : ℕ) : Type 0 where
  pub above : (k : ℕ) (d : Block) → index ≤ k → k < length blocks → key ≤ (get_or blocks k d).key
  pub within : index < length blocks

-- before the last block
pub at-last : (blocks : List Block) (last key : ℕ) → 0 < length blocks → last ≡ length blocks - 1 → key < get_or (keys_of blocks) (length blocks - 1) 0 → IsReached blocks last key
at-last blocks last key some last_is less = record {
  above = λ k d from below.
      let same : k ≡ length blocks - 1 = omega arith in
      omega (arith, less, ap (λ n. get_or (keys_of blocks) n 0) same, key-at blocks k d below);
  within = omega arith;
}

pub before-last : (blocks : List Block) (last key : ℕ) (test other : Block) → 0 < length blocks → last ≡ length blocks - 1 → test ≡ get_or blocks last test → key ≤ test.key
    → other ≡ get_or blocks last other → (other.key ≡ key → ⊥) → key < get_or (keys_of blocks) (length blocks - 1) 0
before-last blocks last key test other some last_is test_is least other_is differs =
    let within : last < length blocks = omega arith in
    let one : (get_or blocks last test).key ≡ test.key = ap (λ (b : Block). b.key) (sym test_is) in
    let two : (get_or blocks last test).key ≡ other.key = ap (λ (b : Block). b.key) (sym (get_or_read blocks last other within other_is test)) in
    let ne : other.key ≢ key = differs in
    omega (arith, one, two, key-at blocks last test within, ap (λ n. get_or (keys_of blocks) n 0) last_is)

pub is_block : (block : Block) → block.key < 2 ^ 58 → block.bits < 2 ^ 64 → (block.bits ≡ 0 → ⊥) → IsBlock block
is_block block fits few some = record { fits = fits; few = few; some = some }

-- behind the last block
pub keys_rise-push : (blocks new : List Block) (block : Block) (done : Bool) → KeysRise blocks → ((k : ℕ) (d : Block) → k < length blocks → (get_or blocks k d).key < block.key)
    → new ≡ (if done then blocks ++ block ∷ [] else blocks) → KeysRise new
unfolding keys_of
keys_rise-push blocks new block false up low is = subst KeysRise (sym is) up
keys_rise-push blocks new block true up low is = subst KeysRise (sym is) (pushed blocks block up low)
  where
    pushed : (blocks : List Block) (block : Block) → KeysRise blocks → ((k : ℕ) (d : Block) → k < length blocks → (get_or blocks k d).key < block.key) → KeysRise (blocks ++ block ∷ [])
    pushed blocks block up low =
        rw (map_push (λ (b : Block). b.key) blocks block)
        (rising-push (keys_of blocks) block.key up (λ k below.
        let within : k < length blocks = omega (arith, below, keys-length blocks) in
        let less = low k block within in
        omega (arith, key-at blocks k block within)))

pub each-push : (blocks new : List Block) (block : Block) (done : Bool) → All IsBlock blocks → IsBlock block → new ≡ (if done then blocks ++ block ∷ [] else blocks) → All IsBlock new
each-push blocks new block false each is_one is = subst (All IsBlock) (sym is) each
each-push blocks new block true each is_one is = subst (All IsBlock) (sym is) (All-push IsBlock blocks block each is_one)

-- before a block
rises-insert : (blocks : List Block) (i : ℕ) (x : Block) → KeysRise blocks → i ≤ length blocks → ((k : ℕ) (d : Block) → k < i → (get_or blocks k d).key < x.key)
    → ((k : ℕ) (d : Block) → i ≤ k → k < length blocks → x.key < (get_or blocks k d).key) → KeysRise (insert blocks i x)
rises-insert blocks i x up within low high = rises-from (insert blocks i x) x rises
  where
    size : length (insert blocks i x) ≡ length blocks + 1
    size = length-insert blocks i x within

    key-below : (k : ℕ) → k < i → (get_or (insert blocks i x) k x).key ≡ (get_or blocks k x).key
    key-below k early = ap (λ (b : Block). b.key) (get_or-insert_below blocks i x x k early within)

    key-here : (k : ℕ) → k ≡ i → (get_or (insert blocks i x) k x).key ≡ x.key
    key-here k same = ap (λ n. (get_or (insert blocks i x) n x).key) same ∙ ap (λ (b : Block). b.key) (get_or-insert_at blocks i x x within)

    key-above : (k : ℕ) → i < k → (get_or (insert blocks i x) k x).key ≡ (get_or blocks (k - 1) x).key
    key-above k late =
        let back : k - 1 + 1 ≡ k = omega arith in
        ap (λ n. (get_or (insert blocks i x) n x).key) (sym back) ∙ ap (λ (b : Block). b.key) (get_or-insert_above blocks i x x (k - 1) (omega arith) within)

    rises : (m n : ℕ) → m < n → n < length (insert blocks i x) → (get_or (insert blocks i x) m x).key < (get_or (insert blocks i x) n x).key
    rises m n before below = elim (cases_lt n i) [
      | inl early ↦ let step = rises-at blocks m n x x up before (omega (arith, within)) in omega (arith, key-below m (omega arith), key-below n early)
      | inr late ↦ elim (cases_lt i n) [
        | inr here ↦ let less = low m x (omega arith) in omega (arith, key-below m (omega arith), key-here n (omega arith))
        | inl above ↦
            let inside : n - 1 < length blocks = omega (arith, below, size) in
            let more = high (n - 1) x (omega arith) inside in
            elim (cases_lt m i) [
              | inl early ↦ let less = low m x early in omega (arith, key-below m early, key-above n above)
              | inr not_early ↦ elim (cases_lt i m) [
                | inr here ↦ omega (arith, key-here m (omega arith), key-above n above)
                | inl later ↦ let step = rises-at blocks (m - 1) (n - 1) x x up (omega arith) inside in omega (arith, key-above m later, key-above n above)
              ]
            ]
      ]
    ]

pub keys_rise-insert : (blocks new : List Block) (i : ℕ) (x : Block) (done : Bool) → KeysRise blocks → i ≤ length blocks → ((k : ℕ) (d : Block) → k < i → (get_or blocks k d).key < x.key)
    → ((k : ℕ) (d : Block) → i ≤ k → k < length blocks → x.key < (get_or blocks k d).key) → new ≡ (if done then insert blocks i x else blocks) → KeysRise new
keys_rise-insert blocks new i x false up within low high is = subst KeysRise (sym is) up
keys_rise-insert blocks new i x true up within low high is = subst KeysRise (sym is) (rises-insert blocks i x up within low high)

pub each-insert : (blocks new : List Block) (i : ℕ) (x : Block) (done : Bool) → All IsBlock blocks → IsBlock x → new ≡ (if done then insert blocks i x else blocks) → All IsBlock new
each-insert blocks new i x false each is_one is = subst (All IsBlock) (sym is) each
each-insert blocks new i x true each is_one is =
    subst (All IsBlock) (sym is)
    (All-append IsBlock (take i blocks) (x ∷ drop i blocks) (All-take IsBlock i blocks each) (All-cons IsBlock x (drop i blocks) is_one (All-drop IsBlock i blocks each)))

or_between : (a e b : Bool) → (a || (e || b)) ≡ ((a || b) || e)
or_between a e b = search rules

pub parts-insert : (blocks : List Block) (i : ℕ) (x : Block) (key bit : ℕ) → have_parts (insert blocks i x) key bit ≡ (have_parts blocks key bit || has_part x key bit)
parts-insert blocks i x key bit =
    parts-append (take i blocks) (x ∷ drop i blocks) key bit
    ∙ ap (λ b. have_parts (take i blocks) key bit || b) (parts-first x (drop i blocks) key bit)
    ∙ or_between (have_parts (take i blocks) key bit) (has_part x key bit) (have_parts (drop i blocks) key bit)
    ∙ ap (λ b. b || has_part x key bit) (sym (parts-cut blocks i key bit))

-- in a block with the same key
pub keys_rise-set : (blocks : List Block) (i : ℕ) (x d : Block) → KeysRise blocks → i < length blocks → x.key ≡ (get_or blocks i d).key → KeysRise (set blocks i x)
unfolding keys_of
keys_rise-set blocks i x d up within same = subst IsRising (sym keys) up
  where
    keys : keys_of (set blocks i x) ≡ keys_of blocks
    keys =
        map-set (λ (b : Block). b.key) blocks i x
        ∙ ap (set (keys_of blocks) i) (same ∙ sym (key-at blocks i d within))
        ∙ set-get_or (keys_of blocks) i 0

-- the block of both
pub is_both : (one other both : Block) → IsBlock one → both.bits < 2 ^ 64 → both.key ≡ one.key
    → ((k : ℕ) → has_bit both.bits k ≡ (has_bit one.bits k || has_bit other.bits k)) → IsBlock both
is_both one other both is_one few key_is either = record {
  fits = subst (λ key. key < 2 ^ 58) (sym key_is) is_one.fits;
  few = few;
  some = λ none. is_one.some (same_from_columns one.bits 0 (λ k. first_none _ _ (sym (either k) ∙ ap (λ n. has_bit n k) none ∙ has_bit-zero k) ∙ sym (has_bit-zero k)));
}
  where
    first_none : (a b : Bool) → (a || b) ≡ false → a ≡ false
    first_none a b none = search rules

or_within : (a q s t c : Bool) → (a || ((q && (s || t)) || c)) ≡ ((a || ((q && s) || c)) || (q && t))
or_within true q s t c = refl
or_within false false s t true = refl
or_within false false s t false = refl
or_within false true true t c = refl
or_within false true false true true = refl
or_within false true false true false = refl
or_within false true false false true = refl
or_within false true false false false = refl

pub parts-set : (blocks : List Block) (i : ℕ) (d other both : Block) (key bit : ℕ) → i < length blocks → (get_or blocks i d).key ≡ other.key → both.key ≡ (get_or blocks i d).key
    → ((k : ℕ) → has_bit both.bits k ≡ (has_bit (get_or blocks i d).bits k || has_bit other.bits k))
    → have_parts (set blocks i both) key bit ≡ (have_parts blocks key bit || has_part other key bit)
parts-set blocks i d other both key bit within same key_is either =
    let one = get_or blocks i d in
    let front = have_parts (take i blocks) key bit in
    let back = have_parts (drop (i + 1) blocks) key bit in
    let old : have_parts blocks key bit ≡ (front || (has_part one key bit || back)) =
    parts-cut blocks i key bit ∙ ap (λ l. front || have_parts l key bit) (drop_more blocks i d within) ∙ ap (λ b. front || b) (parts-first one (drop (i + 1) blocks) key bit) in
    let new : have_parts (set blocks i both) key bit ≡ (front || (has_part both key bit || back)) =
    ap (λ l. have_parts l key bit) (set_split blocks i both within)
    ∙ parts-append (take i blocks) (both ∷ drop (suc i) blocks) key bit
    ∙ ap (λ b. front || b) (parts-first both (drop (suc i) blocks) key bit)
    ∙ ap (λ n. front || (has_part both key bit || have_parts (drop n blocks) key bit)) (sym (add-one i)) in
    let both_is : has_part both key bit ≡ ((other.key == key) && (has_bit one.bits bit || has_bit other.bits bit)) =
    (λ j. ((key_is ∙ same) j == key) && either bit j) in
    let one_is : has_part one key bit ≡ ((other.key == key) && has_bit one.bits bit) = (λ j. (same j == key) && has_bit one.bits bit) in
    new ∙ ap (λ b. front || (b || back)) both_is
    ∙ or_within front (other.key == key) (has_bit one.bits bit) (has_bit other.bits bit) back
    ∙ ap (λ b. (front || (b || back)) || has_part other key bit) (sym one_is)
    ∙ ap (λ b. b || has_part other key bit) (sym old)

pub or_false : (a b : Bool) → b ≡ false → a ≡ (a || b)
or_false a b none = search rules

pub where-refused : {T E P : Type 0} (r : Result T E) → P → OnErr r P
where-refused (Ok _) fact = tt
where-refused (Err _) fact = fact

-- a block at an index, and one with its key and the bits of both
pub record Joins (blocks : List Block) (i : ℕ) (d other both : Block) : Type 0 where
  pub within : i < length blocks
  pub same : (get_or blocks i d).key ≡ other.key
  pub key_is : both.key ≡ (get_or blocks i d).key
  pub few : both.bits < 2 ^ 64
  pub either : (k : ℕ) → has_bit both.bits k ≡ (has_bit (get_or blocks i d).bits k || has_bit other.bits k)

pub joins : (blocks : List Block) (i : ℕ) (d read test other : Block) (bits : ℕ) → i < length blocks → d ≡ get_or blocks i d → read ≡ get_or blocks i read → test ≡ get_or blocks i test
    → test.key ≡ other.key → bits < 2 ^ 64 → ((k : ℕ) → has_bit bits k ≡ (has_bit read.bits k || has_bit other.bits k))
    → Joins blocks i d other (record { key = d.key; bits = bits })
joins blocks i d read test other bits within d_is read_is test_is same few either = record {
  within = within;
  same = ap (λ (b : Block). b.key) (sym (get_or_read blocks i test within test_is d)) ∙ same;
  key_is = ap (λ (b : Block). b.key) d_is;
  few = few;
  either = λ k. either k ∙ ap (λ (b : Block). has_bit b.bits k || has_bit other.bits k) (get_or_read blocks i read within read_is d);
}

pub joined-order : (blocks : List Block) (i : ℕ) (d other both : Block) → KeysRise blocks → Joins blocks i d other both → KeysRise (set blocks i both)
joined-order blocks i d other both up join = keys_rise-set blocks i both d up join.within join.key_is

pub joined-each : (blocks : List Block) (i : ℕ) (d other both : Block) → All IsBlock blocks → Joins blocks i d other both → All IsBlock (set blocks i both)
joined-each blocks i d other both each join =
    All-set IsBlock blocks i both (is_both (get_or blocks i d) other both (each i d join.within) join.few join.key_is join.either) each

pub joined-parts : (blocks : List Block) (i : ℕ) (d other both : Block) (key bit : ℕ) → Joins blocks i d other both
    → have_parts (set blocks i both) key bit ≡ (have_parts blocks key bit || has_part other key bit)
joined-parts blocks i d other both key bit join = parts-set blocks i d other both key bit join.within join.same join.key_is join.either

-- the keys from an index on are above one that isn't there
pub above-all : (blocks : List Block) (index key : ℕ) (test : Block) → KeysRise blocks → IsReached blocks index key → test ≡ get_or blocks index test → (test.key ≡ key → ⊥)
    → (k : ℕ) (d : Block) → index ≤ k → k < length blocks → key < (get_or blocks k d).key
above-all blocks index key test up reached test_is other k d from below = elim (cases_lt index k) [
  | inl later ↦ let step = rises-at blocks index k d d up later below in let le = reached.above index d (omega arith) (omega arith) in omega arith
  | inr here ↦
      let le = reached.above k d from below in
      let same : k ≡ index = omega arith in
      let at : get_or blocks k d ≡ test = ap (λ n. get_or blocks n d) same ∙ sym (get_or_read blocks index test reached.within test_is d) in
      let key_is : (get_or blocks k d).key ≡ test.key = ap (λ (b : Block). b.key) at in
      let ne : test.key ≢ key = other in
      omega arith
]

-- the keys before an index are below one that the key before it is below
pub low-before : (blocks : List Block) (index last key : ℕ) (test : Block) → KeysRise blocks → 0 < index → index ≤ length blocks → last + 1 ≡ index → test ≡ get_or blocks last test → test.key < key
    → (k : ℕ) (d : Block) → k < index → (get_or blocks k d).key < key
low-before blocks index last key test up some within last_is test_is less k d early =
    let same : last ≡ index - 1 = omega arith in
    let at : test ≡ get_or blocks (index - 1) test = test_is ∙ ap (λ n. get_or blocks n test) same in
    let at_key : test.key ≡ (get_or blocks (index - 1) test).key = ap (λ (b : Block). b.key) at in
    (passed-before blocks index key test up some within (omega arith)).below k d early

pub none-in : (block : Block) (tail : ℕ) → block.bits ≡ 0 → in_block block tail ≡ false
unfolding in_block
none-in block tail none = and_right _ _ (ap (λ n. has_bit n (tail % 64)) none ∙ has_bit-zero (tail % 64))
