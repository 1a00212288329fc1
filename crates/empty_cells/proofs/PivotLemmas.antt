-- Words of pivots: each placement of a piece has a bit of its own.
use Rattle.std.proofs.Common.{◌≡◌, ◌≢◌, ℕ, ◌+◌, ◌*◌, ◌/◌, ◌%◌, ◌^◌, ◌<◌, ◌≤◌, true, false, ◌&&◌, ◌||◌, ◌==◌, nat_lt, bit_or, List, length, replicate, set, get_or, arith, rules}
use Rattle.std.proofs.lemmas.Bool.{both_ways, cases_eq, cases_lt, and_parts, and_from, or_cases, or_left, or_right, eq-eqb, eqb-true, lt-ltb, ltb-true}
use Rattle.std.proofs.lemmas.List.{get_or-replicate, get_or-set_same, get_or-set_other, get_or_past}
use Rattle.lane_board.specs.Lanes.{has_bit}
use Rattle.lane_board.specs.Words.{cells_of_words}
use Rattle.lane_board.proofs.CallerLemmas.{has_bit-or, has_bit-zero}
use Rattle.srs.specs.declared.placement.Placement.{Placement}
use Rattle.srs.specs.declared.rotation.Rotation.{Rotation}
use Rattle.srs.specs.Rotation.{rotation_index}
use Rattle.srs.proofs.CallerLemmas.{rotation_index-injective, rotation_index-small}
use Rattle.empty_cells.specs.declared.pivot_words.PivotWords.{PivotWords}
use Rattle.empty_cells.specs.PivotWords.{has_placement}
use Rattle.empty_cells.proofs.SentLemmas.{one_bit}

-- the word of a placement, and the index of its bit there
abbrev pub word_of : Placement → ℕ
word_of q = 2 * rotation_index q.rotation + q.y / 4

abbrev pub bit_of : Placement → ℕ
bit_of q = 16 * (q.y % 4) + q.x

abbrev pub bits_at : List ℕ → Placement → ℕ
bits_at words q = get_or words (word_of q) 0

-- one bit more in the word of a placement
abbrev pub with_bit : List ℕ → ℕ → ℕ → List ℕ
with_bit words word bit = set words word (bit_or (get_or words word 0) (1 * 2 ^ bit % 2 ^ 64))

module _ (p : PivotWords) (whole : length p.rotations ≡ 8) (q : Placement) (column : q.x ≤ 9) (row : q.y ≤ 7)
    (word bit : ℕ) (is_word : word ≡ word_of q) (is_bit : bit ≡ bit_of q) where
  abbrev pub after : PivotWords
  after = record { rotations = with_bit p.rotations word bit }

  within : word < length p.rotations
  within = omega (arith, whole, is_word, rotation_index-small q.rotation)

  in_reach : (r : Placement) → (nat_lt r.x 16 && nat_lt r.y 8) ≡ true → (r.x < 16) × (r.y < 8)
  in_reach r is = let sides = and_parts (nat_lt r.x 16) (nat_lt r.y 8) is in (ltb-true r.x 16 sides.0, ltb-true r.y 8 sides.1)

  bits_here : (r : Placement) → word_of r ≡ word → r.x < 16 → r.y < 8 →
      has_bit (bits_at (with_bit p.rotations word bit) r) (bit_of r) ≡ (has_bit (bits_at p.rotations r) (bit_of r) || (bit == bit_of r))
  bits_here r same narrow low = search (rules, get_or-set_same, within, has_bit-or, (one_bit 64))

  bits_there : (r : Placement) → word_of r ≢ word → bits_at (with_bit p.rotations word bit) r ≡ bits_at p.rotations r
  bits_there r other = get_or-set_other p.rotations word (word_of r) _ 0 other

  pub has_added : has_placement after q ≡ true
  unfolding has_placement cells_of_words
  has_added = search (rules, and_from, lt-ltb, bits_here, or_right, eq-eqb)

  pub keeps_added : (r : Placement) → has_placement p r ≡ true → has_placement after r ≡ true
  unfolding has_placement cells_of_words
  keeps_added r has = search (rules, (in_reach r), (and_parts (nat_lt r.x 16 && nat_lt r.y 8)), and_from, (cases_eq (word_of r)), (bits_here r), or_left, (bits_there r))

  pub only_added : (r : Placement) → r.piece ≡ q.piece → has_placement after r ≡ true → has_placement p r ≡ false → r ≡ q
  unfolding has_placement cells_of_words
  only_added r piece has none =
      search (rules, (and_parts (nat_lt r.x 16 && nat_lt r.y 8)), (cases_eq (word_of r)), or_cases, (bits_here r), (in_reach r), both_ways, and_from, eqb-true, rotation_index-injective, (bits_there r))

-- no word of these has a bit
pub no_words : (k : ℕ) → get_or {A = ℕ} (replicate 8 0) k 0 ≡ 0
no_words k = search (rules, cases_lt, get_or-replicate, get_or_past)

-- words without a bit have no placement
pub no_pivot : (words : List ℕ) (rotation : Rotation) (x y : ℕ) → get_or words (2 * rotation_index rotation + y / 4) 0 ≡ 0 → cells_of_words words (rotation_index rotation) x y ≡ false
unfolding cells_of_words
no_pivot words rotation x y none = search (rules, has_bit-zero)
