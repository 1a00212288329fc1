-- Placements in low rows, by the words that have their pivots.
use Rattle.std.proofs.Common.{◌≡◌, ◌≢◌, ◌↔◌, ℕ, zero, suc, ◌+◌, ◌-◌, ◌*◌, ◌/◌, ◌%◌, ◌<◌, ◌≤◌, true, false, nat_lt, ◌&&◌, not, ◌==◌, Option, Some, None, List, length, set, get_or, ◌⊎◌, refl, sym, ap, ◌∙◌, inl, inr, arith, rules}
use Rattle.std.specs.Prelude.{IsTrue}
use Rattle.std.proofs.lemmas.Bool.{and_parts, and_from, both_ways, cases_Bool, cases_eq, cases_lt, cases_order, eq-eqb, eqb-true, lt-ltb, ltb-true, ne_eqb, not-true, not_from_false, false_from_ne_true}
use Rattle.std.proofs.Math.Bool.{and-true}
use Rattle.lane_board.specs.Lanes.{has_bit}
use Rattle.lane_board.specs.Words.{cells_of_words}
use Rattle.lane_board.proofs.CallerLemmas.{has_bit-zero, same_from_both}
use Rattle.srs.specs.declared.piece.Piece.{Piece}
use Rattle.srs.specs.declared.rotation.Rotation.{Rotation}
use Rattle.srs.specs.declared.rotation.Rotation.TheVariants.{Spawn, Right, Reverse, Left}
use Rattle.srs.specs.declared.placement.Placement.{Placement}
use Rattle.srs.specs.Order.{placement_cmp}
use Rattle.srs.specs.Piece.{piece_code}
use Rattle.srs.specs.Rotation.{rotation_index}
use Rattle.srs.proofs.CallerLemmas.{piece_code-injective, rotation_index-injective, rotation_index-small}
use Rattle.srs.specs.Rising.{IsNextAbove}
use Rattle.well.specs.LockLaws.{is_below}
use Rattle.place_sets.specs.States.{HasExactly, IsUnder, States, has_state}
use Rattle.place_sets.specs.declared.low_held.LowPlaces.{LowPlaces}
use Rattle.lane_board.specs.LowestBit.{IsLowestBit}
use Rattle.place_sets.specs.LowPlaces.{holds, piece_of}
use Rattle.place_sets.specs.Scan.{state_number}
use Rattle.place_sets.specs.Tops.{rows_over_pivot}
use Rattle.place_sets.proofs.FieldLemmas.{LiesWithin}
use Rattle.place_sets.proofs.ScanLemmas.{number_less}
use Rattle.place_sets.proofs.TakeLemmas.{below_by_pivot}

-- each of eight words
pub each_word : (P : ℕ → Type 0) → P 0 → P 1 → P 2 → P 3 → P 4 → P 5 → P 6 → P 7 → (w : ℕ) → w < 8 → P w
each_word P a b c d e f g h h9 small = search rules

-- the word and the bit of a cell
abbrev pub word_of : ℕ → ℕ → ℕ
word_of index y = 2 * index + y / 4

abbrev pub bit_of : ℕ → ℕ → ℕ
bit_of x y = 16 * (y % 4) + x

module _ (words : List ℕ) (index x y : ℕ) where
  pub cell-parts : cells_of_words words index x y ≡ true → (x < 16) × (y < 8) × (has_bit (get_or words (word_of index y) 0) (bit_of x y) ≡ true)
  unfolding cells_of_words
  cell-parts has = search (rules, and_parts, ltb-true)

  pub cell-from : x < 16 → y < 8 → has_bit (get_or words (word_of index y) 0) (bit_of x y) ≡ true → cells_of_words words index x y ≡ true
  unfolding cells_of_words
  cell-from column row has = and_from _ _ (and_from _ _ (lt-ltb x 16 column) (lt-ltb y 8 row)) has

module _ (places : LowPlaces) where
  pub low_holds-parts : (q : Placement) → IsTrue (holds places q) → (q.piece ≡ piece_of places) × (cells_of_words places.words (rotation_index q.rotation) q.x q.y ≡ true)
  unfolding holds
  low_holds-parts q held = search (rules, and_parts, piece_code-injective, eqb-true)

  pub low_holds-from : (q : Placement) → q.piece ≡ piece_of places → cells_of_words places.words (rotation_index q.rotation) q.x q.y ≡ true → IsTrue (holds places q)
  unfolding holds
  low_holds-from q kind held = and_from _ _ (eq-eqb _ _ (ap (λ (p : Piece). piece_code p) kind)) held

-- where all words are empty, nothing is held
pub low_none : (places : LowPlaces) → ((w : ℕ) → w < 8 → get_or places.words w 0 ≡ 0) → (q : Placement) → IsTrue (holds places q) → ⊥
low_none places empty q held =
    search (rules, both_ways, (has_bit-zero (bit_of q.x q.y)), (rotation_index-small q.rotation), (cell-parts places.words (rotation_index q.rotation) q.x q.y (low_holds-parts places q held).1))

-- the placement of a bit
pub record IsAt (piece : Piece) (at bit : ℕ) (s : Placement) : Type 0 where
  pub kind : s.piece ≡ piece
  pub rotation : rotation_index s.rotation ≡ at / 2
  pub row : s.y ≡ 4 * (at % 2) + bit / 16
  pub column : s.x ≡ bit % 16

-- it is the one of its piece with its word and its bit
pub same_place : (piece : Piece) (at bit : ℕ) (s q : Placement) → bit < 64 → IsAt piece at bit s → q.piece ≡ piece → q.x < 16 → q.y < 8 → word_of (rotation_index q.rotation) q.y ≡ at → bit_of q.x q.y ≡ bit → s ≡ q
same_place piece at bit s q within is kind narrow low word index = search (rules, rotation_index-injective)

-- the lowest bit of the first word that has one
module _ (places : LowPlaces) (at bit : ℕ) (small : at < 8) (within : bit < 64) (before : (w : ℕ) → w < at → get_or places.words w 0 ≡ 0)
    (lowest : IsLowestBit (get_or places.words at 0) bit) (s : Placement) (is : IsAt (piece_of places) at bit s) where
  first_held : IsTrue (holds places s)
  first_held = search (rules, (low_holds-from places), (cell-from places.words))

  comes_later : (q : Placement) → IsTrue (holds places q) → state_number s ≤ state_number q
  comes_later q held =
      let cell = cell-parts places.words (rotation_index q.rotation) q.x q.y (low_holds-parts places q held).1 in
      let word = word_of (rotation_index q.rotation) q.y in
      elim (cases_order word at) [
        | inl same ↦ search rules
        | inr apart ↦ search (rules, both_ways, has_bit-zero)
      ]

  pub low_least : IsNextAbove placement_cmp (λ q. IsTrue (holds places q)) None (Some s)
  low_least = record {
    member = first_held;
    above = refl;
    least = λ q held above less.
        let parts = low_holds-parts places q held in
        let cell = cell-parts places.words (rotation_index q.rotation) q.x q.y parts.1 in
        let fewer = number_less q s record { column = omega (arith, cell.0); row = omega (arith, cell.1) } record { column = omega (arith, is.column); row = omega (arith, is.row) } (parts.0 ∙ sym is.kind) less in
        omega (arith, fewer, comes_later q held);
  }

  -- it is taken out
  module _ (new : LowPlaces) (kind : piece_of new ≡ piece_of places) (whole : length places.words ≡ 8) (word : ℕ) (changed : new.words ≡ set places.words at word)
      (bits : (k : ℕ) → k < 64 → has_bit word k ≡ (has_bit (get_or places.words at 0) k && not (k == bit))) where
    -- what bit a word has
    bit_in : (w k : ℕ) → k < 64 → has_bit (get_or new.words w 0) k ≡ (has_bit (get_or places.words w 0) k && not ((w == at) && (k == bit)))
    bit_in w k few = search (rules, cases_eq, eq-eqb, and-true, ne_eqb)

    pub low_rest : (q : Placement) → IsTrue (holds new q) ↔ (IsTrue (holds places q) × (Some s ≢ Some q))
    low_rest q = (there, back)
      where
        w : ℕ
        w = word_of (rotation_index q.rotation) q.y

        k : ℕ
        k = bit_of q.x q.y

        there : IsTrue (holds new q) → IsTrue (holds places q) × (Some s ≢ Some q)
        there held =
            let parts = low_holds-parts new q held in
            let cell = cell-parts new.words (rotation_index q.rotation) q.x q.y parts.1 in
            let both = and_parts (has_bit (get_or places.words w 0) k) _ (sym (bit_in w k (omega (arith, cell.0))) ∙ cell.2) in (
              low_holds-from places q (parts.0 ∙ kind) (cell-from places.words (rotation_index q.rotation) q.x q.y cell.0 cell.1 both.0),
              λ e.
                  let word : w ≡ at = ap (λ (o : Option Placement). word_in o) (sym e) ∙ omega (arith, is.rotation, is.row) in
                  let index : k ≡ bit = ap (λ (o : Option Placement). bit_in_word o) (sym e) ∙ omega (arith, is.row, is.column) in
                  both_ways _ (not-true _ both.1) (and_from _ _ (eq-eqb w at word) (eq-eqb k bit index)),
            )
          where
            word_in : Option Placement → ℕ
            word_in None = 0
            word_in (Some t) = word_of (rotation_index t.rotation) t.y

            bit_in_word : Option Placement → ℕ
            bit_in_word None = 0
            bit_in_word (Some t) = bit_of t.x t.y

        back : IsTrue (holds places q) × (Some s ≢ Some q) → IsTrue (holds new q)
        back (held, apart) =
            let parts = low_holds-parts places q held in
            let cell = cell-parts places.words (rotation_index q.rotation) q.x q.y parts.1 in
            low_holds-from new q (parts.0 ∙ sym kind)
            (cell-from new.words (rotation_index q.rotation) q.x q.y cell.0 cell.1
            (bit_in w k (omega (arith, cell.0)) ∙ and_from _ _ cell.2 (other (cases_Bool ((w == at) && (k == bit))))))
          where
            other : (((w == at) && (k == bit)) ≡ true) ⊎ (((w == at) && (k == bit)) ≡ false) → not ((w == at) && (k == bit)) ≡ true
            other (inl same) = search (rules, (same_place (piece_of places)), (low_holds-parts places q), (cell-parts places.words (rotation_index q.rotation) q.x q.y), (eqb-true w), (and_parts (w == at) (k == bit)), (eqb-true k bit))
            other (inr none) = not_from_false _ none

-- words that have lost the bits of others
pub cells-lost : (old new others : List ℕ) → ((w : ℕ) → w < 8 → (k : ℕ) → has_bit (get_or new w 0) k ≡ (has_bit (get_or old w 0) k && not (has_bit (get_or others w 0) k))) → (index x y : ℕ) → index < 4 →
    cells_of_words new index x y ≡ (cells_of_words old index x y && not (cells_of_words others index x y))
unfolding cells_of_words
cells-lost old new others lost index x y few = search (rules, cases_Bool, ltb-true, and_parts)

-- the word has four rows of a rotation from a row on, without those past a limit
abbrev pub CutFrom : States → Rotation → ℕ → ℕ → ℕ → Type 0
CutFrom S r row limit word = (k : ℕ) → k < 64 → has_bit word k ≡ (S r (k % 16) (row + k / 16) && nat_lt k (16 * (limit - row)))

-- two words that have the rows of a rotation below a limit
pub cut_cells : {N : ℕ} (S : States) (words : List ℕ) (limit : ℕ) (r : Rotation) → LiesWithin (S r) N → limit ≤ 8 →
    CutFrom S r 0 limit (get_or words (2 * rotation_index r) 0) → CutFrom S r 4 limit (get_or words (2 * rotation_index r + 1) 0) → (x y : ℕ) →
    cells_of_words words (rotation_index r) x y ≡ (S r x y && nat_lt y limit)
cut_cells S words limit r lies low first second x y =
    search (rules, same_from_both, (nat_lt y limit), cases_lt, lt-ltb, ltb-true, (cell-parts words (rotation_index r) x y), (lies.inside x y), (and_parts (S r x y) (nat_lt y limit)), (ltb-true y limit), (cell-from words (rotation_index r) x y))

-- the states that lie so low
pub low_filled : (new : LowPlaces) (piece : Piece) (S : States) (rows : ℕ) → piece_of new ≡ piece →
    ((r : Rotation) (x y : ℕ) → cells_of_words new.words (rotation_index r) x y ≡ (S r x y && nat_lt y (rows - rows_over_pivot piece r))) → (q : Placement) →
    IsTrue (holds new q) ↔ ((q.piece ≡ piece) × (has_state S q ≡ true) × IsTrue (is_below rows q))
unfolding has_state
low_filled new piece S rows kind fills q =
    search (rules, (nat_lt q.y (rows - rows_over_pivot piece q.rotation)), (nat_lt q.y (rows - rows_over_pivot q.piece q.rotation)), (nat_lt q.y), (low_holds-parts new q), (and_parts (S q.rotation q.x q.y)), (below_by_pivot rows q), (low_holds-from new q), and_from)

-- eight words that have the states that lie so low
module _ {N : ℕ} (new : LowPlaces) (piece : Piece) (S : States) (rows : ℕ) (left : List ℕ) (low : rows ≤ 8) (lies : (r : Rotation) → LiesWithin (S r) N)
    (limits : (r : Rotation) → get_or left (rotation_index r) 0 ≡ rows - rows_over_pivot piece r)
    (a : CutFrom S Spawn 0 (get_or left 0 0) (get_or new.words 0 0)) (b : CutFrom S Spawn 4 (get_or left 0 0) (get_or new.words 1 0))
    (c : CutFrom S Right 0 (get_or left 1 0) (get_or new.words 2 0)) (d : CutFrom S Right 4 (get_or left 1 0) (get_or new.words 3 0))
    (e : CutFrom S Reverse 0 (get_or left 2 0) (get_or new.words 4 0)) (f : CutFrom S Reverse 4 (get_or left 2 0) (get_or new.words 5 0))
    (g : CutFrom S Left 0 (get_or left 3 0) (get_or new.words 6 0)) (h : CutFrom S Left 4 (get_or left 3 0) (get_or new.words 7 0)) where
  few : (r : Rotation) → get_or left (rotation_index r) 0 ≤ 8
  few r = omega (arith, limits r, low)

  cells : (r : Rotation) (x y : ℕ) → cells_of_words new.words (rotation_index r) x y ≡ (S r x y && nat_lt y (get_or left (rotation_index r) 0))
  cells Spawn = cut_cells S new.words (get_or left 0 0) Spawn (lies Spawn) (few Spawn) a b
  cells Right = cut_cells S new.words (get_or left 1 0) Right (lies Right) (few Right) c d
  cells Reverse = cut_cells S new.words (get_or left 2 0) Reverse (lies Reverse) (few Reverse) e f
  cells Left = cut_cells S new.words (get_or left 3 0) Left (lies Left) (few Left) g h

  pub eight_filled : piece_of new ≡ piece → (q : Placement) → IsTrue (holds new q) ↔ ((q.piece ≡ piece) × (has_state S q ≡ true) × IsTrue (is_below rows q))
  eight_filled kind = low_filled new piece S rows kind (λ r x y. cells r x y ∙ ap (λ limit. S r x y && nat_lt y limit) (limits r))

-- where a set has exactly the states of which P holds, as far as these lie below row `rows`, places of its states so low hold
-- those that lie so low
pub low_places_held : (P : Placement → Type 0) (piece : Piece) (rows : ℕ) (places : LowPlaces) (S : States) →
    ((q : Placement) → IsTrue (holds places q) ↔ ((q.piece ≡ piece) × (has_state S q ≡ true) × IsTrue (is_below rows q))) →
    ((q : Placement) → q.piece ≡ piece → IsTrue (is_below rows q) → (has_state S q ≡ true) ↔ P q) →
    (q : Placement) → IsTrue (holds places q) ↔ ((q.piece ≡ piece) × P q × IsTrue (is_below rows q))
low_places_held P piece rows places S filled are q = search rules

-- so does a set that has the states with the pivot below a row M that is no lower
pub held_under : (P : Placement → Type 0) (piece : Piece) (M rows : ℕ) (S : States) → rows ≤ M → HasExactly (IsUnder M P) piece S →
    (q : Placement) → q.piece ≡ piece → IsTrue (is_below rows q) → (has_state S q ≡ true) ↔ P q
held_under P piece M rows S few are q kind low =
    search (rules, (are.exact q kind), few, (ltb-true q.y (rows - rows_over_pivot q.piece q.rotation) ((below_by_pivot rows q).1 low)))

-- none of two is true

-- where no word has a bit, nothing is held
pub held_none : (places : LowPlaces) → ((w k : ℕ) → w < 8 → k < 64 → has_bit (get_or places.words w 0) k ≡ false) → (q : Placement) → holds places q ≡ false
held_none places none q =
    search (rules, false_from_ne_true, both_ways, (rotation_index-small q.rotation), (cell-parts places.words (rotation_index q.rotation) q.x q.y), (low_holds-parts places q))

-- where nothing is held, no word has a bit
pub no_bits : (places : LowPlaces) → ((q : Placement) → holds places q ≡ false) → (w k : ℕ) → w < 8 → k < 64 → has_bit (get_or places.words w 0) k ≡ false
no_bits places none w k below within = false_from_ne_true _ (λ has.
    let at = rotation_at (w / 2) (omega (arith, below)) in
    let is = at.1 in
    let word : word_of (rotation_index at.0) (4 * (w % 2) + k / 16) ≡ w = omega (arith, is, within) in
    let bit : bit_of (k % 16) (4 * (w % 2) + k / 16) ≡ k = omega (arith, within) in
    let q : Placement = record { piece = piece_of places; rotation = at.0; x = k % 16; y = 4 * (w % 2) + k / 16 } in
    both_ways _ (none q)
    (low_holds-from places q refl (cell-from places.words (rotation_index at.0) (k % 16) (4 * (w % 2) + k / 16) (omega arith) (omega (arith, within))
    ((λ i. has_bit (get_or places.words (word i) 0) (bit i)) ∙ has))))
  where
    rotation_at : (index : ℕ) → index < 4 → (rotation : Rotation) × (rotation_index rotation ≡ index)
    rotation_at zero small = (Spawn, refl)
    rotation_at (suc zero) small = (Right, refl)
    rotation_at (suc (suc zero)) small = (Reverse, refl)
    rotation_at (suc (suc (suc zero))) small = (Left, refl)
    rotation_at (suc (suc (suc (suc index)))) small = absurd (omega arith)
