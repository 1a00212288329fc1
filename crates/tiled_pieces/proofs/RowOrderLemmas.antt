-- Orders of rows as numbers: what one more row or piece brings.
use Rattle.std.proofs.Common.{Option, Some, None, ◌≡◌, ℕ, ◌+◌, ◌-◌, ◌*◌, ◌/◌, ◌%◌, ◌^◌, ◌<◌, true, not, ◌&&◌, ◌==◌, bit_and, bit_or, List, ◌∷◌, sym, ap, subst, ◌∙◌, inl, inr, arith}
use Rattle.std.specs.Prelude.{All, MatchOption}
use Rattle.std.proofs.lemmas.Bool.{and_parts, both_ways, cases_eq, cases_lt, eq-eqb, or_cases}
use Rattle.std.proofs.lemmas.Nat.{and_le_l, shl_whole}
use Rattle.std.proofs.Math.Bool.{and-true}
use Rattle.std.proofs.lemmas.List.Elements.{All-head, All-tail}
use Rattle.lane_board.specs.Field.{Field}
use Rattle.lane_board.specs.Lanes.{has_bit}
use Rattle.lane_board.proofs.CallerLemmas.{has_bit-and, has_bit-or, has_bit-past, has_bit-shifted_high, has_bit-shifted_low, has_bit-shifted_right}
use Rattle.well.specs.Counts.{is_filled_row}
use Rattle.srs.specs.declared.piece.Piece.{Piece}
use Rattle.empty_cells.proofs.CallerLemmas.{IsSmall, ones}
use Rattle.tiled_pieces.specs.declared.row_order.RowOrder.{RowOrder}
use Rattle.tiled_pieces.specs.TilingLists.{LaidPiece}
use Rattle.tiled_pieces.specs.RowOrders.{HasRow, HasTurns, IsGap}
use Rattle.tiled_pieces.specs.RowBits.{Agrees, Follows, GoBefore, GoesBefore}
use Rattle.tiled_pieces.specs.Words.{is_between}
use Rattle.tiled_pieces.proofs.FitTests.{some_bit, unset}
use Rattle.tiled_pieces.proofs.RowTests.{Between, between_same, between_some, row_some, row_there}

-- where no bit is set, each order of turns agrees
pub agrees_none : (turn : ℕ → ℕ) (before : ℕ) → before ≡ 0 → Agrees turn before
agrees_none turn before none = record { each = λ z r _ _ bit. absurd (both_ways _ (unset before (8 * z + r) none) bit) }

-- a byte at a row
pub byte_of : (before row r : ℕ) → r < 8 → has_bit (bit_and (before / 2 ^ (8 * row)) 255) r ≡ has_bit before (8 * row + r)
byte_of before row r low = has_bit-and (before / 2 ^ (8 * row)) 255 r ∙ ap (λ b. has_bit (before / 2 ^ (8 * row)) r && b) (ones r low) ∙ and-true _ ∙ has_bit-shifted_right before (8 * row) r

pub not_none : (n : ℕ) → not (n == 0) ≡ true → n ≡ 0 → ⊥
not_none n some none = both_ways _ (ap not (eq-eqb n 0 none)) some

-- the rows that go after some, as far as they have been gone through
pub record LaterSoFar (before rows rest later : ℕ) : Type 0 where
  pub left : (k : ℕ) → k < 8 → has_bit rest k ≡ true → has_bit rows k ≡ true
  pub goes : (turn : ℕ → ℕ) (z : ℕ) → Agrees turn before → GoesBefore turn z rows → GoesBefore turn z later

pub later_next : (before rows rest less later after row : ℕ) → row < 8 → has_bit rest row ≡ true → ((k : ℕ) → k < 8 → has_bit less k ≡ (has_bit rest k && not (k == row))) →
    ((r : ℕ) → r < 8 → has_bit after r ≡ has_bit before (8 * row + r)) → LaterSoFar before rows rest later → LaterSoFar before rows less (bit_or later after)
later_next before rows rest less later after row low here others are so_far = record {
  left = λ k near bit. so_far.left k near (and_parts (has_bit rest k) _ (sym (others k near) ∙ bit)).0;
  goes = λ turn z agrees goes. record {
    each = λ r near bit. elim (or_cases (has_bit later r) (has_bit after r) (sym (has_bit-or later after r) ∙ bit)) [
      | inl old ↦ (so_far.goes turn z agrees goes).each r near old
      | inr new ↦ omega (arith, goes.each row low (so_far.left row low here), agrees.each row r low near (sym (are r near) ∙ new))
    ];
  };
}

-- no row goes before itself
pub none_itself : (turn : ℕ → ℕ) (gaps later : ℕ) → gaps < 256 → later < 256 → (bit_and later gaps ≡ 0 → ⊥) → ((z : ℕ) → z < 8 → has_bit gaps z ≡ true → GoesBefore turn z later) → ⊥
none_itself turn gaps later few small some goes =
    let has = some_bit (bit_and later gaps) (omega (arith, few, small, and_le_l later gaps)) some in
    let both = and_parts (has_bit later has.0) (has_bit gaps has.0) (sym (has_bit-and later gaps has.0) ∙ has.1) in
    elim (cases_lt has.0 8) [
      | inl low ↦ omega (arith, (goes has.0 low both.1).each has.0 low both.0)
      | inr high ↦ both_ways _ (has_bit-past gaps 8 has.0 (omega (arith, few)) high) both.1
    ]

-- a row that goes before a gap goes before what the gap goes before
pub leads_through : (turn : ℕ → ℕ) (before after gaps rows row : ℕ) → row < 8 → gaps < 256 → after < 256 → ((r : ℕ) → r < 8 → has_bit after r ≡ has_bit before (8 * row + r)) →
    (bit_and after gaps ≡ 0 → ⊥) → Agrees turn before → GoBefore turn gaps rows → GoesBefore turn row rows
leads_through turn before after gaps rows row low few small are some agrees goes =
    let has = some_bit (bit_and after gaps) (omega (arith, small, and_le_l after gaps)) some in
    let both = and_parts (has_bit after has.0) (has_bit gaps has.0) (sym (has_bit-and after gaps has.0) ∙ has.1) in
    elim (cases_lt has.0 8) [
      | inl near ↦ record { each = λ r below bit. omega (arith, agrees.each row has.0 low near (sym (are has.0 near) ∙ both.0), (goes.each has.0 near both.1).each r below bit) }
      | inr high ↦ absurd (both_ways _ (has_bit-past gaps 8 has.0 (omega (arith, few)) high) both.1)
    ]

-- a byte of bits at a row
byte_at : (later row z r : ℕ) → later < 256 → z < 8 → r < 8 → has_bit (later * 2 ^ (8 * row)) (8 * z + r) ≡ true → (z ≡ row) × (has_bit later r ≡ true)
byte_at later row z r small low near bit = elim (cases_lt (8 * z + r) (8 * row)) [
  | inl below ↦ absurd (both_ways _ (has_bit-shifted_low later (8 * row) (8 * z + r) below) bit)
  | inr from ↦
      let there = sym (has_bit-shifted_high later (8 * row) (8 * z + r) from) ∙ bit in
      elim (cases_eq z row) [
        | inl same ↦ (same, ap (has_bit later) {x = r} {y = 8 * z + r - 8 * row} (omega (arith, same)) ∙ there)
        | inr other ↦ absurd (both_ways _ (has_bit-past later 8 (8 * z + r - 8 * row) (omega (arith, small)) (omega (arith, from, other, near))) there)
      ]
]

pub agrees_more : (turn : ℕ → ℕ) (before later row : ℕ) → later < 256 → Agrees turn before → GoesBefore turn row later → Agrees turn (bit_or before (later * 2 ^ (8 * row)))
agrees_more turn before later row small agrees goes = record {
  each = λ z r low near bit. elim (or_cases (has_bit before (8 * z + r)) _ (sym (has_bit-or before (later * 2 ^ (8 * row)) (8 * z + r)) ∙ bit)) [
    | inl old ↦ agrees.each z r low near old
    | inr new ↦
        let at = byte_at later row z r small low near new in
        omega (arith, goes.each r near at.1, ap turn at.0)
  ];
}

pub agrees_with : (turn : ℕ → ℕ) (before later word row : ℕ) → word ≡ later → later < 256 → row < 8 → Agrees turn before → GoesBefore turn row later → Agrees turn (bit_or before (word * 2 ^ (8 * row) % 18446744073709551616))
agrees_with turn before later word row is small low agrees goes =
    subst (λ n. Agrees turn (bit_or before n))
    (sym (ap (λ n. n * 2 ^ (8 * row) % 18446744073709551616) is ∙ shl_whole later 8 (8 * row) 64 small (omega (arith, low))))
    (agrees_more turn before later row small agrees goes)

-- the gaps of a piece go before its rows
pub piece_goes : (E : Field) (piece : Piece) (rows gaps : ℕ) (turn : ℕ → ℕ) → IsSmall 8 E → ((y : ℕ) → y < 8 → has_bit rows y ≡ is_filled_row E y) →
    ((z : ℕ) → z < 8 → has_bit gaps z ≡ is_between (has_bit rows) z) → HasTurns turn (record { piece = piece; cells = E }) → GoBefore turn gaps rows
piece_goes E piece rows gaps turn small in_rows between turns = record {
  each = λ z low gap. record {
    each = λ r near row. turns.before z r
        (is_gap z (between_some (is_filled_row E) z (sym (between_same (has_bit rows) (is_filled_row E) z low in_rows) ∙ sym (between z low) ∙ gap))) (row_at r (sym (in_rows r near) ∙ row));
  };
}
  where
    laid : LaidPiece
    laid = record { piece = piece; cells = E }

    row_at : (r : ℕ) → is_filled_row E r ≡ true → HasRow laid r
    row_at r has = let some = row_some E r has in record { x = some.0; there = some.1 }

    is_gap : (z : ℕ) → Between (is_filled_row E) z → IsGap laid z
    is_gap z sides = record {
      below = sides.y;
      above = sides.v;
      lower = row_at sides.y sides.lower;
      upper = row_at sides.v sides.upper;
      over = sides.below;
      under = sides.above;
      none = λ there. both_ways _ sides.none (row_there E z there.x small there.there);
    }

-- what follows a piece
pub follows_tail : (order : RowOrder) (laid : LaidPiece) (more : List LaidPiece) → Follows order (laid ∷ more) → Follows order more
follows_tail order laid more follows = λ kept. let can = follows kept in record { turn = can.turn; agrees = can.agrees; each = All-tail (HasTurns can.turn) laid more can.each }

then_follows : (answer : Option RowOrder) (turn : ℕ → ℕ) (more : List LaidPiece) → All (HasTurns turn) more → MatchOption answer ⊥ (λ order. Agrees turn order.before) → MatchOption answer ⊥ (λ order. Follows order more)
then_follows None turn more each none = none
then_follows (Some order) turn more each agrees = λ kept. record { turn = turn; agrees = agrees; each = each }

pub follows_piece : (order : RowOrder) (answer : Option RowOrder) (laid : LaidPiece) (more : List LaidPiece) → order.is_kept ≡ true →
    ((turn : ℕ → ℕ) → Agrees turn order.before → HasTurns turn laid → MatchOption answer ⊥ (λ order. Agrees turn order.before)) → Follows order (laid ∷ more) → MatchOption answer ⊥ (λ order. Follows order more)
follows_piece order answer laid more kept answers follows =
    let can = follows kept in
    then_follows answer can.turn more (All-tail (HasTurns can.turn) laid more can.each) (answers can.turn can.agrees (All-head (HasTurns can.turn) laid more can.each))
