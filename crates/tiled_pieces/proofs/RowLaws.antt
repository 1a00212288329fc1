-- The rows of pieces that are put into a set one after the other can go one before the other.
use Rattle.std.proofs.Common.{◌≡◌, ℕ, suc, ◌<◌, ◌≤◌, Bool, true, false, if◌then◌else◌, List, [], ◌∷◌, ap, inl, inr, arith}
use Rattle.std.specs.Prelude.{All}
use Rattle.std.proofs.lemmas.Bool.{and_parts, both_ways, cases_Bool, false_from_ne_true}
use Rattle.std.proofs.lemmas.List.Elements.{All-cons, All-nil, All-weaker}
use Rattle.lane_board.specs.Field.{Field, difference}
use Rattle.well.specs.Counts.{is_filled_row}
use Rattle.empty_cells.proofs.CallerLemmas.{IsSmall}
use Rattle.tiled_pieces.specs.TilingLists.{LaidPiece}
use Rattle.tiled_pieces.specs.Built.{AreBuilt, IsGone}
use Rattle.tiled_pieces.specs.RowOrders.{CanGo, HasTurns}
use Rattle.tiled_pieces.proofs.LaidLemmas.{left_small}
use Rattle.tiled_pieces.proofs.RowTests.{gone_row, row_there}

-- how many of the pieces are put before a row has no cell left
gone_after : Field → List LaidPiece → ℕ → ℕ
gone_after E [] row = 0
gone_after E (laid ∷ more) row = if is_filled_row E row then suc (gone_after (difference E laid.cells) more row) else 0

-- a row that is gone has no cell later
still_gone : (E cells : Field) (row : ℕ) → IsSmall 8 E → is_filled_row E row ≡ false → is_filled_row (difference E cells) row ≡ false
unfolding difference
still_gone E cells row small none = gone_row (difference E cells) row (λ x. false_from_ne_true _ (λ here. both_ways _ none (row_there E row x small (and_parts (E x row) _ here).0)))

module _ (E : Field) (laid : LaidPiece) (more : List LaidPiece) (row : ℕ) where
  now_gone : is_filled_row E row ≡ false → gone_after E (laid ∷ more) row ≡ 0
  unfolding gone_after
  now_gone none = ap (λ b. if b then suc (gone_after (difference E laid.cells) more row) else 0) none

  not_gone : is_filled_row E row ≡ true → gone_after E (laid ∷ more) row ≡ suc (gone_after (difference E laid.cells) more row)
  unfolding gone_after
  not_gone has = ap (λ b. if b then suc (gone_after (difference E laid.cells) more row) else 0) has

  one_more : gone_after E (laid ∷ more) row ≤ suc (gone_after (difference E laid.cells) more row)
  one_more = elim (cases_Bool (is_filled_row E row)) [
    | inl has ↦ omega (arith, not_gone has)
    | inr none ↦ omega (arith, now_gone none)
  ]

-- a row that goes after some pieces has a cell
has_later : (E : Field) (pieces : List LaidPiece) (row : ℕ) → 0 < gone_after E pieces row → is_filled_row E row ≡ true
unfolding gone_after
has_later E [] row some = absurd (omega (arith, some))
has_later E (laid ∷ more) row some = elim (cases_Bool (is_filled_row E row)) [
  | inl has ↦ has
  | inr none ↦ absurd (omega (arith, some, now_gone E laid more row none))
]

-- the piece that is put now
turns_now : (E : Field) (laid : LaidPiece) (more : List LaidPiece) → IsSmall 8 E → ((x y u v z : ℕ) → laid.cells x y ≡ true → laid.cells u v ≡ true → y < z → z < v → IsGone laid.cells z → IsGone E z) →
    ((x y : ℕ) → laid.cells x y ≡ true → E x y ≡ true) → HasTurns (gone_after E (laid ∷ more)) laid
turns_now E laid more small unbroken inside = record {
  before = λ gap row is has. omega (
    arith,
    now_gone E laid more gap (gone_row E gap (unbroken is.lower.x is.below is.upper.x is.above gap is.lower.there is.upper.there is.over is.under (λ x. false_from_ne_true _ (λ here. is.none (record { x = x; there = here }))))),
    not_gone E laid more row (row_there E row has.x small (inside has.x row has.there)),
  );
}

-- a piece that is put later
turns_later : (E : Field) (laid : LaidPiece) (more : List LaidPiece) → IsSmall 8 E → (other : LaidPiece) → HasTurns (gone_after (difference E laid.cells) more) other → HasTurns (gone_after E (laid ∷ more)) other
turns_later E laid more small other turns = record {
  before = λ gap row is has.
      let later = turns.before gap row is has in
      omega (arith, later, one_more E laid more gap, not_gone E laid more row (was_there row (has_later (difference E laid.cells) more row (omega (arith, later)))));
}
  where
    was_there : (row : ℕ) → is_filled_row (difference E laid.cells) row ≡ true → is_filled_row E row ≡ true
    was_there row has = elim (cases_Bool (is_filled_row E row)) [
      | inl there ↦ there
      | inr none ↦ absurd (both_ways _ (still_gone E laid.cells row small none) has)
    ]

all_turns : (E : Field) (drops : Bool) (order : List LaidPiece) → IsSmall 8 E → AreBuilt E drops order → All (HasTurns (gone_after E order)) order
unfolding AreBuilt
all_turns E drops [] small built = All-nil (HasTurns (gone_after E []))
all_turns E drops (laid ∷ more) small (fits, built) = All-cons (HasTurns (gone_after E (laid ∷ more))) laid more
    (turns_now E laid more small fits.unbroken fits.inside)
    (All-weaker (HasTurns (gone_after (difference E laid.cells) more)) (HasTurns (gone_after E (laid ∷ more))) (turns_later E laid more small) more
    (all_turns (difference E laid.cells) drops more (left_small E laid.cells small) built))

-- pieces that can be put into a small set one after the other
pub built-can-go : (E : Field) (drops : Bool) (order : List LaidPiece) → IsSmall 8 E → AreBuilt E drops order → CanGo order
built-can-go E drops order small built = record { turn = gone_after E order; each = all_turns E drops order small built }
