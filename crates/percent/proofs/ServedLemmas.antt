-- A good hand is served by some listed tiling: its pieces use up the cells in an order that the hand permits.
use Rattle.std.proofs.Common.{◌≡◌, ℕ, ◌+◌, ◌≤◌, Bool, true, false, List, [], ◌∷◌, ◌++◌, length, map, get_or, refl, ap, ◌∙◌, arith, append_assoc, length-append}
use Rattle.std.specs.Prelude.{All, Contains}
use Rattle.std.proofs.lemmas.Bool.{false_from_ne_true}
use Rattle.std.proofs.lemmas.List.{length-map}
use Rattle.std.proofs.lemmas.List.Elements.{All-cons, All-head, All-nil, All-tail}
use Rattle.lane_board.specs.Field.{Field}
use Rattle.lane_board.specs.Lanes.{has_bit}
use Rattle.srs.specs.declared.piece.Piece.{Piece}
use Rattle.srs.specs.Piece.{piece_code}
use Rattle.hold_queue.specs.declared.hold.Hold.{Hold}
use Rattle.prune.specs.Tiling.{Part}
use Rattle.tiled_pieces.specs.declared.listed.ListedTiling.{ListedTiling}
use Rattle.tiled_pieces.specs.TilingLists.{HasPiece, LaidPiece, laid_part}
use Rattle.tiled_pieces.specs.Served.{AreAllowed, IsServed, with_weight}
use Rattle.percent.specs.BuiltHands.{IsBuiltBy}
use Rattle.hands.proofs.CallerLemmas.{takes-first}
use Rattle.hands.specs.Weights.{AllowsTaken, weight_of}
use Rattle.percent.specs.declared.marks.Mark.{Mark}
use Rattle.percent.specs.declared.marks.Marks.{Marks}
use Rattle.percent.specs.GoodHands.{is_good}
use Rattle.percent.specs.ListedHands.{ListsHand}
use Rattle.percent.specs.Marks.{HasCounts}
use Rattle.percent.proofs.BuiltLemmas.{good-built}
use Rattle.percent.proofs.FittingLemmas.{low-position}
use Rattle.well.specs.Well.{filled}
use Rattle.empty_cells.specs.Empties.{empty_cells}
use Rattle.empty_cells.proofs.CallerLemmas.{cells_small}
use Rattle.hands.specs.Hands.{takes_all}

weight-push : (weights : List ℕ) (pieces : List Piece) (piece : Piece) → weight_of weights (pieces ++ piece ∷ []) ≡ weight_of weights pieces + get_or weights (piece_code piece) 0
unfolding weight_of
weight-push weights [] piece = omega arith
weight-push weights (first ∷ pieces) piece = omega (arith, weight-push weights pieces piece)

-- so pieces that can be taken are allowed one after the other
are-allowed : (hold : Hold) (left hand : ℕ) (weights allowed : List ℕ) (bit number : ℕ) (before : List Piece) (order : List LaidPiece) → AllowsTaken hold left hand weights allowed bit
    → number ≡ weight_of weights before → length before + length order ≤ left → takes_all hold hand (before ++ map (λ (laid : LaidPiece). laid.piece) order) ≡ true → AreAllowed weights allowed bit number order
unfolding AreAllowed with_weight
are-allowed hold left hand weights allowed bit number before [] allows is few taken = tt
are-allowed hold left hand weights allowed bit number before (laid ∷ order) allows is few taken =
    let with = before ++ laid.piece ∷ [] in
    let long : length with ≡ length before + 1 = length-append before (laid.piece ∷ []) in
    let later : takes_all hold hand (with ++ map (λ (laid : LaidPiece). laid.piece) order) ≡ true =
    ap (takes_all hold hand) (append_assoc before (laid.piece ∷ []) (map (λ (laid : LaidPiece). laid.piece) order)) ∙ taken in
    let next : number + get_or weights (piece_code laid.piece) 0 ≡ weight_of weights with = omega (arith, is, weight-push weights before laid.piece) in (
      ap (λ n. has_bit (get_or allowed n 0) bit) next ∙ allows.each with (omega (arith, long)) (omega (arith, long, few)) (takes-first hold hand with (map (λ (laid : LaidPiece). laid.piece) order) later),
      are-allowed hold left hand weights allowed bit (number + get_or weights (piece_code laid.piece) 0) with order allows next (omega (arith, long, few)) later,
    )

-- ---- listed tilings

kinds-laid : (parts : List Part) → map (λ (laid : LaidPiece). laid.piece) (map laid_part parts) ≡ map (λ (part : Part). part.piece) parts
kinds-laid [] = refl
kinds-laid (part ∷ parts) = ap (λ kinds. part.piece ∷ kinds) (kinds-laid parts)

laid-all : (tiling : ListedTiling) (parts : List Part) → All (λ part. HasPiece tiling (laid_part part)) parts → All (HasPiece tiling) (map laid_part parts)
laid-all tiling [] all = All-nil (HasPiece tiling)
laid-all tiling (part ∷ parts) all =
    All-cons (HasPiece tiling) (laid_part part) (map laid_part parts) (All-head (λ part. HasPiece tiling (laid_part part)) part parts all) (laid-all tiling parts (All-tail (λ part. HasPiece tiling (laid_part part)) part parts all))

-- a tiling that has all parts of one by which a hand is built serves the hand
pub built-serves : (E : Field) (drops : Bool) (hold : Hold) (left hand : ℕ) (weights allowed : List ℕ) (bit : ℕ) (built : IsBuiltBy E drops hold left hand) (tiling : ListedTiling)
    → All (λ part. HasPiece tiling (laid_part part)) built.tiling.parts → AllowsTaken hold left hand weights allowed bit → IsServed tiling E drops weights allowed bit
unfolding weight_of
built-serves E drops hold left hand weights allowed bit built tiling all allows =
    let order = map laid_part built.tiling.parts in
    record {
      order = order;
      pieces = laid-all tiling built.tiling.parts all;
      built = built.built;
      uses_up = built.uses_up;
      permitted = are-allowed hold left hand weights allowed bit 0 [] order allows refl (omega (arith, length-map built.tiling.parts laid_part, built.size))
          (ap (takes_all hold hand) (kinds-laid built.tiling.parts) ∙ built.taken);
    }

-- ---- hands that are not served

-- a hand that no listed tiling serves is not good
pub unserved-bad : (marks : Marks) (left hand bit : ℕ) (weights allowed : List ℕ) (mark : Mark) → HasCounts mark.counts left hand
    → ListsHand (empty_cells marks.cells) marks.drops marks.game.hold left hand mark → AllowsTaken marks.game.hold left hand weights allowed bit
    → ((tiling : ListedTiling) → Contains mark.tilings.tilings.items tiling → IsServed tiling (empty_cells marks.cells) marks.drops weights allowed bit → ⊥)
    → is_good marks.game (filled marks.position.well) marks.position.rows left hand ≡ false
unserved-bad marks left hand bit weights allowed mark counts lists allows none = false_from_ne_true _ (λ good.
    let p = marks.position in
    let E : Field = empty_cells marks.cells in
    let built = good-built marks.game marks.drops (filled p.well) p.rows left hand marks.rows E marks.hard p.few (low-position p) p.open_rows (cells_small marks.cells) marks.spread good in
    lists.each counts built (λ has. none has.tiling has.listed (built-serves E marks.drops marks.game.hold left hand weights allowed bit built has.tiling has.all allows)))
