-- Orders of a tiling's pieces, and orders of the indexes of those that lie in the set.
use Rattle.std.proofs.Common.{◌≡◌, ◌↔◌, ℕ, zero, suc, ◌+◌, Bool, true, not, ◌&&◌, List, [], ◌∷◌, slice_index, refl, sym, ap, subst, ◌∙◌, arith, rules}
use Rattle.std.specs.Prelude.{All}
use Rattle.lane_board.specs.Field.{Field, difference}
use Rattle.lane_board.specs.Lanes.{has_bit}
use Rattle.srs.specs.declared.piece.Piece.TheVariants.{I}
use Rattle.srs.specs.Piece.{piece_code}
use Rattle.empty_cells.specs.Spans.{HasNoCell}
use Rattle.tiled_pieces.specs.declared.listed.ListedTiling.{ListedTiling}
use Rattle.tiled_pieces.specs.TilingLists.{HasPiece, LaidPiece, laid_at, most_pieces}
use Rattle.tiled_pieces.specs.declared.laid.Laid.{Laid}
use Rattle.tiled_pieces.specs.Built.{AreBuilt, Fits}
use Rattle.tiled_pieces.specs.Orders.{HasLaid, HasOrder, HasThose, LiesIn, UsesUp, cells_at, weight_at}
use Rattle.tiled_pieces.specs.Served.{AreAllowed, IsServed, left_by, with_weight}

-- only the cells count
pub fits_same : (F : Field) (drops : Bool) (a b : LaidPiece) → a.cells ≡ b.cells → Fits F drops a → Fits F drops b
fits_same F drops a b same fits = record {
  inside = λ x y here. fits.inside x y (back x y here);
  unbroken = λ x y u v z lower upper below above none. fits.unbroken x y u v z (back x y lower) (back u v upper) below above (λ t. ap (λ (G : Field). G t z) same ∙ none t);
  rests = record { x = fits.rests.x; y = fits.rests.y; there = ap (λ (G : Field). G fits.rests.x fits.rests.y) (sym same) ∙ fits.rests.there; floor = fits.rests.floor };
  clear = λ must x y z here above low empty. fits.clear must x y z (back x y here) above low empty;
}
  where
    back : (x y : ℕ) → b.cells x y ≡ true → a.cells x y ≡ true
    back x y here = ap (λ (G : Field). G x y) same ∙ here

module _ (tiling : ListedTiling) (weights allowed : List ℕ) (bit : ℕ) (drops : Bool) (pieces : List Laid) (E : Field) (those : HasThose tiling E weights pieces most_pieces) where
  -- pieces of the tiling use up a set, from a number on
  pub record Serves (F : Field) (number : ℕ) : Type 0 where
    pub order : List LaidPiece
    pub each : All (HasPiece tiling) order
    pub built : AreBuilt F drops order
    pub uses_up : HasNoCell (left_by F order)
    pub permitted : AreAllowed weights allowed bit number order

  abbrev IsWithin : Field → Type 0
  IsWithin F = (x y : ℕ) → F x y ≡ true → E x y ≡ true

  less : (a b : Bool) → (a && not b) ≡ true → a ≡ true
  less a b e = search rules

  within_less : (F G : Field) → IsWithin F → IsWithin (difference F G)
  unfolding difference
  within_less F G within = λ x y here. within x y (less (F x y) (G x y) here)

  found : (laid : LaidPiece) → HasPiece tiling laid → (F : Field) → IsWithin F → Fits F drops laid → HasLaid weights pieces laid
  found laid has F within fits =
      subst (HasLaid weights pieces) has.there (those.all has.index has.known (subst (λ (l : LaidPiece). LiesIn l.cells E) (sym has.there)
      (record { x = fits.rests.x; y = fits.rests.y; there = fits.rests.there; inside = λ a b here. within a b (fits.inside a b here) })))

  to_indexes : (order : List LaidPiece) (F : Field) (number : ℕ) → IsWithin F → All (HasPiece tiling) order → AreBuilt F drops order → HasNoCell (left_by F order) → AreAllowed weights allowed bit number order →
      (is : List ℕ) × UsesUp pieces drops allowed bit F number is
  unfolding UsesUp AreBuilt left_by AreAllowed with_weight
  to_indexes [] F number within has built empty permitted = ([], empty)
  to_indexes (laid ∷ more) F number within has built empty permitted =
      let at = found laid (has 0 laid (omega arith)) F within built.0 in
      let sum : number + weight_at pieces at.index ≡ number + slice_index weights (piece_code laid.piece) = ap (λ w. number + w) at.here.weight in
      let rest = to_indexes more (difference F laid.cells) (number + slice_index weights (piece_code laid.piece)) (within_less F laid.cells within) (λ k d below. has (suc k) d (omega (arith, below))) built.1 empty permitted.1 in (
        at.index ∷ rest.0,
        (
          record {
            known = at.here.known;
            fits = fits_same F drops laid (record { piece = I; cells = cells_at pieces at.index }) (sym at.here.cells) built.0;
            permitted = ap (λ n. has_bit (slice_index allowed n) bit) sum ∙ permitted.0;
          },
          subst (λ (G : Field). UsesUp pieces drops allowed bit (difference F G) (number + weight_at pieces at.index) rest.0) (sym at.here.cells)
              (subst (λ n. UsesUp pieces drops allowed bit (difference F laid.cells) n rest.0) (sym sum) rest.1),
        ),
      )

  both : (laid : LaidPiece) (order : List LaidPiece) → HasPiece tiling laid → All (HasPiece tiling) order → All (HasPiece tiling) (laid ∷ order)
  both laid order here others zero d below = here
  both laid order here others (suc k) d below = others k d (omega (arith, below))

  from_indexes : (is : List ℕ) (F : Field) (number : ℕ) → UsesUp pieces drops allowed bit F number is → Serves F number
  unfolding UsesUp AreBuilt left_by AreAllowed with_weight
  from_indexes [] F number empty = record { order = []; each = λ k d below. absurd (omega (arith, below)); built = tt; uses_up = empty; permitted = tt }
  from_indexes (i ∷ is) F number goes =
      let of = those.only i goes.0.known in
      let laid = laid_at tiling of.slot in
      let sum : number + weight_at pieces i ≡ number + slice_index weights (piece_code laid.piece) = ap (λ w. number + w) of.here.weight in
      let rest = from_indexes is (difference F laid.cells) (number + slice_index weights (piece_code laid.piece))
      (subst (λ (G : Field). UsesUp pieces drops allowed bit (difference F G) (number + slice_index weights (piece_code laid.piece)) is) of.here.cells
      (subst (λ n. UsesUp pieces drops allowed bit (difference F (cells_at pieces i)) n is) sum goes.1)) in
      record {
        order = laid ∷ rest.order;
        each = both laid rest.order (record { index = of.slot; known = of.low; there = refl }) rest.each;
        built = (fits_same F drops (record { piece = I; cells = cells_at pieces i }) laid of.here.cells goes.0.fits, rest.built);
        uses_up = rest.uses_up;
        permitted = (ap (λ n. has_bit (slice_index allowed n) bit) (sym sum) ∙ goes.0.permitted, rest.permitted);
      }

  pub served_both : HasOrder pieces drops allowed bit E ↔ IsServed tiling E drops weights allowed bit
  served_both = (
    (λ some. let serves = from_indexes some.order E 0 some.uses_up in
        record { order = serves.order; pieces = serves.each; built = serves.built; uses_up = serves.uses_up; permitted = serves.permitted }),
    (λ served. let indexes = to_indexes served.order E 0 (λ x y here. here) served.pieces served.built served.uses_up served.permitted in
        record { order = indexes.0; uses_up = indexes.1 }),
  )
