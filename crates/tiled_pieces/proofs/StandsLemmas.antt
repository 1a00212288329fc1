-- A placement is in a listed tiling exactly where the others fill what it leaves.
use Rattle.std.proofs.Common.{◌≡◌, ◌↔◌, ℕ, zero, suc, ◌<◌, Bool, true, not, ◌&&◌, List, [], ◌∷◌, map, pos, sym, ap, subst, ◌∙◌, inl, inr, arith, rules}
use Rattle.std.proofs.Math.Path.{fun_ext}
use Rattle.std.specs.List.{Contains, list_all}
use Rattle.std.proofs.lemmas.Bool.{and_parts, and_from, both_ways, not-true, not_from_false, false_from_ne_true, false≢true}
use Rattle.std.proofs.lemmas.List.Elements.{All-contains, All-map}
use Rattle.lane_board.specs.Field.{Field, difference, has_cell}
use Rattle.srs.specs.declared.placement.Placement.{Placement}
use Rattle.srs.specs.Cells.{Cell, cells_of, is_inside_of}
use Rattle.srs.specs.SameCells.{is_among}
use Rattle.srs.proofs.CallerLemmas.{is_among-all, list_all-from_is_among}
use Rattle.prune.specs.Tiling.{Supply}
use Rattle.prune.specs.OnePart.{less_one}
use Rattle.prune.proofs.CallerLemmas.{placed, placed_generalized}
use Rattle.empty_cells.specs.Empties.{has_cell_at, without_placement}
use Rattle.empty_cells.proofs.CallerLemmas.{CellOf, IsSmall, cell_of, total}
use Rattle.tiled_pieces.specs.declared.listed.ListedTiling.{ListedTiling}
use Rattle.tiled_pieces.specs.TilingLists.{HasPiece, IsListed, LaidPiece, ListsAll, ListsOnly, SomeHas, StandsInTiling, laid_at, laid_part, laid_placement}
use Rattle.tiled_pieces.specs.Listings.{AreLaid, HasFirst, IsAny, IsLaid}
use Rattle.tiled_pieces.proofs.LaidLemmas.{in_order, left_small, tiling_of}
use Rattle.tiled_pieces.proofs.ListLaws.{part_listed}
use Rattle.tiled_pieces.proofs.PivotCells.{pivot_in}
use Rattle.tiled_pieces.proofs.SupplyLemmas.{less-le, less_swap, some_swap}

-- a piece that can be laid before the others
record LaidBefore (supply : Supply) (E : Field) (laid : LaidPiece) : Type 0 where
  pub is : IsLaid IsAny supply E laid
  pub rest : List LaidPiece
  pub are : AreLaid IsAny (less_one supply laid.piece) (difference E laid.cells) rest

any_of : (Next : Field → LaidPiece → Type 0) (supply : Supply) (E : Field) (laid : LaidPiece) → IsLaid Next supply E laid → IsLaid IsAny supply E laid
any_of Next supply E laid is = record { part = is.part; is = is.is; generalized = is.generalized; some = is.some; inside = is.inside; next = tt }

all_any : (Next : Field → LaidPiece → Type 0) (supply : Supply) (E : Field) (more : List LaidPiece) → AreLaid Next supply E more → AreLaid IsAny supply E more
unfolding AreLaid
all_any Next supply E [] none = none
all_any Next supply E (laid ∷ more) (is, later) = (any_of Next supply E laid is, all_any Next (less_one supply laid.piece) (difference E laid.cells) more later)

swap : (p q r : Bool) → ((p && not q) && not r) ≡ ((p && not r) && not q)
swap p q r = search rules

behind : (supply : Supply) (E : Field) (front laid : LaidPiece) → IsLaid IsAny supply E front → LaidBefore (less_one supply front.piece) (difference E front.cells) laid → LaidBefore supply E laid
unfolding AreLaid difference has_cell
behind supply E front laid is b = record {
  is = record { part = b.is.part; is = b.is.is; generalized = b.is.generalized; some = omega (arith, b.is.some, less-le supply front.piece b.is.part.piece); inside = inside; next = tt };
  rest = front ∷ b.rest;
  are = (record { part = is.part; is = is.is; generalized = is.generalized; some = some; inside = apart; next = tt }, later);
}
  where
    kind : front.piece ≡ is.part.piece
    kind = ap (λ (l : LaidPiece). l.piece) is.is

    laid_kind : laid.piece ≡ b.is.part.piece
    laid_kind = ap (λ (l : LaidPiece). l.piece) b.is.is

    inside : list_all (has_cell_at E) b.is.part.cells ≡ true
    inside = list_all-from_is_among (has_cell_at E) b.is.part.cells (λ c has. each c (cell_of (difference E front.cells) c (is_among-all (has_cell_at (difference E front.cells)) b.is.part.cells c b.is.inside has)))
      where
        each : (c : Cell) → CellOf (difference E front.cells) c → has_cell_at E c ≡ true
        each c at = subst (λ c. has_cell_at E c ≡ true) (sym at.is) (and_parts (E at.x at.y) _ at.has).0

    some : 0 < less_one supply laid.piece is.part.piece
    some = subst (λ k. 0 < less_one supply laid.piece k) kind (some_swap supply front.piece laid.piece (subst (λ k. 0 < supply k) (sym kind) is.some) (subst (λ k. 0 < less_one supply front.piece k) (sym laid_kind) b.is.some))

    apart : list_all (has_cell_at (difference E laid.cells)) is.part.cells ≡ true
    apart = list_all-from_is_among (has_cell_at (difference E laid.cells)) is.part.cells (λ c has. each c has (cell_of E c (is_among-all (has_cell_at E) is.part.cells c is.inside has)))
      where
        each : (c : Cell) → is_among is.part.cells c ≡ true → CellOf E c → has_cell_at (difference E laid.cells) c ≡ true
        each c has at = subst (λ c. has_cell_at (difference E laid.cells) c ≡ true) (sym at.is) (and_from _ _ at.has (not_from_false _ (false_from_ne_true _ (λ there.
            both_ways _ (not-true (front.cells at.x at.y) (and_parts (E at.x at.y) _ (is_among-all (has_cell_at (difference E front.cells)) b.is.part.cells (pos at.x, pos at.y) b.is.inside
            (sym (ap (λ (l : LaidPiece). l.cells at.x at.y) b.is.is) ∙ there))).1)
            (ap (λ (l : LaidPiece). l.cells at.x at.y) is.is ∙ subst (λ c. is_among is.part.cells c ≡ true) at.is has)))))

    later : AreLaid IsAny (less_one (less_one supply laid.piece) front.piece) (difference (difference E laid.cells) front.cells) b.rest
    later = subst (λ (s : Supply). AreLaid IsAny s (difference (difference E laid.cells) front.cells) b.rest) (less_swap supply front.piece laid.piece)
        (subst (λ (F : Field). AreLaid IsAny (less_one (less_one supply front.piece) laid.piece) F b.rest) (fun_ext (λ a. fun_ext (λ b. swap (E a b) (front.cells a b) (laid.cells a b)))) b.are)

laid_before : (supply : Supply) (E : Field) (more : List LaidPiece) (laid : LaidPiece) → AreLaid IsAny supply E more → Contains more laid → LaidBefore supply E laid
unfolding AreLaid
laid_before supply E [] laid none (k, below, same) = absurd (omega (arith, below))
laid_before supply E (front ∷ more) laid (is, later) (zero, below, same) = subst (LaidBefore supply E) same (record { is = is; rest = more; are = later })
laid_before supply E (front ∷ more) laid (is, later) (suc k, below, same) = behind supply E front laid is (laid_before (less_one supply front.piece) (difference E front.cells) more laid later (k, omega (arith, below), same))

-- a placement within the well has just the cells that it is laid on
in_laid : (m : Placement) → is_inside_of m ≡ true → (F : Field) → ((x y : ℕ) → (laid_placement m).cells x y ≡ true → F x y ≡ true) → list_all (has_cell_at F) (cells_of m) ≡ true
unfolding has_cell
in_laid m inside F each = search (rules, list_all-from_is_among, is_among-all, false≢true)

stands : (E : Field) (supply : Supply) (m : Placement) → IsSmall 8 E → is_inside_of m ≡ true → LaidBefore supply E (laid_placement m) → StandsInTiling E supply m
unfolding difference without_placement has_cell
stands E supply m small inside b = record {
  inside = in_laid m inside E (λ x y has. is_among-all (has_cell_at E) b.is.part.cells (pos x, pos y) b.is.inside (sym (ap (λ (l : LaidPiece). l.cells x y) b.is.is) ∙ has));
  some = subst (λ k. 0 < supply k) (sym (ap (λ (l : LaidPiece). l.piece) b.is.is)) b.is.some;
  rest = (tiling_of IsAny (less_one supply m.piece) (difference E (laid_placement m).cells) b.rest (left_small E (laid_placement m).cells small) b.are).tiling;
}

-- some listed tiling has a placement exactly where it stands in a tiling
pub listed_stands : (E : Field) (supply : Supply) (list : List ListedTiling) → IsSmall 8 E → ListsAll E supply list → ListsOnly E supply list → (m : Placement) → is_inside_of m ≡ true →
    SomeHas list (laid_placement m) ↔ StandsInTiling E supply m
unfolding difference without_placement
listed_stands E supply list small all only m inside = (
  λ some. from some.tiling some.has (only.only some.tiling some.listed),
  λ stands. part_listed E supply list (placed m) (record { small = small; generalized = placed_generalized m inside; some = stands.some; inside = stands.inside }) all stands.rest,
)
  where
    from : (tiling : ListedTiling) → HasPiece tiling (laid_placement m) → IsListed E supply tiling → StandsInTiling E supply m
    from tiling has is = elim (is.each has.index has.known) [
      | inl none ↦ absurd (both_ways _ (none.none m.x m.y) (ap (λ (l : LaidPiece). l.cells m.x m.y) has.there ∙ pivot_in (laid_placement m).cells m (in_laid m inside (laid_placement m).cells (λ x y there. there))))
      | inr among ↦
          let order = in_order (total supply) supply E (omega arith) small is.whole in
          stands E supply m small inside (laid_before supply E order.laid (laid_placement m) (all_any HasFirst supply E order.laid order.are)
          (subst (λ l. Contains order.laid l) has.there (All-contains (Contains order.laid) (map laid_part is.whole.parts) (laid_at tiling has.index) (All-map (Contains order.laid) laid_part is.whole.parts order.all) among)))
    ]
