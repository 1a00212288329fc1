-- The steps of a walk that lists tilings.
use Rattle.std.proofs.Common.{◌≡◌, ◌⊎◌, ℕ, ◌<◌, false, List, [], ◌∷◌, ◌++◌, length, map, get_or, refl, sym, ap, subst, ◌∙◌, arith, rules}
use Rattle.std.proofs.lemmas.List.{append-nil, append_assoc, append_cancel_left, length-append}
use Rattle.std.proofs.lemmas.List.Elements.{All-contains, All-weaker}
use Rattle.std.specs.Prelude.{All}
use Rattle.std.specs.List.{Contains}
use Rattle.lane_board.specs.Field.{Field, difference}
use Rattle.srs.specs.declared.piece.Piece.{Piece}
use Rattle.srs.specs.declared.piece.Piece.TheVariants.{I, L, O, Z, T, J, S}
use Rattle.prune.specs.Tiling.{Part, Supply}
use Rattle.prune.specs.Laws.{with_one}
use Rattle.prune.specs.OnePart.{less_one}
use Rattle.prune.proofs.CallerLemmas.{no_parts}
use Rattle.empty_cells.specs.Empties.{all_but}
use Rattle.empty_cells.specs.Spans.{HasNoCell, IsFirst, forms_of}
use Rattle.empty_cells.specs.Stacks.{CanFill, Stacks, is_allowed}
use Rattle.empty_cells.proofs.CallerLemmas.{IsSmall, one_back, total}
use Rattle.tiled_pieces.specs.declared.listing.Listing.{Listing}
use Rattle.tiled_pieces.specs.declared.row_order.RowOrder.{RowOrder}
use Rattle.tiled_pieces.specs.RowOrders.{HasTurns}
use Rattle.tiled_pieces.specs.RowBits.{Fills, Follows, GoesFrom}
use Rattle.tiled_pieces.specs.TilingLists.{LaidPiece, laid_part}
use Rattle.tiled_pieces.specs.Listings.{Adds, AreLaid, GoesOn, GoesOnWith, HasFirst, IsAny, StacksForm, StacksSome, TakesFirst, path_of}
use Rattle.tiled_pieces.proofs.AddsLemmas.{Fact, adds_as, adds_none_here, adds_then}
use Rattle.tiled_pieces.proofs.LaidLemmas.{InOrder, TilingOf, form_found, in_order, none_empty, some_takes, tiling_of}

-- where no cell is left, nothing comes after the path
pub nothing_more : (Next : Field → LaidPiece → Type 0) (supply : Supply) (E : Field) (path found : List LaidPiece) → IsSmall 8 E → HasNoCell E → GoesOn Next supply E path found → found ≡ path
nothing_more Next supply E path found small none goes =
    goes.is ∙ ap (λ more. path ++ more) (sym laid.are ∙ ap (map laid_part) (no_parts (all_but E) 8 supply (none_empty E small none) laid.tiling)) ∙ append-nil path
  where
    laid : TilingOf supply E goes.more
    laid = tiling_of Next supply E goes.more small goes.laid

pub path_goes : (supply : Supply) (E : Field) (path found : List LaidPiece) → HasNoCell E → found ≡ path → GoesOn IsAny supply E path found
unfolding AreLaid
path_goes supply E path found none is = record { more = []; is = is ∙ sym (append-nil path); laid = none }

-- what goes on is a tiling
pub goes_fills : (supply : Supply) (E : Field) (path found : List LaidPiece) → IsSmall 8 E → GoesOn HasFirst supply E path found → CanFill 8 supply E
goes_fills supply E path found small goes = (tiling_of HasFirst supply E goes.more small goes.laid).tiling

-- and its pieces can follow, if what was found can
pub fills_from : (order : RowOrder) (supply : Supply) (E : Field) (path found : List LaidPiece) → IsSmall 8 E → GoesFrom order path found → GoesOn HasFirst supply E path found → Fills order supply E
fills_from order supply E path found small from goes =
    let t = tiling_of HasFirst supply E goes.more small goes.laid in
    record { tiling = t.tiling; follows = subst (Follows order) (sym t.are) (from.follows goes.more goes.is) }

-- a piece that cannot be put
pub leaves_none : (supply : Supply) (E left : Field) (piece : Piece) (a : Listing) (taken : Field) → taken ≡ difference E left →
    ((kind : Piece) (more : List LaidPiece) → Follows a.order (record { piece = kind; cells = taken } ∷ more) → ⊥) →
    Adds a a (λ path found. GoesOnWith HasFirst supply E piece path found left) (λ path found. GoesOnWith IsAny supply E piece path found left)
leaves_none supply E left piece a taken is none = adds_none_here a _ _ (λ found from goes. none piece goes.more
    (subst (λ (cells : Field). Follows a.order (record { piece = piece; cells = cells } ∷ goes.more)) (sym is)
    (from.follows (record { piece = piece; cells = difference E left } ∷ goes.more) (goes.is ∙ append_assoc (path_of a.path) (record { piece = piece; cells = difference E left } ∷ []) goes.more))))

-- the search for what a piece leaves, with that piece on the path
pub leaves_adds : (supply : Supply) (E left : Field) (piece : Piece) (a b c d : Listing) (taken : Field) → taken ≡ difference E left →
    path_of b.path ≡ path_of a.path ++ record { piece = piece; cells = taken } ∷ [] → b.tilings.items ≡ a.tilings.items → b.is_full ≡ a.is_full →
    ((kind : Piece) (more : List LaidPiece) → Follows a.order (record { piece = kind; cells = taken } ∷ more) → Follows b.order more) →
    Adds b c (GoesOn HasFirst supply left) (GoesOn IsAny supply left) →
    ((path : List LaidPiece) (last : LaidPiece) → path_of c.path ≡ path ++ last ∷ [] → path_of d.path ≡ path) → d.tilings.items ≡ c.tilings.items → d.is_full ≡ c.is_full → d.order ≡ a.order →
    Adds a d (λ path found. GoesOnWith HasFirst supply E piece path found left) (λ path found. GoesOnWith IsAny supply E piece path found left)
leaves_adds supply E left piece a b c d taken is pushed items_b full_b follows adds popped items_d full_d order_d = record {
  more = adds.more;
  longer = items_d ∙ adds.longer ∙ ap (λ l. l ++ adds.more) items_b;
  path = popped (path_of a.path) (record { piece = piece; cells = taken }) (adds.path ∙ pushed);
  order = order_d;
  full = λ full. full_d ∙ adds.full (full_b ∙ full);
  gained = λ room found goes least. adds.gained (sym full_d ∙ room) found (from found goes) (subst (λ path. GoesOn HasFirst supply left path found) (sym longer) least);
  only = λ tiling listed. let l = adds.only tiling listed in record { found = l.found; spells = l.spells; most = subst (λ path. GoesOn IsAny supply left path l.found) longer l.most };
}
  where
    from : (found : List LaidPiece) → GoesFrom a.order (path_of a.path) found → GoesFrom b.order (path_of b.path) found
    from found goes = record {
      follows = λ more found_is. follows piece more (goes.follows (record { piece = piece; cells = taken } ∷ more)
          (found_is ∙ ap (λ path. path ++ more) pushed ∙ append_assoc (path_of a.path) (record { piece = piece; cells = taken } ∷ []) more));
    }

    longer : path_of b.path ≡ path_of a.path ++ record { piece = piece; cells = difference E left } ∷ []
    longer = pushed ∙ ap (λ (cells : Field). path_of a.path ++ record { piece = piece; cells = cells } ∷ []) is

-- a piece of the supply is taken
pub takes_adds : (supply less : Supply) (E : Field) (x y : ℕ) (piece : Piece) (a b : Listing) → 0 < supply piece → less ≡ less_one supply piece →
    Adds a b (StacksSome HasFirst less E x y piece) (GoesOn IsAny (with_one less piece) E) → Adds a b (TakesFirst HasFirst supply E x y piece) (GoesOn IsAny supply E)
takes_adds supply less E x y piece a b some is adds = search (rules, adds_as, one_back)

-- the kinds, one after the other
abbrev Seven : (Piece → Fact) → Fact
Seven By path found = (((((By I path found ⊎ By L path found) ⊎ By O path found) ⊎ By Z path found) ⊎ By T path found) ⊎ By J path found) ⊎ By S path found

one_of_seven : (By : Piece → Fact) (path found : List LaidPiece) (piece : Piece) → By piece path found → Seven By path found
one_of_seven By path found piece fact = search rules

pub seven_add : (supply : Supply) (E : Field) (x y : ℕ) → IsSmall 8 E → IsFirst E x y → (l0 l1 l2 l3 l4 l5 l6 l7 : Listing) →
    Adds l0 l1 (TakesFirst HasFirst supply E x y I) (GoesOn IsAny supply E) → Adds l1 l2 (TakesFirst HasFirst supply E x y L) (GoesOn IsAny supply E) →
    Adds l2 l3 (TakesFirst HasFirst supply E x y O) (GoesOn IsAny supply E) → Adds l3 l4 (TakesFirst HasFirst supply E x y Z) (GoesOn IsAny supply E) →
    Adds l4 l5 (TakesFirst HasFirst supply E x y T) (GoesOn IsAny supply E) → Adds l5 l6 (TakesFirst HasFirst supply E x y J) (GoesOn IsAny supply E) →
    Adds l6 l7 (TakesFirst HasFirst supply E x y S) (GoesOn IsAny supply E) → Adds l0 l7 (GoesOn HasFirst supply E) (GoesOn IsAny supply E)
seven_add supply E x y small first l0 l1 l2 l3 l4 l5 l6 l7 i l o z t j s =
    adds_as l0 l7 (Seven (TakesFirst HasFirst supply E x y)) (GoesOn IsAny supply E) (GoesOn HasFirst supply E) (GoesOn IsAny supply E)
    (λ path found goes. let some = some_takes supply E x y small first path found goes in one_of_seven (TakesFirst HasFirst supply E x y) path found some.piece some.takes)
    (λ path found is. is)
    (adds_then l0 l6 l7 _ _ _ (adds_then l0 l5 l6 _ _ _ (adds_then l0 l4 l5 _ _ _ (adds_then l0 l3 l4 _ _ _ (adds_then l0 l2 l3 _ _ _ (adds_then l0 l1 l2 _ _ _ i l) o) z) t) j) s)

-- the forms of a kind
abbrev Spans : (Field → LaidPiece → Type 0) → Supply → Field → ℕ → ℕ → Piece → ℕ → Fact
Spans Next supply E x y kind index path found = Stacks (is_allowed y) (GoesOnWith Next supply E kind path found) E x 0 (get_or (forms_of kind) index [])

abbrev AnyForm : Supply → Field → ℕ → ℕ → Listing → Listing → Piece → Type 0
AnyForm supply E x y a b piece = Adds a b (StacksSome HasFirst supply E x y piece) (GoesOn IsAny (with_one supply piece) E)

module _ (supply : Supply) (E : Field) (x y : ℕ) (small : IsSmall 8 E) where
  form_adds : (piece : Piece) (index : ℕ) (a b : Listing) → index < length (forms_of piece) → Adds a b (Spans HasFirst supply E x y piece index) (Spans IsAny supply E x y piece index) →
      Adds a b (StacksForm HasFirst supply E x y piece index) (GoesOn IsAny (with_one supply piece) E)
  form_adds piece index a b known adds = search (rules, adds_as, form_found)

  pub one_of : (piece kind : Piece) → piece ≡ kind → length (forms_of kind) ≡ 1 → (a b : Listing) → Adds a b (Spans HasFirst supply E x y kind 0) (Spans IsAny supply E x y kind 0) → AnyForm supply E x y a b piece
  one_of piece kind is count a b first = subst (AnyForm supply E x y a b) (sym is)
      (adds_as a b _ _ (StacksSome HasFirst supply E x y kind) _ (λ path found some. one path found some.index some.stacks) (λ path found goes. goes) (form_adds kind 0 a b (omega (arith, count)) first))
    where
      one : (path found : List LaidPiece) (index : ℕ) → StacksForm HasFirst supply E x y kind index path found → StacksForm HasFirst supply E x y kind 0 path found
      one path found index form = search rules

  pub two_of : (piece kind : Piece) → piece ≡ kind → length (forms_of kind) ≡ 2 → (a b c : Listing) → Adds a b (Spans HasFirst supply E x y kind 0) (Spans IsAny supply E x y kind 0) →
      Adds b c (Spans HasFirst supply E x y kind 1) (Spans IsAny supply E x y kind 1) → AnyForm supply E x y a c piece
  two_of piece kind is count a b c first second = subst (AnyForm supply E x y a c) (sym is)
      (adds_as a c _ _ (StacksSome HasFirst supply E x y kind) _ (λ path found some. one path found some.index some.stacks) (λ path found goes. goes)
      (adds_then a b c _ _ _ (form_adds kind 0 a b (omega (arith, count)) first) (form_adds kind 1 b c (omega (arith, count)) second)))
    where
      one : (path found : List LaidPiece) (index : ℕ) → StacksForm HasFirst supply E x y kind index path found → StacksForm HasFirst supply E x y kind 0 path found ⊎ StacksForm HasFirst supply E x y kind 1 path found
      one path found index form = search rules

  pub four_of : (piece kind : Piece) → piece ≡ kind → length (forms_of kind) ≡ 4 → (a b c d e : Listing) → Adds a b (Spans HasFirst supply E x y kind 0) (Spans IsAny supply E x y kind 0) →
      Adds b c (Spans HasFirst supply E x y kind 1) (Spans IsAny supply E x y kind 1) → Adds c d (Spans HasFirst supply E x y kind 2) (Spans IsAny supply E x y kind 2) →
      Adds d e (Spans HasFirst supply E x y kind 3) (Spans IsAny supply E x y kind 3) → AnyForm supply E x y a e piece
  four_of piece kind is count a b c d e first second third fourth = subst (AnyForm supply E x y a e) (sym is)
      (adds_as a e _ _ (StacksSome HasFirst supply E x y kind) _ (λ path found some. one path found some.index some.stacks) (λ path found goes. goes)
      (adds_then a d e _ _ _ (adds_then a c d _ _ _ (adds_then a b c _ _ _ (form_adds kind 0 a b (omega (arith, count)) first) (form_adds kind 1 b c (omega (arith, count)) second))
      (form_adds kind 2 c d (omega (arith, count)) third)) (form_adds kind 3 d e (omega (arith, count)) fourth)))
    where
      one : (path found : List LaidPiece) (index : ℕ) → StacksForm HasFirst supply E x y kind index path found →
          ((StacksForm HasFirst supply E x y kind 0 path found ⊎ StacksForm HasFirst supply E x y kind 1 path found) ⊎ StacksForm HasFirst supply E x y kind 2 path found) ⊎ StacksForm HasFirst supply E x y kind 3 path found
      one path found index form = search rules

-- pieces in the order of a walk have turns where the parts have
pub laid_turns : (supply : Supply) (E : Field) (parts : List Part) (order : InOrder supply E parts) (turn : ℕ → ℕ) → All (HasTurns turn) (map laid_part parts) → All (HasTurns turn) order.laid
laid_turns supply E parts order turn each = All-weaker (Contains (map laid_part parts)) (HasTurns turn) (λ laid there. All-contains (HasTurns turn) (map laid_part parts) laid each there) order.laid order.only

-- where nothing was added and the list isn't full, there is no tiling whose pieces can follow
pub none_added : (supply : Supply) (E : Field) (a b : Listing) → IsSmall 8 E → Adds a b (GoesOn HasFirst supply E) (GoesOn IsAny supply E) → length b.tilings.items ≡ length a.tilings.items → b.is_full ≡ false → Fills a.order supply E → ⊥
none_added supply E a b small adds same room fills =
    let order = in_order (total supply) supply E (omega arith) small fills.tiling in
    let follows : Follows a.order order.laid = λ kept.
    let can = fills.follows kept in record { turn = can.turn; agrees = can.agrees; each = laid_turns supply E fills.tiling.parts order can.turn can.each } in
    let listed = adds.gained room (path_of a.path ++ order.laid) (record { follows = λ more is. subst (Follows a.order) (append_cancel_left (path_of a.path) order.laid more is) follows })
    (record { more = order.laid; is = refl; laid = order.are }) in
    absurd (omega (arith, same, ap length adds.longer ∙ length-append a.tilings.items adds.more, listed.listed.1))
