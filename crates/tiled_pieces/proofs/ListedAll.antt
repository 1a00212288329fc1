-- What a walk has added to an empty list: all tilings, and nothing else.
use Rattle.std.proofs.Common.{Global, Option, Some, None, Vec, ◌≡◌, ◌↔◌, ◌⊎◌, ℕ, ◌<◌, Bool, true, false, List, [], ◌∷◌, ◌++◌, map, refl, sym, ap, subst, ◌∙◌, arith, rules}
use Rattle.std.specs.Prelude.{IfSome}
use Rattle.std.specs.List.{Contains}
use Rattle.std.proofs.lemmas.Bool.{both_ways, cases_lt}
use Rattle.std.proofs.lemmas.List.{get_or_default, get_or_past}
use Rattle.std.proofs.lemmas.List.Elements.{All-weaker, Contains-get_or}
use Rattle.lane_board.specs.Field.{Field, empty_field}
use Rattle.srs.specs.declared.piece.Piece.TheVariants.{I}
use Rattle.srs.specs.declared.placement.Placement.{Placement}
use Rattle.srs.specs.Cells.{is_inside_of}
use Rattle.prune.specs.Tiling.{Supply, Tiling}
use Rattle.empty_cells.specs.declared.empties.Empties.{Empties}
use Rattle.empty_cells.specs.declared.supply.SupplyWord.{SupplyWord}
use Rattle.empty_cells.specs.Empties.{all_but, empty_cells}
use Rattle.empty_cells.specs.SupplyWords.{supply_of}
use Rattle.empty_cells.specs.Spans.{HasNoCell}
use Rattle.empty_cells.proofs.CallerLemmas.{IsSmall, total}
use Rattle.tiled_pieces.specs.declared.list.TilingList.{TilingList}
use Rattle.tiled_pieces.specs.declared.listed.ListedTiling.{ListedTiling}
use Rattle.tiled_pieces.specs.declared.listing.Listing.{Listing}
use Rattle.tiled_pieces.specs.TilingLists.{HasParts, HasPiece, IsListed, LaidPiece, ListsAll, ListsOnly, SomeHas, StandsInTiling, laid_at, laid_part, laid_placement, most_pieces}
use Rattle.tiled_pieces.specs.RowOrders.{CanGo, ListsOrdered}
use Rattle.tiled_pieces.specs.RowBits.{Follows, ListsThose}
use Rattle.tiled_pieces.specs.Listings.{Adds, GoesOn, HasFirst, IsAny, Lies, Spells, no_piece, path_of}
use Rattle.tiled_pieces.proofs.LaidLemmas.{InOrder, TilingOf, in_order, tiling_of}
use Rattle.tiled_pieces.proofs.StepLemmas.{laid_turns}
use Rattle.tiled_pieces.proofs.RowOrderLemmas.{agrees_none}
use Rattle.tiled_pieces.proofs.StandsLemmas.{listed_stands}

-- no piece at any index
pub nowhere : (none : Empties) → empty_cells none ≡ empty_field → (index : ℕ) → index < most_pieces →
    laid_at (record { kinds = I ∷ I ∷ I ∷ I ∷ I ∷ I ∷ I ∷ I ∷ I ∷ []; cells = none ∷ none ∷ none ∷ none ∷ none ∷ none ∷ none ∷ none ∷ none ∷ [] }) index ≡ no_piece
unfolding laid_at
nowhere none is h2 low = search rules

-- a listed tiling has each piece that it spells
pub has_spelled : (tiling : ListedTiling) (found : List LaidPiece) (laid : LaidPiece) → Spells tiling found → Contains found laid → HasPiece tiling laid
has_spelled tiling found laid spells (index, below, is) = record {
  index = index;
  known = omega (arith, below, spells.few);
  there = spells.each index (omega (arith, below, spells.few)) ∙ get_or_default found index no_piece laid below ∙ is;
}

-- and at each index one of them, or nothing
pub spelled_at : (tiling : ListedTiling) (found : List LaidPiece) → Spells tiling found → (index : ℕ) → index < most_pieces → HasNoCell (laid_at tiling index).cells ⊎ Contains found (laid_at tiling index)
unfolding empty_field
spelled_at tiling found spells index low = search (rules, cases_lt, Contains-get_or, get_or_past)

module _ (supply : Supply) (E : Field) (old new : Listing) (small : IsSmall 8 E) (path : path_of old.path ≡ []) (none : old.tilings.items ≡ []) (adds : Adds old new (GoesOn HasFirst supply E) (GoesOn IsAny supply E)) where
  longer : new.tilings.items ≡ adds.more
  longer = adds.longer ∙ ap (λ l. l ++ adds.more) none

  pub lists_those : (is_ordered : Bool) → old.order.is_kept ≡ is_ordered → old.order.before ≡ 0 → new.is_full ≡ false → ListsThose is_ordered E supply new.tilings.items
  lists_those is_ordered kept free room = record { all = each }
    where
      follows : (t : Tiling (all_but E) 8 supply) → (is_ordered ≡ true → CanGo (map laid_part t.parts)) → (order : InOrder supply E t.parts) → Follows old.order order.laid
      follows t can order = λ is. let go = can (sym kept ∙ is) in record { turn = go.turn; agrees = agrees_none go.turn old.order.before free; each = laid_turns supply E t.parts order go.turn go.each }

      each : (t : Tiling (all_but E) 8 supply) → (is_ordered ≡ true → CanGo (map laid_part t.parts)) → HasParts new.tilings.items t.parts
      each t can =
          let order = in_order (total supply) supply E (omega arith) small t in
          let listed = adds.gained room order.laid (record { follows = λ more is. subst (Follows old.order) (is ∙ ap (λ front. front ++ more) path) (follows t can order) })
          (record { more = order.laid; is = ap (λ front. front ++ order.laid) (sym path); laid = order.are }) in
          record {
            tiling = listed.tiling;
            listed = subst (λ l. Contains l listed.tiling) (sym longer) listed.listed;
            all = All-weaker (λ part. Contains order.laid (laid_part part)) (λ part. HasPiece listed.tiling (laid_part part)) (λ part among. has_spelled listed.tiling order.laid (laid_part part) listed.spells among) t.parts order.all;
          }

  pub lists_only : ListsOnly E supply new.tilings.items
  lists_only = record { only = λ tiling listed. one tiling (adds.only tiling (subst (λ l. Contains l tiling) longer listed)) }
    where
      one : (tiling : ListedTiling) → Lies (GoesOn IsAny supply E (path_of old.path)) tiling → IsListed E supply tiling
      one tiling lies = by (tiling_of IsAny supply E lies.most.more small lies.most.laid)
        where
          pieces : lies.found ≡ lies.most.more
          pieces = lies.most.is ∙ ap (λ front. front ++ lies.most.more) path

          by : TilingOf supply E lies.most.more → IsListed E supply tiling
          by t = record {
            whole = t.tiling;
            each = λ index low. subst (λ l. HasNoCell (laid_at tiling index).cells ⊎ Contains l (laid_at tiling index)) (sym t.are)
                (spelled_at tiling lies.most.more (subst (Spells tiling) pieces lies.spells) index low);
          }

-- what the list says that the walk from no piece has made
pub record Listed (is_ordered : Bool) (E : Field) (supply : Supply) (list : List ListedTiling) : Type 0 where
  pub those : ListsThose is_ordered E supply list
  pub only : ListsOnly E supply list

pub listed : (is_ordered : Bool) (supply : Supply) (E : Field) (old new : Listing) (word : SupplyWord) (F : Field) (tilings : Vec ListedTiling Global) → IsSmall 8 E → path_of old.path ≡ [] → old.tilings.items ≡ [] →
    old.order.is_kept ≡ is_ordered → old.order.before ≡ 0 → supply_of word ≡ supply → F ≡ E →
    Adds old new (GoesOn HasFirst (supply_of word) F) (GoesOn IsAny (supply_of word) F) → new.is_full ≡ false → tilings ≡ new.tilings → Listed is_ordered E supply tilings.items
listed is_ordered supply E old new word F tilings small path none kept free same_supply same_cells adds room is = subst (λ (v : Vec ListedTiling Global). Listed is_ordered E supply v.items) (sym is) (record {
  those = lists_those supply E old new small path none walked is_ordered kept free room;
  only = lists_only supply E old new small path none walked;
})
  where
    walked : Adds old new (GoesOn HasFirst supply E) (GoesOn IsAny supply E)
    walked = search rules

-- a list of all tilings, and one of those whose rows can go
pub all_listed : (E : Field) (supply : Supply) (list : List ListedTiling) → ListsThose false E supply list → ListsAll E supply list
all_listed E supply list lists = record { all = λ t. lists.all t (λ no. absurd (both_ways _ refl no)) }

pub ordered_listed : (E : Field) (supply : Supply) (list : List ListedTiling) → ListsThose true E supply list → ListsOrdered E supply list
ordered_listed E supply list lists = record { all = λ t can. lists.all t (λ _. can) }

module _ (E : Field) (supply : Supply) (answer : Option TilingList) where
  pub if_all : IfSome answer (λ list. ListsThose false E supply list.tilings.items) → IfSome answer (λ list. ListsAll E supply list.tilings.items)
  if_all lists = by answer lists
    where
      by : (answer : Option TilingList) → IfSome answer (λ list. ListsThose false E supply list.tilings.items) → IfSome answer (λ list. ListsAll E supply list.tilings.items)
      by None lists = tt
      by (Some list) lists = all_listed E supply list.tilings.items lists

  pub if_ordered : IfSome answer (λ list. ListsThose true E supply list.tilings.items) → IfSome answer (λ list. ListsOrdered E supply list.tilings.items)
  if_ordered lists = by answer lists
    where
      by : (answer : Option TilingList) → IfSome answer (λ list. ListsThose true E supply list.tilings.items) → IfSome answer (λ list. ListsOrdered E supply list.tilings.items)
      by None lists = tt
      by (Some list) lists = ordered_listed E supply list.tilings.items lists

  pub if_exact : IsSmall 8 E → IfSome answer (λ list. ListsThose false E supply list.tilings.items) → IfSome answer (λ list. ListsOnly E supply list.tilings.items) →
      IfSome answer (λ list. (m : Placement) → is_inside_of m ≡ true → SomeHas list.tilings.items (laid_placement m) ↔ StandsInTiling E supply m)
  if_exact small lists only = by answer lists only
    where
      by : (answer : Option TilingList) → IfSome answer (λ list. ListsThose false E supply list.tilings.items) → IfSome answer (λ list. ListsOnly E supply list.tilings.items) →
          IfSome answer (λ list. (m : Placement) → is_inside_of m ≡ true → SomeHas list.tilings.items (laid_placement m) ↔ StandsInTiling E supply m)
      by None lists only = tt
      by (Some list) lists only = listed_stands E supply list.tilings.items small (all_listed E supply list.tilings.items lists) only
