-- Pieces that are put at an index of a listed tiling, and the pieces of a path.
use Rattle.std.proofs.Common.{◌≡◌, ◌≢◌, ℕ, zero, suc, ◌+◌, ◌-◌, ◌<◌, List, [], ◌∷◌, ◌++◌, length, get_or, map, set, refl, sym, ap, ap₂, subst, ◌∙◌, arith, rules}
use Rattle.std.specs.List.{Contains, range_with_len}
use Rattle.std.proofs.lemmas.Bool.{cases_lt}
use Rattle.std.proofs.lemmas.List.{get_or-map, get_or_past, get_or-set_same, get_or-set_other, length-append, length-set}
use Rattle.std.proofs.lemmas.List.FromFn.{get_or-map-range_with_len, length-map-range_with_len, map-range_with_len_more}
use Rattle.lane_board.specs.Field.{Field, empty_field}
use Rattle.srs.specs.declared.piece.Piece.{Piece}
use Rattle.srs.specs.declared.piece.Piece.TheVariants.{I}
use Rattle.empty_cells.specs.declared.empties.Empties.{Empties}
use Rattle.empty_cells.specs.Empties.{empty_cells}
use Rattle.tiled_pieces.specs.declared.listed.ListedTiling.{ListedTiling}
use Rattle.tiled_pieces.specs.declared.listing.Listing.{Listing}
use Rattle.tiled_pieces.specs.declared.path.Path.{Path}
use Rattle.tiled_pieces.specs.TilingLists.{LaidPiece, laid_at}
use Rattle.tiled_pieces.specs.Listings.{Adds, Spells, no_piece, path_of}

module _ (tiling : ListedTiling) (index : ℕ) (piece : Piece) (cells : Empties) (kinds_known : index < length tiling.kinds) (cells_known : index < length tiling.cells) where
  abbrev after : ListedTiling
  after = record { kinds = set tiling.kinds index piece; cells = set tiling.cells index cells }

  pub put_there : laid_at after index ≡ record { piece = piece; cells = empty_cells cells }
  unfolding laid_at
  put_there =
      let kind : get_or after.kinds index I ≡ piece = get_or-set_same tiling.kinds index piece I kinds_known in
      let there : get_or (map empty_cells after.cells) index empty_field ≡ empty_cells cells =
      get_or-map empty_cells after.cells index cells empty_field (omega (arith, cells_known, length-set tiling.cells index cells)) ∙ ap empty_cells (get_or-set_same tiling.cells index cells cells cells_known) in
      λ i. record { piece = kind i; cells = there i }

  pub put_elsewhere : (other : ℕ) → other ≢ index → other < length tiling.cells → laid_at after other ≡ laid_at tiling other
  unfolding laid_at
  put_elsewhere other apart known =
      let kind : get_or after.kinds other I ≡ get_or tiling.kinds other I = get_or-set_other tiling.kinds index other piece I apart in
      let there : get_or (map empty_cells after.cells) other empty_field ≡ get_or (map empty_cells tiling.cells) other empty_field =
      get_or-map empty_cells after.cells other cells empty_field (omega (arith, known, length-set tiling.cells index cells))
      ∙ ap empty_cells (get_or-set_other tiling.cells index other cells cells apart)
      ∙ sym (get_or-map empty_cells tiling.cells other cells empty_field known) in
      λ i. record { piece = kind i; cells = there i }

-- an empty set at an index is no piece
pub nothing_there : (tiling : ListedTiling) (index other : ℕ) (none : Empties) → other ≡ index → empty_cells none ≡ empty_field → index < length tiling.kinds → index < length tiling.cells →
    laid_at (record { kinds = set tiling.kinds index I; cells = set tiling.cells index none }) other ≡ no_piece
nothing_there tiling index other none same is kinds_known cells_known =
    ap (λ k. laid_at (record { kinds = set tiling.kinds index I; cells = set tiling.cells index none }) k) same ∙ put_there tiling index I none kinds_known cells_known
    ∙ ap (λ (cells : Field). record { piece = I; cells = cells }) is

-- two ways to make a list that agree
agree : (f g : ℕ → LaidPiece) (n : ℕ) → ((k : ℕ) → k < n → f k ≡ g k) → map f (range_with_len 0 n) ≡ map g (range_with_len 0 n)
agree f g zero same = refl
agree f g (suc n) same =
    let one : suc n ≡ n + 1 = omega arith in
    ap (λ k. map f (range_with_len 0 k)) one ∙ map-range_with_len_more f 0 n n (omega arith)
    ∙ ap₂ (λ l x. l ++ x ∷ []) (agree f g n (λ k below. same k (omega (arith, below)))) (same n (omega arith))
    ∙ sym (map-range_with_len_more g 0 n n (omega arith)) ∙ ap (λ k. map g (range_with_len 0 k)) (sym one)

pub one_more : (tiling after : ListedTiling) (count : ℕ) (last : LaidPiece) → ((k : ℕ) → k < count → laid_at after k ≡ laid_at tiling k) → laid_at after count ≡ last →
    map (laid_at after) (range_with_len 0 (count + 1)) ≡ map (laid_at tiling) (range_with_len 0 count) ++ last ∷ []
one_more tiling after count last same at =
    map-range_with_len_more (laid_at after) 0 count count (omega arith) ∙ ap₂ (λ l x. l ++ x ∷ []) (agree (laid_at after) (laid_at tiling) count same) at

without_last : List LaidPiece → List LaidPiece
without_last [] = []
without_last (x ∷ []) = []
without_last (x ∷ y ∷ xs) = x ∷ without_last (y ∷ xs)

last_away : (xs : List LaidPiece) (x : LaidPiece) → without_last (xs ++ x ∷ []) ≡ xs
unfolding without_last
last_away [] x = refl
last_away (y ∷ []) x = refl
last_away (y ∷ z ∷ xs) x = ap (λ l. y ∷ l) (last_away (z ∷ xs) x)

same_front : (xs ys : List LaidPiece) (x y : LaidPiece) → xs ++ x ∷ [] ≡ ys ++ y ∷ [] → xs ≡ ys
same_front xs ys x y same = sym (last_away xs x) ∙ ap without_last same ∙ last_away ys y

pub one_fewer : (tiling after : ListedTiling) (count : ℕ) (path : List LaidPiece) (last : LaidPiece) → 0 < count → ((k : ℕ) → k < count - 1 → laid_at after k ≡ laid_at tiling k) →
    map (laid_at tiling) (range_with_len 0 count) ≡ path ++ last ∷ [] → map (laid_at after) (range_with_len 0 (count - 1)) ≡ path
one_fewer tiling after count path last some same is =
    let one : count ≡ count - 1 + 1 = omega (arith, some) in
    agree (laid_at after) (laid_at tiling) (count - 1) same
    ∙ same_front (map (laid_at tiling) (range_with_len 0 (count - 1))) path (laid_at tiling (count - 1)) last
    (sym (map-range_with_len_more (laid_at tiling) 0 (count - 1) (count - 1) (omega arith)) ∙ ap (λ k. map (laid_at tiling) (range_with_len 0 k)) (sym one) ∙ is)

pub none_to_take : (tiling : ListedTiling) (count : ℕ) (path : List LaidPiece) (last : LaidPiece) → count ≡ 0 → map (laid_at tiling) (range_with_len 0 count) ≡ path ++ last ∷ [] → ⊥
none_to_take tiling count path last none is = absurd (omega (arith, none, sym (length-map-range_with_len (laid_at tiling) 0 count) ∙ ap length is ∙ length-append path (last ∷ [])))

-- a path spells its pieces
pub spells_path : (path : Path) → Spells path.tiling (path_of path)
unfolding path_of
spells_path path = search (rules, length-map-range_with_len, cases_lt, get_or-map-range_with_len, get_or_past)

-- the path is added as a tiling
pub adds_path : (old new : Listing) → new.path ≡ old.path → new.order ≡ old.order → new.is_full ≡ old.is_full → new.tilings.items ≡ old.tilings.items ++ old.path.tiling ∷ [] → Adds old new (λ path found. found ≡ path) (λ path found. found ≡ path)
adds_path old new path order full longer = record {
  more = old.path.tiling ∷ [];
  longer = longer;
  path = ap path_of path;
  order = order;
  full = λ is. full ∙ is;
  gained = λ _ found goes is. record { tiling = old.path.tiling; listed = (0, omega arith, refl); spells = subst (Spells old.path.tiling) (sym is) (spells_path old.path) };
  only = λ tiling listed. record { found = path_of old.path; spells = subst (λ t. Spells t (path_of old.path)) (one_listed old.path.tiling tiling listed) (spells_path old.path); most = refl };
}
  where
    one_listed : (x y : ListedTiling) → Contains (x ∷ []) y → x ≡ y
    one_listed x y h2 = search rules
