-- Pieces laid one after the other are the parts of a tiling, and each tiling can be laid so that each piece has the first cell of what is left.
use Rattle.std.proofs.Common.{◌≡◌, ◌⊎◌, ℕ, zero, suc, ◌<◌, ◌≤◌, Bool, true, false, not, ◌&&◌, cond, List, [], ◌∷◌, ◌++◌, map, pos, negsuc, refl, sym, ap, ap₂, subst, ◌∙◌, inl, inr, arith, rules}
use Rattle.std.specs.Prelude.{All}
use Rattle.std.proofs.Math.Path.{fun_ext}
use Rattle.std.specs.List.{Contains}
use Rattle.std.proofs.lemmas.Bool.{cases_Bool, cases_eq, cases_lt, and_parts, both_ways, false≢true}
use Rattle.std.proofs.lemmas.List.{append_assoc}
use Rattle.std.proofs.lemmas.List.Elements.{All-cons, All-contains, All-contains_itself, All-head, All-map, All-nil, All-tail, All-weaker, Contains-append_left, Contains-append_right}
use Rattle.lane_board.specs.Field.{Field, difference, has_cell}
use Rattle.srs.specs.declared.piece.Piece.{Piece}
use Rattle.srs.specs.Cells.{Cell}
use Rattle.srs.proofs.CallerLemmas.{is_among-all, list_all-from_is_among}
use Rattle.prune.specs.Tiling.{Part, Supply, Tiling, covers, is_empty_below}
use Rattle.prune.specs.Laws.{with_one}
use Rattle.prune.specs.OnePart.{less_one}
use Rattle.prune.proofs.CallerLemmas.{TakenPart, no_parts, taken_part}
use Rattle.empty_cells.specs.Empties.{all_but, has_cell_at}
use Rattle.empty_cells.specs.Spans.{HasNoCell, IsFirst}
use Rattle.empty_cells.specs.Stacks.{Stacks, in_stack, is_allowed, without_stack}
use Rattle.empty_cells.proofs.CallerLemmas.{Chosen, IsSmall, PartOf, StackOf, chosen, empty_is, empty_within, fewer, fills_nothing, form, form_at, form_with_index, form_within, over_first, part_of, rotation_at, stack_of, total}
use Rattle.tiled_pieces.specs.TilingLists.{LaidPiece, laid_part}
use Rattle.tiled_pieces.specs.Listings.{AreLaid, GoesOn, GoesOnWith, HasFirst, IsAny, IsLaid, StacksForm, TakesFirst}
use Rattle.tiled_pieces.proofs.ListLaws.{left_by_part, left_is, tiling_with}
use Rattle.tiled_pieces.proofs.SupplyLemmas.{less_with, some_with}

-- what is left of a small set
pub left_small : (E cells : Field) → IsSmall 8 E → IsSmall 8 (difference E cells)
unfolding difference
left_small E cells small = search (rules, and_parts)

-- no cell of such a set is empty
pub none_empty : (E : Field) → IsSmall 8 E → HasNoCell E → (cell : Cell) → is_empty_below (all_but E) 8 cell ≡ false
unfolding is_empty_below
none_empty E small none h3 = search (rules, empty_is)

-- a tiling whose parts are these pieces
pub record TilingOf (supply : Supply) (E : Field) (laid : List LaidPiece) : Type 0 where
  pub tiling : Tiling (all_but E) 8 supply
  pub are : map laid_part tiling.parts ≡ laid

pub tiling_of : (Next : Field → LaidPiece → Type 0) (supply : Supply) (E : Field) (laid : List LaidPiece) → IsSmall 8 E → AreLaid Next supply E laid → TilingOf supply E laid
unfolding AreLaid
tiling_of Next supply E [] small none =
    let t = fills_nothing 8 E supply none in
    record { tiling = t; are = ap (map laid_part) (no_parts (all_but E) 8 supply (none_empty E small none) t) }
tiling_of Next supply E (laid ∷ more) small (is, later) =
    let rest = tiling_of Next (less_one supply laid.piece) (difference E laid.cells) more (left_small E laid.cells small) later in
    by_part (subst (λ (l : LaidPiece). TilingOf (less_one supply l.piece) (difference E l.cells) more) is.is rest)
  where
    by_part : TilingOf (less_one supply is.part.piece) (left_by_part E is.part) more → TilingOf supply E (laid ∷ more)
    by_part rest =
        let with = tiling_with E supply is.part (record { small = small; generalized = is.generalized; some = is.some; inside = is.inside }) rest.tiling in
        record { tiling = with.tiling; are = ap (map laid_part) with.parts_are ∙ ap₂ (λ l ls. l ∷ ls) (sym is.is) rest.are }

-- the lowest cell of a column, below a row
record Lowest (E : Field) (x n : ℕ) : Type 0 where
  pub row : ℕ
  pub below : row < n
  pub filled : E x row ≡ true
  pub lowest : (b : ℕ) → b < row → E x b ≡ false

lowest_of : (E : Field) (x n : ℕ) → Lowest E x n ⊎ ((b : ℕ) → b < n → E x b ≡ false)
lowest_of E x zero = inr (λ b below. absurd (omega arith))
lowest_of E x (suc n) = elim (lowest_of E x n) [
  | inl l ↦ inl (record { row = l.row; below = omega (arith, l.below); filled = l.filled; lowest = l.lowest })
  | inr none ↦ elim (cases_Bool (E x n)) [
    | inl has ↦ inl (record { row = n; below = omega arith; filled = has; lowest = none })
    | inr hasnt ↦ inr (λ b below. elim (cases_eq b n) [
      | inl same ↦ ap (λ k. E x k) same ∙ hasnt
      | inr other ↦ none b (omega (arith, other))
    ])
  ]
]

-- the first cell of the columns before a column
record FirstBefore (E : Field) (n : ℕ) : Type 0 where
  pub column : ℕ
  pub before : column < n
  pub lowest : Lowest E column 8
  pub leftmost : (a b : ℕ) → a < column → b < 8 → E a b ≡ false

first_before : (E : Field) (n : ℕ) → FirstBefore E n ⊎ ((a b : ℕ) → a < n → b < 8 → E a b ≡ false)
first_before E zero = inr (λ a b near. absurd (omega arith))
first_before E (suc n) = elim (first_before E n) [
  | inl f ↦ inl (record { column = f.column; before = omega (arith, f.before); lowest = f.lowest; leftmost = f.leftmost })
  | inr none ↦ elim (lowest_of E n 8) [
    | inl l ↦ inl (record { column = n; before = omega arith; lowest = l; leftmost = none })
    | inr nothing ↦ inr (λ a b near low. elim (cases_eq a n) [
      | inl same ↦ ap (λ k. E k b) same ∙ nothing b low
      | inr other ↦ none a b (omega (arith, other)) low
    ])
  ]
]

record FirstOf (E : Field) : Type 0 where
  pub x : ℕ
  pub y : ℕ
  pub first : IsFirst E x y

first_of : (E : Field) → IsSmall 8 E → FirstOf E ⊎ HasNoCell E
first_of E small = elim (first_before E 10) [
  | inl f ↦ search (rules, outside)
  | inr none ↦ search (rules, cases_Bool, both_ways)
]
  where
    outside : (a b : ℕ) → (b < 8 → E a b ≡ false) → E a b ≡ false
    outside a b low = search (rules, cases_Bool)

-- there is one first cell
one_first : (E : Field) (x y a b : ℕ) → IsFirst E x y → IsFirst E a b → (cells : Field) → cells x y ≡ true → cells a b ≡ true
one_first E x y a b first other cells has = search (rules, both_ways, cases_lt)

-- pieces in the order of a walk that are the parts
pub record InOrder (supply : Supply) (E : Field) (parts : List Part) : Type 0 where
  pub laid : List LaidPiece
  pub are : AreLaid HasFirst supply E laid
  pub all : All (λ part. Contains laid (laid_part part)) parts
  pub only : All (Contains (map laid_part parts)) laid

has_from_empty : (E : Field) (cell : Cell) → IsSmall 8 E → is_empty_below (all_but E) 8 cell ≡ true → has_cell_at E cell ≡ true
unfolding is_empty_below has_cell
has_from_empty E (pos x, pos y) small empty = sym (empty_is 8 E x y small) ∙ empty
has_from_empty E (pos x, negsuc y) small empty = absurd (false≢true empty)
has_from_empty E (negsuc x, y) small empty = absurd (false≢true empty)

-- what is left of a tiling without a part
abbrev rest_of : (E : Field) (supply : Supply) (cell : Cell) (parts : List Part) (p : TakenPart (all_but E) 8 supply cell parts) → Tiling (all_but (left_by_part E p.part)) 8 (less_one supply p.part.piece)
rest_of E supply cell parts p = record {
  parts = p.rest.parts;
  generalized = p.rest.generalized;
  covered = subst (λ (F : Field). (cell : Cell) → covers p.rest.parts cell ≡ cond (is_empty_below F 8 cell) 1 0) (sym (left_is E p.part)) p.rest.covered;
  supplied = p.rest.supplied;
}

all_back : (P : LaidPiece → Type 0) (parts : List Part) → All P (map laid_part parts) → All (λ part. P (laid_part part)) parts
all_back P [] all = All-nil (λ part. P (laid_part part))
all_back P (part ∷ parts) all = All-cons (λ part. P (laid_part part)) part parts (All-head P (laid_part part) (map laid_part parts) all)
    (all_back P parts (All-tail P (laid_part part) (map laid_part parts) all))

lay_first : (supply : Supply) (E : Field) (parts : List Part) → IsSmall 8 E → (f : FirstOf E) (p : TakenPart (all_but E) 8 supply (pos f.x, pos f.y) parts) → InOrder (less_one supply p.part.piece) (left_by_part E p.part) p.rest.parts → InOrder supply E parts
unfolding AreLaid
lay_first supply E parts small f p later = record {
  laid = laid_part p.part ∷ later.laid;
  are = search (rules, list_all-from_is_among, has_from_empty, is_among-all, one_first);
  all = p.others (λ part. Contains (laid_part p.part ∷ later.laid) (laid_part part)) (Contains-append_left (laid_part p.part ∷ []) later.laid (laid_part p.part) (0, omega arith, refl))
      (All-weaker (λ part. Contains later.laid (laid_part part)) (λ part. Contains (laid_part p.part ∷ later.laid) (laid_part part)) (λ part. Contains-append_right (laid_part p.part ∷ []) later.laid (laid_part part)) p.rest.parts later.all);
  only = All-cons (Contains (map laid_part parts)) (laid_part p.part) later.laid among.0
      (All-weaker (Contains (map laid_part p.rest.parts)) (Contains (map laid_part parts)) (λ laid there. All-contains (Contains (map laid_part parts)) (map laid_part p.rest.parts) laid
      (All-map (Contains (map laid_part parts)) laid_part p.rest.parts among.1) there) later.laid later.only);
}
  where
    among : Contains (map laid_part parts) (laid_part p.part) × All (λ part. Contains (map laid_part parts) (laid_part part)) p.rest.parts
    among = p.back (λ part. Contains (map laid_part parts) (laid_part part)) (all_back (Contains (map laid_part parts)) parts (All-contains_itself (map laid_part parts)))

lay_none : (supply : Supply) (E : Field) → IsSmall 8 E → HasNoCell E → (t : Tiling (all_but E) 8 supply) → InOrder supply E t.parts
unfolding AreLaid
lay_none supply E small none t = record {
  laid = [];
  are = none;
  all = subst (λ parts. All (λ part. Contains [] (laid_part part)) parts) (sym (no_parts (all_but E) 8 supply (none_empty E small none) t)) (All-nil (λ part. Contains [] (laid_part part)));
  only = All-nil (Contains (map laid_part t.parts));
}

-- each tiling can be laid so
pub in_order : (n : ℕ) (supply : Supply) (E : Field) → total supply ≤ n → IsSmall 8 E → (t : Tiling (all_but E) 8 supply) → InOrder supply E t.parts
in_order zero supply E enough small t = elim (first_of E small) [
  | inr none ↦ lay_none supply E small none t
  | inl f ↦
      let p = taken_part (all_but E) 8 supply (pos f.x, pos f.y) (empty_is 8 E f.x f.y small ∙ f.first.filled) t in
      absurd (omega (arith, enough, fewer supply (less_one supply p.part.piece) p.part.piece refl p.some))
]
in_order (suc n) supply E enough small t = elim (first_of E small) [
  | inr none ↦ lay_none supply E small none t
  | inl f ↦
      let p = taken_part (all_but E) 8 supply (pos f.x, pos f.y) (empty_is 8 E f.x f.y small ∙ f.first.filled) t in
      lay_first supply E t.parts small f p (in_order n (less_one supply p.part.piece) (left_by_part E p.part) (omega (arith, enough, fewer supply (less_one supply p.part.piece) p.part.piece refl p.some))
      (left_small E (laid_part p.part).cells small) (rest_of E supply (pos f.x, pos f.y) t.parts p))
]

-- cells that were taken are those that aren't left
taken_again : (e s : Bool) → (s ≡ true → e ≡ true) → (e && not (e && not s)) ≡ s
taken_again e s within = search (rules, false≢true)

left_again : (e s : Bool) → (e && not (e && not (e && not s))) ≡ (e && not s)
left_again e s = search rules

-- some kind has the first cell
pub record SomeTakes (supply : Supply) (E : Field) (x y : ℕ) (path found : List LaidPiece) : Type 0 where
  pub piece : Piece
  pub takes : TakesFirst HasFirst supply E x y piece path found

pub some_takes : (supply : Supply) (E : Field) (x y : ℕ) → IsSmall 8 E → IsFirst E x y → (path found : List LaidPiece) → GoesOn HasFirst supply E path found → SomeTakes supply E x y path found
unfolding AreLaid difference without_stack
some_takes supply E x y small first path found goes = by_pieces goes.more goes.is goes.laid
  where
    by_pieces : (more : List LaidPiece) → found ≡ path ++ more → AreLaid HasFirst supply E more → SomeTakes supply E x y path found
    by_pieces [] is none = absurd (both_ways _ (none.none x y) first.filled)
    by_pieces (laid ∷ more) is (one, later) = by_stack (stack_of 8 E one.part small one.generalized (empty_within 8 E one.part.cells small one.inside))
      where
        by_stack : StackOf E one.part → SomeTakes supply E x y path found
        by_stack st = record {
          piece = one.part.piece;
          takes = record {
            has = one.some;
            stacks = record {
              index = form_at one.part.piece st.rotation;
              stacks = record {
                known = form_within one.part.piece st.rotation;
                stacks = over_first E x y one.part.piece st.rotation st.x st.rows (GoesOnWith HasFirst (less_one supply one.part.piece) E one.part.piece path found) first st.rises st.within
                    (sym (cells_are x y) ∙ one.next x y first) (record { more = more; is = longer; laid = rest });
              };
            };
          };
        }
          where
            left : Field
            left = without_stack E st.x st.rows (form one.part.piece st.rotation)

            cells_are : (a b : ℕ) → laid.cells a b ≡ in_stack st.x st.rows (form one.part.piece st.rotation) a b
            cells_are a b = ap (λ (l : LaidPiece). l.cells a b) one.is ∙ st.same a b

            kind : laid.piece ≡ one.part.piece
            kind = ap (λ (l : LaidPiece). l.piece) one.is

            same_left : difference E laid.cells ≡ left
            same_left = fun_ext (λ a. fun_ext (λ b. ap (λ s. E a b && not s) (cells_are a b)))

            taken : laid.cells ≡ difference E left
            taken = fun_ext (λ a. fun_ext (λ b. cells_are a b ∙ sym (taken_again (E a b) (in_stack st.x st.rows (form one.part.piece st.rotation) a b) (st.within.inside a b))))

            same : laid ≡ record { piece = one.part.piece; cells = difference E left }
            same = λ i. record { piece = kind i; cells = taken i }

            longer : found ≡ (path ++ record { piece = one.part.piece; cells = difference E left } ∷ []) ++ more
            longer = is ∙ ap (λ l. path ++ l ∷ more) same ∙ sym (append_assoc path (record { piece = one.part.piece; cells = difference E left } ∷ []) more)

            rest : AreLaid HasFirst (less_one supply one.part.piece) left more
            rest = subst (λ p. AreLaid HasFirst (less_one supply p) left more) kind (subst (λ (F : Field). AreLaid HasFirst (less_one supply laid.piece) F more) same_left later)

-- a piece whose spans are stacked is laid first
pub form_found : (supply : Supply) (E : Field) (x y : ℕ) (piece : Piece) (index : ℕ) (path found : List LaidPiece) → IsSmall 8 E → StacksForm IsAny supply E x y piece index path found → GoesOn IsAny (with_one supply piece) E path found
unfolding AreLaid difference without_stack
form_found supply E x y piece index path found small s = by (chosen (is_allowed y) By E x 0 (form piece (rotation_at index)) (subst (λ spans. Stacks (is_allowed y) By E x 0 spans) (sym (form_with_index piece index s.known)) s.stacks))
  where
    By : Field → Type 0
    By = GoesOnWith IsAny supply E piece path found

    by : Chosen By E x 0 (form piece (rotation_at index)) → GoesOn IsAny (with_one supply piece) E path found
    by c = record {
      more = laid ∷ c.rest.more;
      is = c.rest.is ∙ append_assoc path (laid ∷ []) c.rest.more;
      laid = (one (part_of piece (rotation_at index) x c.rows c.rises), later);
    }
      where
        left : Field
        left = without_stack E x c.rows (form piece (rotation_at index))

        laid : LaidPiece
        laid = record { piece = piece; cells = difference E left }

        one : PartOf piece (rotation_at index) x c.rows → IsLaid IsAny (with_one supply piece) E laid
        one p = record {
          part = p.part;
          is = λ i. record { piece = sym p.kind i; cells = taken i };
          generalized = p.generalized;
          some = subst (λ k. 0 < with_one supply piece k) (sym p.kind) (some_with supply piece);
          inside = p.inside E c.within;
          next = tt;
        }
          where
            taken : difference E left ≡ (laid_part p.part).cells
            taken = fun_ext (λ a. fun_ext (λ b. taken_again (E a b) (in_stack x c.rows (form piece (rotation_at index)) a b) (c.within.inside a b) ∙ sym (p.same a b)))

        same_left : left ≡ difference E laid.cells
        same_left = fun_ext (λ a. fun_ext (λ b. sym (left_again (E a b) (in_stack x c.rows (form piece (rotation_at index)) a b))))

        later : AreLaid IsAny (less_one (with_one supply piece) piece) (difference E laid.cells) c.rest.more
        later = subst (λ (s : Supply). AreLaid IsAny s (difference E laid.cells) c.rest.more) (sym (less_with supply piece)) (subst (λ (F : Field). AreLaid IsAny supply F c.rest.more) same_left c.rest.laid)
