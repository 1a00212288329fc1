-- A part does not reach over a wall: where it has cells on both sides, two of them stand side by side in one row.
use Rattle.std.proofs.Common.{◌≡◌, ℕ, zero, suc, ◌+◌, ◌-◌, ◌<◌, ◌≤◌, Bool, true, not, ◌&&◌, ◌||◌, List, [], ◌∷◌, ℤ, pos, nat_abs, ◌+ℤ◌, ◌<ℤ◌, refl, sym, ap, subst, ◌∙◌, arith, rules}
use Rattle.std.specs.Prelude.{int_lt}
use Rattle.std.specs.List.{list_all, list_any}
use Rattle.std.specs.Ordering.{int_eq}
use Rattle.std.proofs.lemmas.Bool.{cases_Bool, cases_lt, and_parts, and_from, or_right, false≢true, ltb-true, lt-ltb, leb-true, le-leb}
use Rattle.std.proofs.lemmas.Int.{ints}
use Rattle.srs.specs.declared.piece.Piece.{Piece}
use Rattle.srs.specs.declared.rotation.Rotation.{Rotation}
use Rattle.srs.specs.Cells.{Cell, shape}
use Rattle.srs.specs.SameCells.{is_among}
use Rattle.srs.proofs.CallerLemmas.{is_among-all, has_cell-head, each_state, implied}
use Rattle.lane_board.specs.Field.{Field}
use Rattle.prune.specs.Tiling.{Part, sent, IsGeneralized, is_empty_below}
use Rattle.prune.specs.Walls.{IsWall}
use Rattle.prune.proofs.CellCounts.{Source, source_of, has_cell-map}
use Rattle.prune.proofs.EmptyCells.{EmptyCell, empty_cell}
use Rattle.prune.proofs.ColumnCounts.{column_of, in_columns}

-- some cell in the column of a cell has one beside it, in the next column
some_beside : List Cell → List Cell → Cell → Bool
some_beside cells all c = list_any (λ e. int_eq e.0 c.0 && is_among all (e.0 +ℤ pos 1, e.1)) cells

columns_join : (piece : Piece) (rotation : Rotation) →
    list_all (λ c. list_all (λ d. not (int_lt c.0 d.0) || some_beside (shape piece rotation) (shape piece rotation) c) (shape piece rotation)) (shape piece rotation) ≡ true
unfolding some_beside is_among
columns_join = each_state (λ p r. list_all (λ c. list_all (λ d. not (int_lt c.0 d.0) || list_any (λ e. int_eq e.0 c.0 && is_among (shape p r) (e.0 +ℤ pos 1, e.1)) (shape p r)) (shape p r)) (shape p r)) refl

record Beside (cells all : List Cell) (c : Cell) : Type 0 where
  pub cell : Cell
  pub listed : is_among cells cell ≡ true
  pub column : cell.0 ≡ c.0
  pub next : is_among all (cell.0 +ℤ pos 1, cell.1) ≡ true

beside_in : (cells all : List Cell) (c : Cell) → some_beside cells all c ≡ true → Beside cells all c
unfolding some_beside is_among
beside_in [] all c some = absurd (false≢true some)
beside_in (e ∷ es) all c some = search (rules, (cases_Bool (int_eq e.0 c.0 && is_among all (e.0 +ℤ pos 1, e.1))), and_parts, has_cell-head, or_right, (beside_in es all c))

below_to : (a b : ℤ) → a <ℤ b → int_lt a b ≡ true
below_to a b order = search (rules, lt-ltb)

module _ (F : Field) (rows : ℕ) (part : Part) (is : IsGeneralized part) (empty : list_all (is_empty_below F rows) part.cells ≡ true) where
  pub at : (c : Cell) → is_among part.cells c ≡ true → EmptyCell F rows c
  at c has = empty_cell F rows c (is_among-all (is_empty_below F rows) part.cells c empty has)

  abbrev shape_of : List Cell
  shape_of = shape part.piece is.rotation

  has_sent : (c : Cell) → is_among shape_of c ≡ true → is_among part.cells (sent is.move is.row c) ≡ true
  has_sent c listed = subst (λ cells. is_among cells (sent is.move is.row c) ≡ true) (sym is.cells) (has_cell-map (sent is.move is.row) shape_of c listed)

  -- two cells of the part side by side, in the column of a cell and in the next one
  record Pair (c : Cell) : Type 0 where
    pub left : Cell
    pub right : Cell
    pub has_left : is_among part.cells left ≡ true
    pub has_right : is_among part.cells right ≡ true
    pub left_column : column_of left ≡ column_of c
    pub right_column : column_of right ≡ column_of c + 1
    pub row : nat_abs left.1 ≡ nat_abs right.1

  pair : (c d : Cell) → is_among part.cells c ≡ true → is_among part.cells d ≡ true → column_of c < column_of d → Pair c
  unfolding sent
  pair c d has_c has_d lower = from (source c has_c) (source d has_d)
    where
      source : (c : Cell) → is_among part.cells c ≡ true → Source (sent is.move is.row) shape_of c
      source c has = source_of (sent is.move is.row) shape_of c (subst (λ cells. is_among cells c ≡ true) is.cells has)

      from : Source (sent is.move is.row) shape_of c → Source (sent is.move is.row) shape_of d → Pair c
      from s t =
          let c_at = at c has_c in
          let d_at = at d has_d in
          let c_column : c.0 ≡ pos c_at.x = ap (λ (c : Cell). c.0) c_at.is in
          let d_column : d.0 ≡ pos d_at.x = ap (λ (c : Cell). c.0) d_at.is in
          let c_number : column_of c ≡ c_at.x = ap nat_abs c_column in
          let d_number : column_of d ≡ d_at.x = ap nat_abs d_column in
          let c_from : s.from.0 +ℤ is.move ≡ c.0 = ap (λ (c : Cell). c.0) s.sent in
          let d_from : t.from.0 +ℤ is.move ≡ d.0 = ap (λ (c : Cell). c.0) t.sent in
          let order : s.from.0 <ℤ t.from.0 = omega (arith, ints) in
          let some : some_beside shape_of shape_of s.from ≡ true = implied _ _ (below_to (s.from.0) (t.from.0) order) (is_among-all _ shape_of t.from (is_among-all _ shape_of s.from (columns_join part.piece is.rotation) s.listed) t.listed) in
          let b = beside_in shape_of shape_of s.from some in
          let b_column = b.column in
          let here : b.cell.0 +ℤ is.move ≡ pos c_at.x = omega (arith, ints) in
          let next : (b.cell.0 +ℤ pos 1) +ℤ is.move ≡ pos (c_at.x + 1) = omega (arith, ints) in
          record {
            left = sent is.move is.row b.cell;
            right = sent is.move is.row (b.cell.0 +ℤ pos 1, b.cell.1);
            has_left = has_sent b.cell b.listed;
            has_right = has_sent (b.cell.0 +ℤ pos 1, b.cell.1) b.next;
            left_column = omega (arith, ap nat_abs here, c_number);
            right_column = omega (arith, ap nat_abs next, c_number);
            row = refl;
          }

  -- no two of its cells lie on both sides of a wall
  not_over : (wall k : ℕ) → IsWall F rows wall → (c d : Cell) → is_among part.cells c ≡ true → is_among part.cells d ≡ true → column_of c + 1 + k ≡ wall → wall ≤ column_of d → ⊥
  not_over wall zero is_wall c d has_c has_d here beyond = meet (pair c d has_c has_d (omega arith))
    where
      meet : Pair c → ⊥
      meet p =
          let l = at p.left p.has_left in
          let r = at p.right p.has_right in
          let l_column : column_of p.left ≡ l.x = ap (λ (c : Cell). nat_abs c.0) l.is in
          let r_column : column_of p.right ≡ r.x = ap (λ (c : Cell). nat_abs c.0) r.is in
          let l_row : nat_abs p.left.1 ≡ l.y = ap (λ (c : Cell). nat_abs c.1) l.is in
          let r_row : nat_abs p.right.1 ≡ r.y = ap (λ (c : Cell). nat_abs c.1) r.is in
          let same_row : l.y ≡ r.y = omega (arith, p.row) in
          let before : l.x ≡ wall - 1 = omega (arith, p.left_column) in
          let behind : r.x ≡ wall = omega (arith, p.right_column) in
          is_wall.apart (omega arith) (omega (arith, r.in_columns)) r.y r.below
          (ap (λ x. F x r.y) (sym before) ∙ ap (F l.x) (sym same_row) ∙ l.empty)
          (ap (λ x. F x r.y) (sym behind) ∙ r.empty)
  not_over wall (suc k) is_wall c d has_c has_d here beyond = search (rules, (pair c d has_c has_d), (not_over wall k is_wall))

  pub no_cells_on_both_sides : (wall : ℕ) → IsWall F rows wall → (c d : Cell) → is_among part.cells c ≡ true → is_among part.cells d ≡ true → column_of c < wall → wall ≤ column_of d → ⊥
  no_cells_on_both_sides wall is_wall c d has_c has_d before behind = not_over wall (wall - 1 - column_of c) is_wall c d has_c has_d (omega arith) behind

  -- so where one of its cells stands between two walls, all do
  pub together : (first last : ℕ) → first ≤ last → IsWall F rows first → IsWall F rows (last + 1) → (c d : Cell) → is_among part.cells c ≡ true → is_among part.cells d ≡ true →
      in_columns first (last + 1 - first) c ≡ true → in_columns first (last + 1 - first) d ≡ true
  together first last order left right c d has_c has_d inside =
      search (rules, and_parts, leb-true, ltb-true, and_from, le-leb, cases_lt, lt-ltb, (no_cells_on_both_sides first left d c has_d has_c), (no_cells_on_both_sides (last + 1) right c d has_c has_d))
