-- Tables of offsets: when two are equal, and what a change of one offset leaves.
use Rattle.std.proofs.Common.{◌≡◌, ℕ, Bool, true, Decides, List, [], ◌∷◌, refl, sym, ap, subst, ◌∙◌, length, map, set, rules}
use Rattle.std.specs.Cmp.Lexicographic.{pointwise}
use Rattle.std.proofs.Math.Bool.{Bool-set}
use Rattle.std.proofs.Math.Nat.{ℕ_set}
use Rattle.std.proofs.Math.Path.{fun_ext}
use Rattle.std.specs.List.{list_all}
use Rattle.std.proofs.lemmas.List.{length-map, map-set}
use Rattle.std.proofs.lemmas.List.Folds.{list_all-map}
use Rattle.srs.specs.declared.piece.Piece.{Piece}
use Rattle.srs.specs.declared.piece.Piece.TheVariants.{I, L, O, Z, T, J, S}
use Rattle.srs.specs.declared.rotation.Rotation.{Rotation}
use Rattle.srs.specs.declared.rotation.Rotation.TheVariants.{Spawn, Right, Reverse, Left}
use Rattle.srs.specs.declared.offset.Offset.{Offset}
use Rattle.srs.specs.declared.rules.Rules.{Rules}
use Rattle.srs.specs.declared.rules.PieceOffsets.{PieceOffsets}
use Rattle.srs.specs.declared.rules.Tests.{Tests}
use Rattle.srs.specs.Cells.{Cell}
use Rattle.srs.specs.Kick.{Table, IsSmallTable, is_small, is_small_move, pair_of, piece_tables_eq, table_eq}
use Rattle.srs.specs.Rules.{table_of, piece_table}
use Rattle.srs.specs.SameCells.{cell_eq, cells_eq}
use Rattle.srs.proofs.CellLemmas.{cells_eq-decides}
use Rattle.srs.proofs.BooleanLemmas.{list_all_each, list_all-true}

-- the offsets of a piece are equal where they are in each rotation
pub same_piece_tables : (t u : Rotation → List Cell) → t Spawn ≡ u Spawn → t Right ≡ u Right → t Reverse ≡ u Reverse → t Left ≡ u Left → t ≡ u
same_piece_tables t u spawn right reverse left = search (rules, fun_ext)

-- tables are equal where they are for each piece
pub same_tables : (t u : Table) → t I ≡ u I → t L ≡ u L → t O ≡ u O → t Z ≡ u Z → t T ≡ u T → t J ≡ u J → t S ≡ u S → t ≡ u
same_tables t u i l o z t-same j s = search (rules, fun_ext)

-- one offset of a list is changed, seen as pairs
pub changed_pairs : (new old : List Offset) (i : ℕ) (offset : Offset) → new ≡ set old i offset → map pair_of new ≡ set (map pair_of old) i (pair_of offset)
changed_pairs new old i offset is = ap (map pair_of) is ∙ map-set pair_of old i offset

-- a test of two lists of offsets is that of their pairs
pub pointwise-pairs : (E : Offset → Offset → Bool) → ((x y : Offset) → E x y ≡ cell_eq (pair_of x) (pair_of y)) → (xs ys : List Offset) → pointwise E xs ys ≡ cells_eq (map pair_of xs) (map pair_of ys)
pointwise-pairs E is [] [] = refl
pointwise-pairs E is [] (y ∷ ys) = refl
pointwise-pairs E is (x ∷ xs) [] = refl
pointwise-pairs E is (x ∷ xs) (y ∷ ys) = search (rules, (pointwise-pairs E is xs ys))

cells_eq-itself : (xs : List Cell) → cells_eq xs xs ≡ true
cells_eq-itself xs = (cells_eq-decides xs xs).1 refl

-- so does the test of the offsets of a piece
pub piece_tables_eq-decides : (t u : Rotation → List Cell) → Decides (piece_tables_eq t u) (t ≡ u)
piece_tables_eq-decides t u = search (rules, list_all_each, same_piece_tables, cells_eq-decides, list_all-true, cells_eq-itself)

-- so does the test of tables
pub table_eq-decides : (t u : Table) → Decides (table_eq t u) (t ≡ u)
table_eq-decides t u = search (rules, list_all_each, same_tables, piece_tables_eq-decides, list_all-true)

-- what `Tests` keeps, seen as pairs
small_pairs : (tests : Tests) → (length (map pair_of tests.offsets) ≡ 5) × (list_all is_small_move (map pair_of tests.offsets) ≡ true)
small_pairs tests = (length-map tests.offsets pair_of ∙ tests.five, list_all-map is_small_move pair_of tests.offsets ∙ tests.small)

small_piece_table : (offsets : PieceOffsets) (r : Rotation) → (length (piece_table offsets r) ≡ 5) × (list_all is_small_move (piece_table offsets r) ≡ true)
small_piece_table offsets Spawn = small_pairs offsets.spawn
small_piece_table offsets Right = small_pairs offsets.right
small_piece_table offsets Reverse = small_pairs offsets.reverse
small_piece_table offsets Left = small_pairs offsets.left

-- the table of any rules has five small offsets for each piece and rotation
pub table_of-small : (rules : Rules) → IsSmallTable (table_of rules)
unfolding table_of
table_of-small rules = record { five = λ p r. (at_piece p r).0; small = λ p r. (at_piece p r).1 }
  where
    at_piece : (p : Piece) (r : Rotation) → (length (table_of rules p r) ≡ 5) × (list_all is_small_move (table_of rules p r) ≡ true)
    at_piece I = small_piece_table rules.i
    at_piece L = small_piece_table rules.l
    at_piece O = small_piece_table rules.o
    at_piece Z = small_piece_table rules.z
    at_piece T = small_piece_table rules.t
    at_piece J = small_piece_table rules.j
    at_piece S = small_piece_table rules.s

-- rules are no more than their table

made : (offsets : List Offset) → length offsets ≡ 5 → list_all is_small offsets ≡ true → Tests
made offsets five small = record { offsets = offsets; five = five; small = small }

offset_of : Cell → Offset
offset_of pair = record { dx = pair.0; dy = pair.1 }

offsets_of : (offsets : List Offset) → map offset_of (map pair_of offsets) ≡ offsets
unfolding offset_of
offsets_of [] = refl
offsets_of (x ∷ xs) = ap (λ l. x ∷ l) (offsets_of xs)

same_tests : (s t : Tests) → map pair_of s.offsets ≡ map pair_of t.offsets → s ≡ t
unfolding made
same_tests s t e =
    let same : s.offsets ≡ t.offsets = sym (offsets_of s.offsets) ∙ ap (map offset_of) e ∙ offsets_of t.offsets in
    subst (λ offsets. (five : length offsets ≡ 5) (small : list_all is_small offsets ≡ true) → s ≡ made offsets five small) same
    (λ five small. λ i. made s.offsets (ℕ_set _ _ s.five five i) (Bool-set _ _ s.small small i)) t.five t.small

same_piece_offsets : (t u : PieceOffsets) → piece_table t ≡ piece_table u → t ≡ u
same_piece_offsets t u e =
    search (rules, (same_tests t.spawn u.spawn (ap (λ (f : Rotation → List Cell). f Spawn) e)), (same_tests t.right u.right (ap (λ (f : Rotation → List Cell). f Right) e)), (same_tests t.reverse u.reverse (ap (λ (f : Rotation → List Cell). f Reverse) e)), (same_tests t.left u.left (ap (λ (f : Rotation → List Cell). f Left) e)))

pub table_of-injective : (r q : Rules) → table_of r ≡ table_of q → r ≡ q
unfolding table_of
table_of-injective r q e =
    search (rules, (same_piece_offsets r.i q.i (ap (λ (f : Table). f I) e)), (same_piece_offsets r.l q.l (ap (λ (f : Table). f L) e)), (same_piece_offsets r.o q.o (ap (λ (f : Table). f O) e)), (same_piece_offsets r.z q.z (ap (λ (f : Table). f Z) e)), (same_piece_offsets r.t q.t (ap (λ (f : Table). f T) e)), (same_piece_offsets r.j q.j (ap (λ (f : Table). f J) e)), (same_piece_offsets r.s q.s (ap (λ (f : Table). f S) e)))
