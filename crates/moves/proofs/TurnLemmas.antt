-- One test of a turn after another, and how far a test moves the pivot.
use Rattle.std.proofs.Common.{◌≡◌, ℕ, suc, ◌+◌, ◌-◌, ◌<◌, ◌≤◌, Bool, cond, pos, neg_ℤ, Option, Some, None, List, [], ◌∷◌, map, refl, ap, arith, rules}
use Rattle.std.specs.Bool.{then_some}
use Rattle.std.specs.List.{range_with_len}
use Rattle.std.proofs.lemmas.Bool.{cases_Bool, cond-true, cond-false, false_from_ne_true}
use Rattle.lane_board.specs.Field.{Field}
use Rattle.srs.specs.declared.offset.Offset.{Offset}
use Rattle.srs.specs.declared.piece.Piece.{Piece}
use Rattle.srs.specs.declared.rotation.Rotation.{Rotation}
use Rattle.srs.specs.declared.placement.Placement.{Placement}
use Rattle.srs.specs.Cells.{Cell}
use Rattle.srs.specs.Kick.{Table, IsSmallTable, pair_of, offset_in, kick_in}
use Rattle.srs.proofs.CallerLemmas.{LiesAt, IsWithin, small_within, list_all_each}
use Rattle.well.specs.Free.{is_free_at}
use Rattle.well.proofs.CallerLemmas.{free_pivot}
use Rattle.moves.specs.Step.{IsShort, first_free}
use Rattle.moves.proofs.WalkLemmas.{not_some}

-- a piece with its pivot outside the well is not free
pub none_outside : (F : Field) (piece : Piece) (rotation : Rotation) (pivot : Cell) → (LiesAt pivot → ⊥) → None ≡ first_free F piece rotation (pivot ∷ [])
unfolding first_free
none_outside F piece rotation pivot outside = search (rules, cond-false, false_from_ne_true, free_pivot)

as_test : (free : Bool) (s : Placement) → then_some free s ≡ cond free (Some s) None
as_test free s = search rules

pub some_inside : (F : Field) (piece : Piece) (rotation : Rotation) (pivot : Cell) (x y : ℕ) (free : Bool) (result : Option Placement) →
    result ≡ then_some free (record { piece = piece; rotation = rotation; x = x; y = y }) → free ≡ is_free_at F piece rotation (pos x, pos y) → pivot ≡ (pos x, pos y) → result ≡ first_free F piece rotation (pivot ∷ [])
unfolding first_free
some_inside F piece rotation pivot x y free result told tested e = search (rules, as_test)

-- where one pivot is not free the next are tried, and where it is they are not
pub next_pivot : (F : Field) (piece : Piece) (rotation : Rotation) (pivot : Cell) (pivots : List Cell) → None ≡ first_free F piece rotation (pivot ∷ []) →
    first_free F piece rotation (pivot ∷ pivots) ≡ first_free F piece rotation pivots
unfolding first_free
next_pivot F piece rotation pivot pivots none = search (rules, cases_Bool, free_pivot, not_some, cond-true, cond-false)

pub this_pivot : (F : Field) (piece : Piece) (rotation : Rotation) (pivot : Cell) (pivots : List Cell) (s : Placement) → Some s ≡ first_free F piece rotation (pivot ∷ []) →
    Some s ≡ first_free F piece rotation (pivot ∷ pivots)
unfolding first_free
this_pivot F piece rotation pivot pivots s some = search (rules, cases_Bool, cond-true, not_some, cond-false)

-- the pivots of this test and those after it
pub pivots_from : (ℕ → Cell) → ℕ → List Cell
pivots_from f test = map f (range_with_len test (6 - test))

pivots_more : (f : ℕ → Cell) (test : ℕ) → test < 6 → pivots_from f test ≡ f test ∷ pivots_from f (test + 1)
unfolding pivots_from
pivots_more f test below = let more : 6 - test ≡ suc (6 - (test + 1)) = omega arith in ap (λ n. map f (range_with_len test n)) more

pub all_pivots : (f : ℕ → Cell) → pivots_from f 1 ≡ f 1 ∷ f 2 ∷ f 3 ∷ f 4 ∷ f 5 ∷ []
unfolding pivots_from
all_pivots f = refl

pub no_pivots : (f : ℕ → Cell) (test : ℕ) → 6 ≤ test → pivots_from f test ≡ []
unfolding pivots_from
no_pivots f test past = let none : 6 - test ≡ 0 = omega arith in ap (λ n. map f (range_with_len test n)) none

pub test_fails : (F : Field) (piece : Piece) (rotation : Rotation) (f : ℕ → Cell) (test : ℕ) (pivot : Cell) → test < 6 → pivot ≡ f test → None ≡ first_free F piece rotation (pivot ∷ []) →
    first_free F piece rotation (pivots_from f (test + 1)) ≡ first_free F piece rotation (pivots_from f test)
test_fails F piece rotation f test pivot below at none = search (rules, pivots_more, next_pivot)

pub test_holds : (F : Field) (piece : Piece) (rotation : Rotation) (f : ℕ → Cell) (test : ℕ) (pivot : Cell) (s : Placement) → test < 6 → pivot ≡ f test → Some s ≡ first_free F piece rotation (pivot ∷ []) →
    Some s ≡ first_free F piece rotation (pivots_from f test)
test_holds F piece rotation f test pivot s below at some = search (rules, this_pivot, pivots_more)

-- an offset of a small table is small
small_offset : (table : Table) (piece : Piece) (rotation : Rotation) (test : ℕ) → IsSmallTable table → 1 ≤ test → test ≤ 5 →
    IsWithin (neg_ℤ (pos 3)) (pos 3) (offset_in table piece rotation test).0 (offset_in table piece rotation test).1
small_offset table piece rotation test small first last = search (rules, small_within, list_all_each)

-- a kick is the difference of two of them
pub kick_is_short : (table : Table) (piece : Piece) (from to : Rotation) (test : ℕ) (change : Offset) → IsSmallTable table → 1 ≤ test → test ≤ 5 → pair_of change ≡ kick_in table piece from to test → IsShort change
kick_is_short table piece from to test change small first last e =
    search (rules, (small_offset table piece from test small first last), (small_offset table piece to test small first last))
