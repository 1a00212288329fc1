-- The search goes down: it has fewer pieces or fewer spans left, and what was tried in vain stays tried.
use Rattle.std.proofs.Common.{◌≡◌, ℕ, ◌+◌, bit_and, ◌<◌, ◌≤◌, Bool, true, false, not, ◌&&◌, ◌==◌, if◌then◌else◌, nat_le, nat_lt, List, [], ◌∷◌, length, get_or, refl, sym, ap, ap₂, subst, ◌∙◌, inl, inr, arith}
use Rattle.std.proofs.lemmas.Bool.{and_parts, both_ways, cases_eq, eq-eqb, eqb-true, le-ltb, ne_eqb}
use Rattle.lane_board.proofs.CallerLemmas.{has_bit-zero}
use Rattle.lane_board.specs.Lanes.{has_bit}
use Rattle.empty_cells.proofs.CallerLemmas.{IsSmall, bit_from_may, fills_stacked, may_from_bit, some_in_span, stacked_first, was_unset}
use Rattle.lane_board.specs.Field.{Field}
use Rattle.srs.specs.declared.piece.Piece.{Piece}
use Rattle.srs.specs.declared.piece.Piece.TheVariants.{I, L, O, Z, T, J, S}
use Rattle.prune.specs.Tiling.{Supply}
use Rattle.empty_cells.specs.declared.span.Span.{Span}
use Rattle.empty_cells.specs.Spans.{forms_of, has_first, has_span, without_span, IsFirst}
use Rattle.empty_cells.specs.Stacks.{MayTake, StacksOver, StacksPiece, Stacks, TakesPiece, is_allowed, CanFill}

-- spans can't be stacked with the lowest one in this row
pub record FailsIn (supply : Supply) (E : Field) (x y floor : ℕ) (span : Span) (spans : List Span) (row : ℕ) : Type 0 where
  pub fails : MayTake (is_allowed y) E x floor span row → StacksOver supply (without_span E x span row) x y (row + 1) spans → ⊥

-- the supply fills a set that a piece of it takes
pub fills_taken : (supply : Supply) (E : Field) (piece : Piece) (x y : ℕ) → IsSmall 8 E → TakesPiece supply E x y piece → CanFill 8 supply E
fills_taken supply E piece x y small takes = fills_stacked E supply piece x y small takes.has takes.stacks

-- one that is filled is taken by a piece of some kind: by a J where no other kind does
pub some_takes : (supply : Supply) (E : Field) (x y : ℕ) → IsSmall 8 E → IsFirst E x y → (TakesPiece supply E x y O → ⊥) → (TakesPiece supply E x y S → ⊥) → (TakesPiece supply E x y Z → ⊥) →
    (TakesPiece supply E x y I → ⊥) → (TakesPiece supply E x y T → ⊥) → (TakesPiece supply E x y L → ⊥) → CanFill 8 supply E → TakesPiece supply E x y J
some_takes supply E x y small first no_o no_s no_z no_i no_t no_l filling =
    let by = stacked_first E supply x y small first filling in
    last by.piece (record { has = by.some; stacks = by.stacks })
  where
    last : (piece : Piece) → TakesPiece supply E x y piece → TakesPiece supply E x y J
    last I takes = absurd (no_i takes)
    last L takes = absurd (no_l takes)
    last O takes = absurd (no_o takes)
    last Z takes = absurd (no_z takes)
    last T takes = absurd (no_t takes)
    last J takes = takes
    last S takes = absurd (no_s takes)

-- with no spans there is nothing to stack
pub stacks_none : (supply : Supply) (E : Field) (x y floor : ℕ) (spans : List Span) (b : Bool) → length spans ≡ 0 → ((b ≡ true → CanFill 8 supply E) × (CanFill 8 supply E → b ≡ true)) →
    (b ≡ true → StacksOver supply E x y floor spans) × (StacksOver supply E x y floor spans → b ≡ true)
unfolding Stacks
stacks_none supply E x y floor [] b none same = same
stacks_none supply E x y floor (span ∷ spans) b none same = absurd (omega arith)

-- the lowest span takes a row
pub stacks_more : (supply : Supply) (E rest : Field) (x y floor row : ℕ) (span : Span) (spans all : List Span) → all ≡ span ∷ spans → rest ≡ without_span E x span row →
    MayTake (is_allowed y) E x floor span row → StacksOver supply rest x y (row + 1) spans → StacksOver supply E x y floor all
unfolding Stacks
stacks_more supply E rest x y floor row span spans all is left may stacks =
    subst (λ all. StacksOver supply E x y floor all) (sym is) (row, may, subst (λ (G : Field). StacksOver supply G x y (row + 1) spans) left stacks)

-- or can take none
pub stacks_fail : (supply : Supply) (E : Field) (x y floor : ℕ) (span : Span) (spans all : List Span) → IsSmall 8 E → all ≡ span ∷ spans →
    ((row : ℕ) → floor ≤ row → row < 8 → is_allowed y floor span row ≡ true → FailsIn supply E x y floor span spans row) → StacksOver supply E x y floor all → ⊥
unfolding Stacks
stacks_fail supply E x y floor span spans all small is fails stacks = fail (subst (λ all. StacksOver supply E x y floor all) is stacks)
  where
    fail : StacksOver supply E x y floor (span ∷ spans) → ⊥
    fail taken =
        let cell = some_in_span E x span taken.0 taken.1.has in
        (fails taken.0 taken.1.above (small.row cell.0 taken.0 cell.1) taken.1.permitted).fails taken.1 taken.2

-- The rows that are still to be tried: the lowest span may take each of them, and was tried in vain in every other one.
pub record Tried (supply : Supply) (E : Field) (x y floor : ℕ) (span : Span) (spans : List Span) (rows : ℕ) : Type 0 where
  pub may : (row : ℕ) → row < 8 → has_bit rows row ≡ true → MayTake (is_allowed y) E x floor span row
  pub failed : (row : ℕ) → row < 8 → has_bit rows row ≡ false → FailsIn supply E x y floor span spans row

pub tried-start : (supply : Supply) (E : Field) (x y floor : ℕ) (span : Span) (spans : List Span) (rows permitted : ℕ) →
    ((row : ℕ) → row < 8 → has_bit rows row ≡ has_span E x span row) →
    ((row : ℕ) → row < 8 → has_bit permitted row ≡ (nat_le floor row && is_allowed y floor span row)) →
    Tried supply E x y floor span spans (bit_and rows permitted)
tried-start supply E x y floor span spans rows permitted has allowed = record {
  may = may_from_bit E x y floor span rows permitted has allowed;
  failed = λ row low none. record {
    fails = λ may stacks. both_ways _ none (bit_from_may E x y floor span rows permitted has allowed row low may);
  };
}

pub tried-next : (supply : Supply) (E : Field) (x y floor : ℕ) (span : Span) (spans : List Span) (rows less row : ℕ) → Tried supply E x y floor span spans rows →
    FailsIn supply E x y floor span spans row → ((k : ℕ) → k < 8 → has_bit less k ≡ (has_bit rows k && not (k == row))) → Tried supply E x y floor span spans less
tried-next supply E x y floor span spans rows less row tried fails others = record {
  may = λ k low bit. tried.may k low (and_parts _ _ (sym (others k low) ∙ bit)).0;
  failed = λ k low none. elim (cases_eq k row) [
    | inl same ↦ subst (λ k. FailsIn supply E x y floor span spans k) (sym same) fails
    | inr other ↦ tried.failed k low (was_unset (has_bit rows k) (k == row) (ne_eqb k row other) (sym (others k low) ∙ none))
  ];
}

-- where no row is left, the spans can't be stacked
pub all_tried : (supply : Supply) (E : Field) (x y floor : ℕ) (span : Span) (spans : List Span) (rows : ℕ) → IsSmall 8 E → rows ≡ 0 → Tried supply E x y floor span spans rows →
    StacksOver supply E x y floor (span ∷ spans) → ⊥
all_tried supply E x y floor span spans rows small none tried stacks =
    stacks_fail supply E x y floor span spans _ small refl (λ row above low permitted. tried.failed row low (ap (λ n. has_bit n row) none ∙ has_bit-zero row)) stacks

-- the third of the forms of a piece
pub third_form : (supply : Supply) (E : Field) (x y : ℕ) (piece kind : Piece) → piece ≡ kind → 2 < length (forms_of kind) →
    StacksOver supply E x y 0 (get_or (forms_of kind) 2 []) → StacksPiece supply E x y piece
third_form supply E x y piece kind is below stacks =
    subst (λ (p : Piece). StacksPiece supply E x y p) (sym is) (record { index = 2; known = below; stacks = stacks })

-- a span with the leftmost column may take row y, where it has all its cells
pub first_may : (E : Field) (x y : ℕ) (span : Span) → has_first span ≡ true → has_span E x span y ≡ true → MayTake (is_allowed y) E x 0 span y
first_may E x y span first has = record {
  above = omega arith;
  permitted = ap₂ (λ b f. if b then true else (if f then y == y else nat_lt y y)) (le-ltb y 0 (omega arith)) first ∙ eq-eqb y y refl;
  has = has;
}

-- and no other one
pub first_only : (supply : Supply) (E : Field) (x y : ℕ) (span : Span) (spans : List Span) → has_first span ≡ true → StacksOver supply E x y 0 (span ∷ spans) →
    (has_span E x span y ≡ true) × StacksOver supply (without_span E x span y) x y (y + 1) spans
unfolding Stacks
first_only supply E x y span spans first (row, may, rest) =
    let here : row ≡ y = eqb-true row y (sym (ap₂ (λ b f. if b then true else (if f then row == y else nat_lt row y)) (le-ltb y 0 (omega arith)) first) ∙ may.permitted) in (
      subst (λ k. has_span E x span k ≡ true) here may.has,
      subst (λ k. StacksOver supply (without_span E x span k) x y (k + 1) spans) here rest,
    )

-- so such spans can be stacked exactly where the others can above it
pub first_exact : (supply : Supply) (E rest : Field) (x y : ℕ) (span : Span) (spans : List Span) (b : Bool) → has_first span ≡ true → has_span E x span y ≡ true → rest ≡ without_span E x span y →
    ((b ≡ true → StacksOver supply rest x y (y + 1) spans) × (StacksOver supply rest x y (y + 1) spans → b ≡ true)) →
    (b ≡ true → StacksOver supply E x y 0 (span ∷ spans)) × (StacksOver supply E x y 0 (span ∷ spans) → b ≡ true)
first_exact supply E rest x y span spans b first has left exact = (
  λ e. stacks_more supply E rest x y 0 y span spans _ refl left (first_may E x y span first has) (exact.0 e),
  λ stacks. exact.1 (subst (λ (G : Field). StacksOver supply G x y (y + 1) spans) (sym left) (first_only supply E x y span spans first stacks).1),
)
