-- A set whose columns are counted from one of them, beside the same with its columns counted from 0.
use Rattle.std.proofs.Common.{◌≡◌, ◌↔◌, ℕ, ◌+◌, ◌-◌, ◌<◌, ◌≤◌, true, false, not, ◌&&◌, ◌==◌, nat_le, List, sym, ap, subst, ◌∙◌, inl, inr, arith, rules}
use Rattle.std.proofs.Math.Path.{fun_ext}
use Rattle.std.specs.List.{list_any}
use Rattle.std.proofs.lemmas.Bool.{and_left, and_right, and_parts, cases_lt, le-leb, leb-true, eq-eqb, eqb-true, false_from_ne_true}
use Rattle.lane_board.specs.Field.{Field}
use Rattle.lane_board.proofs.CallerLemmas.{same_from_both}
use Rattle.prune.specs.Tiling.{Supply, Tiling}
use Rattle.empty_cells.specs.declared.shifted.Shifted.{Shifted}
use Rattle.empty_cells.specs.declared.span.Span.{Span}
use Rattle.empty_cells.specs.Empties.{all_but, empty_cells}
use Rattle.empty_cells.specs.ShiftedCells.{shifted_cells, to_column}
use Rattle.empty_cells.specs.Spans.{columns_of, from_column, has_span, without_span, HasNoCell, IsFirst}
use Rattle.empty_cells.proofs.EmptiesLemmas.{cells_small}
use Rattle.empty_cells.proofs.MovedTilings.{MovedTo, both_moved, moved_back, moved_from}
use Rattle.empty_cells.proofs.StackLemmas.{IsSmall}

-- no column before the first one
pub none_before : (x : ℕ) (E : Field) (a b : ℕ) → a < x → to_column x E a b ≡ false
unfolding to_column
none_before x E a b before = and_left _ _ (false_from_ne_true _ (λ (le : nat_le x a ≡ true). omega (arith, before, leb-true x a le)))

-- from it on, the columns of the other set
pub from_there : (x : ℕ) (E : Field) (a b : ℕ) → x ≤ a → to_column x E a b ≡ E (a - x) b
unfolding to_column
from_there x E a b from = ap (λ t. t && E (a - x) b) (le-leb x a from)

-- the columns counted from it again
pub back_from : (x : ℕ) (E : Field) → from_column x (to_column x E) ≡ E
unfolding from_column
back_from x E = fun_ext (λ a. fun_ext (λ b. from_there x E (x + a) b (omega arith) ∙ ap (λ k. E k b) {x = x + a - x} {y = a} (omega arith)))

pub span_there : (x : ℕ) (E : Field) (span : Span) (y : ℕ) → has_span E 0 span y ≡ has_span (to_column x E) x span y
unfolding has_span
span_there x E span y = search (rules, from_there)

pub without_there : (x : ℕ) (E : Field) (span : Span) (y : ℕ) → to_column x (without_span E 0 span y) ≡ without_span (to_column x E) x span y
unfolding without_span
without_there x E span y = fun_ext (λ a. fun_ext (λ b. elim (cases_lt a x) [
  | inl before ↦ none_before x (λ a b. E a b && not (list_any (λ c. 0 + c == a) (columns_of span) && y == b)) a b before ∙ sym (and_left _ _ (none_before x E a b before))
  | inr from ↦ search (rules, from_there, each)
]))
  where
    each : (a : ℕ) → x ≤ a → (columns : List ℕ) → list_any (λ c. 0 + c == a - x) columns ≡ list_any (λ c. x + c == a) columns
    each a from h2 = search (rules, same_from_both, eqb-true, eq-eqb)

-- the first cell
pub first_there : (x : ℕ) (E : Field) (d y : ℕ) → ((a b : ℕ) → E a b ≡ true → x + a ≤ 9) → IsFirst E d y → IsFirst (to_column x E) (x + d) y
first_there x E d y within first = search (rules, cases_lt, none_before, from_there)

pub none_there : (x : ℕ) (E : Field) → HasNoCell E → HasNoCell (to_column x E)
unfolding to_column
none_there x E none = record { none = λ a b. and_right (nat_le x a) _ (none.none (a - x) b) }

-- no column before that cell is lost
pub counted_from : (x : ℕ) (E : Field) (d y : ℕ) → IsFirst E d y → to_column (x + d) (from_column d E) ≡ to_column x E
unfolding from_column
counted_from x E d y first = search (rules, fun_ext, cases_lt, none_before, from_there)

-- the cells lie in columns 0 to 9 and rows 0 to 7
pub shifted_small : (s : Shifted) → IsSmall 8 (shifted_cells s)
unfolding to_column
shifted_small s = search (rules, (leb-true s.x), and_parts, s.within, (cells_small s.cells))

-- both have a tiling, or none has
pub tiled_there : (s : Shifted) (supply : Supply) → Tiling (all_but (empty_cells s.cells)) 8 supply ↔ Tiling (all_but (shifted_cells s)) 8 supply
tiled_there s supply = subst (λ (E : Field). Tiling (all_but E) 8 supply ↔ Tiling (all_but (shifted_cells s)) 8 supply) (back_from s.x (empty_cells s.cells))
    (both_moved (shifted_cells s) s.x (shifted_small s) (λ a b before. none_before s.x (empty_cells s.cells) a b before) supply)

-- a tiling of these cells, and the same with the columns counted from that one
pub counted_tiling : (s : Shifted) (supply : Supply) (t : Tiling (all_but (shifted_cells s)) 8 supply) → MovedTo (all_but (from_column s.x (shifted_cells s))) supply t.parts
counted_tiling s supply t = moved_from (shifted_cells s) s.x (shifted_small s) (λ a b before. none_before s.x (empty_cells s.cells) a b before) supply t

pub tiling_there : (s : Shifted) (supply : Supply) (t : Tiling (all_but (from_column s.x (shifted_cells s))) 8 supply) → MovedTo (all_but (shifted_cells s)) supply t.parts
tiling_there s supply t = moved_back (shifted_cells s) s.x (shifted_small s) (λ a b before. none_before s.x (empty_cells s.cells) a b before) supply t
