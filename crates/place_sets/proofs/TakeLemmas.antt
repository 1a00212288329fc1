-- What is held after the least placement is taken, and what lies below a row.
use Rattle.std.proofs.Common.{◌≡◌, ◌≢◌, ◌↔◌, ℕ, ◌-◌, ◌<◌, Bool, true, false, cond, nat_lt, ◌&&◌, not, ◌==◌, ℤ, pos, Option, Some, None, List, [], ◌∷◌, get_or, ◌⊎◌, refl, sym, ap, ◌∙◌, inl, inr, arith, rules}
use Rattle.std.specs.Prelude.{IsTrue, int_lt, int_le, ◌<ℤ◌}
use Rattle.std.specs.Int.Signed.{le_z_yes}
use Rattle.std.specs.List.{list_all}
use Rattle.std.specs.Ordering.{int_eq}
use Rattle.std.specs.Cmp.{signed_Decides}
use Rattle.std.proofs.lemmas.Bool.{and_parts, and_from, lt-ltb, ltb-true, eqb-true, eq-eqb, not-true, not_from_false, both_ways, cases_Bool}
use Rattle.std.proofs.lemmas.List.Folds.{list_all-map}
use Rattle.srs.specs.declared.piece.Piece.{Piece}
use Rattle.srs.specs.declared.rotation.Rotation.{Rotation}
use Rattle.srs.specs.declared.placement.Placement.{Placement}
use Rattle.srs.specs.Cells.{Cell, minus, moved, shape}
use Rattle.srs.specs.SameCells.{is_among}
use Rattle.srs.specs.Rotation.{rotation_index}
use Rattle.srs.proofs.CallerLemmas.{is_among-all, list_all-from_is_among, each_state, rotation_index-small}
use Rattle.well.specs.LockLaws.{is_below}
use Rattle.place_sets.specs.declared.held.Places.{Places}
use Rattle.place_sets.specs.Numbers.{has_number, number_of_state}
use Rattle.place_sets.specs.Places.{holds}
use Rattle.place_sets.specs.States.{has_state}
use Rattle.place_sets.specs.Tops.{rows_over_pivot}
use Rattle.place_sets.proofs.PlaceNumbers.{number-within, number-has, has-number, HasNumber, number_is, same_number}
use Rattle.place_sets.proofs.ScanLemmas.{holds-parts, holds-from}

-- sets of one piece of which one has those of the other's numbers that pass a test
module _ (old new : Places) (kind : new.piece ≡ old.piece) where
  pub held_where : (q : Placement) (test : Bool) → (q.x < 16 → q.y < 24 → has_number new.numbers (number_of_state (rotation_index q.rotation) q.y q.x) ≡ (has_number old.numbers (number_of_state (rotation_index q.rotation) q.y q.x) && test)) →
      IsTrue (holds new q) ↔ (IsTrue (holds old q) × (test ≡ true))
  unfolding has_state
  held_where q test same =
      search (rules, holds-parts, number-within, and_parts, number-has, holds-from, has-number, and_from)

  -- one number is taken out
  pub taken_one : (n : ℕ) (s : Placement) → n < 1536 → HasNumber n s → s.piece ≡ old.piece → ((m : ℕ) → m < 1536 → has_number new.numbers m ≡ (has_number old.numbers m && not (n == m))) → (q : Placement) →
      IsTrue (holds new q) ↔ (IsTrue (holds old q) × (Some s ≢ Some q))
  unfolding has_state
  taken_one n s small at kind_s taken q =
      let few = rotation_index-small q.rotation in
      let iff = held_where q (not (n == number_of_state (rotation_index q.rotation) q.y q.x)) (λ column row. taken (number_of_state (rotation_index q.rotation) q.y q.x) (omega arith)) in (
        λ held. let parts = iff.0 held in (parts.0, λ e. both_ways _ (not-true _ parts.1) (eq-eqb n _ (sym (ap (λ (o : Option Placement). n_of o) (sym e) ∙ number_is n s small at)))),
        λ found. iff.1 (found.0, other found.0 found.1 (cases_Bool (n == number_of_state (rotation_index q.rotation) q.y q.x))),
      )
    where
      n_of : Option Placement → ℕ
      n_of None = 0
      n_of (Some t) = number_of_state (rotation_index t.rotation) t.y t.x

      other : IsTrue (holds old q) → (Some s ≢ Some q) → ((n == number_of_state (rotation_index q.rotation) q.y q.x) ≡ true) ⊎ ((n == number_of_state (rotation_index q.rotation) q.y q.x) ≡ false) → not (n == number_of_state (rotation_index q.rotation) q.y q.x) ≡ true
      other held apart (inl same) =
          let parts = holds-parts old q held in
          let within = number-within old.numbers q.rotation q.x q.y parts.1 in
          absurd (apart (ap (λ (t : Placement). Some t) (same_number n s q at (kind_s ∙ sym parts.0) within.0 within.1 (sym (eqb-true n _ same)))))
      other held apart (inr none) = not_from_false _ none

  -- nothing is taken out
  pub taken_none : ((m : ℕ) → m < 1536 → has_number new.numbers m ≡ (has_number old.numbers m && true)) → (q : Placement) → IsTrue (holds new q) ↔ (IsTrue (holds old q) × (None ≢ Some q))
  taken_none taken q = search (rules, (held_where q true))

-- a highest cell
top_cell : List Cell → Cell
top_cell [] = (pos 0, minus 9)
top_cell (c ∷ cs) = cond (int_le (top_cell cs).1 c.1) c (top_cell cs)

has_top : (p : Piece) (r : Rotation) → is_among (shape p r) (top_cell (shape p r)) ≡ true
unfolding top_cell is_among
has_top = each_state (λ p r. is_among (shape p r) (top_cell (shape p r))) refl

top_is : (p : Piece) (r : Rotation) → (top_cell (shape p r)).1 ≡ pos (rows_over_pivot p r)
unfolding top_cell
top_is p r = (signed_Decides _ _).0 (each_state (λ p r. int_eq (top_cell (shape p r)).1 (pos (rows_over_pivot p r))) refl p r)

is_under_top : Piece → Rotation → Cell → Bool
is_under_top p r c = int_le c.1 (pos (rows_over_pivot p r))

all_under_top : (p : Piece) (r : Rotation) → list_all (is_under_top p r) (shape p r) ≡ true
unfolding is_under_top
all_under_top = each_state (λ p r. list_all (is_under_top p r) (shape p r)) refl

less_yes : (z : ℤ) (n : ℕ) → int_lt z (pos n) ≡ true → z <ℤ pos n
less_yes z n is = search (rules, ltb-true)

less_is : (z : ℤ) (n : ℕ) → z <ℤ pos n → int_lt z (pos n) ≡ true
less_is z n less = search (rules, lt-ltb)

-- all cells lie below the row where the pivot does so by as much as the highest cell lies above it
pub below_by_pivot : (rows : ℕ) (q : Placement) → (nat_lt q.y (rows - rows_over_pivot q.piece q.rotation) ≡ true) ↔ (is_below rows q ≡ true)
unfolding moved is_under_top
below_by_pivot rows q =
    search (rules, ltb-true, list_all-map, list_all-from_is_among, le_z_yes, is_among-all, all_under_top, less_is, has_top, less_yes, top_is, lt-ltb)

pub below_held : (old new : Places) (rows : ℕ) (left : List ℕ) → new.piece ≡ old.piece → ((r : Rotation) → get_or left (rotation_index r) 0 ≡ rows - rows_over_pivot old.piece r) →
    ((index y x : ℕ) → index < 4 → y < 24 → x < 16 → has_number new.numbers (number_of_state index y x) ≡ (has_number old.numbers (number_of_state index y x) && nat_lt y (get_or left index 0))) → (q : Placement) →
    IsTrue (holds new q) ↔ (IsTrue (holds old q) × IsTrue (is_below rows q))
below_held old new rows left kind is keeps q =
    search (rules, (held_where old new kind q (nat_lt q.y (get_or left (rotation_index q.rotation) 0)) (λ column row. keeps (rotation_index q.rotation) q.y q.x (rotation_index-small q.rotation) row column)), (below_by_pivot rows q), (holds-parts old q), (nat_lt q.y (get_or left (rotation_index q.rotation) 0)), (nat_lt q.y (rows - rows_over_pivot q.piece q.rotation)), (nat_lt q.y))
