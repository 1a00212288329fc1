-- When a state comes to rest on the cells of a canonical placement: its rest is that placement, as far as canonical placements go.
use Rattle.std.proofs.Common.{◌≡◌, ℕ, true, false, nat_abs, ◌==◌, refl, sym, ap, subst, ◌∙◌, inl, inr, arith, rules}
use Rattle.std.proofs.lemmas.Bool.{cases_Bool, false_from_ne_true, eqb-true}
use Rattle.std.proofs.lemmas.Bool.Decides.{nat_tests}
use Rattle.lane_board.specs.Field.{Field}
use Rattle.srs.specs.declared.placement.Placement.{Placement}
use Rattle.srs.specs.Cells.{moved, pivot_of, cells_of, is_inside_of}
use Rattle.srs.specs.SameCells.{is_same_cells}
use Rattle.srs.specs.Canonical.{IsCanonical, canonical_rotation, canonical_move}
use Rattle.srs.proofs.CallerLemmas.{is_same_cells-decides, same_cells-sym, same_cells-trans, LiesAt, canonical_pivot, canonical_unique, found_cells, found_canonical, same_placement, some_same}
use Rattle.well.specs.Free.{is_free}
use Rattle.well.proofs.CallerLemmas.{free_inside}
use Rattle.moves.specs.Rest.{IsRest, rest_of}
use Rattle.moves.specs.PlaceTest.{comes_to_rest}
use Rattle.moves.proofs.CallerLemmas.{not_some}

-- the canonical placement of a state
pub record IsCanonicalOf (low state : Placement) : Type 0 where
  pub kind : low.piece ≡ state.piece
  pub turn : low.rotation ≡ canonical_rotation state.piece state.rotation
  pub pivot : pivot_of low ≡ moved (pivot_of state) (canonical_move state.piece state.rotation)

-- a state that is inside has one
canonical_of : (state : Placement) → is_inside_of state ≡ true → (low : Placement) × IsCanonicalOf low state
canonical_of state inside =
    let lies : LiesAt (moved (pivot_of state) (canonical_move state.piece state.rotation)) = canonical_pivot state inside in
    (record { piece = state.piece; rotation = canonical_rotation state.piece state.rotation; x = lies.x; y = lies.y }, record { kind = refl; turn = refl; pivot = sym lies.is })

-- the state has the cells of the canonical aim exactly where its canonical placement is the aim
pub aim_is : (aim low state : Placement) → IsCanonical aim → IsCanonicalOf low state → is_same_cells (cells_of state) (cells_of aim) ≡ true → low ≡ aim
aim_is aim low state canonical of same =
    canonical_unique low aim (found_canonical low state of.kind of.turn) canonical
    (same_cells-trans (found_cells low state of.kind of.turn of.pivot) ((is_same_cells-decides (cells_of state) (cells_of aim)).0 same))

pub is_aim : (aim low state : Placement) → IsCanonicalOf low state → low ≡ aim → is_same_cells (cells_of state) (cells_of aim) ≡ true
is_aim aim low state of one = search (rules, is_same_cells-decides, same_cells-sym, found_cells)

-- a rest is a free state of the same piece, rotation and column
pub record IsBelow (F : Field) (rest state : Placement) : Type 0 where
  pub kind : rest.piece ≡ state.piece
  pub turn : rest.rotation ≡ state.rotation
  pub column : rest.x ≡ state.x
  pub free : is_free F rest ≡ true

pub rest_below : (F : Field) (state rest : Placement) → IsRest F state rest → IsBelow F rest state
rest_below F state rest falls = search (rules, some_same, nat_abs, not_some)

-- pivots moved alike from one column are in one column
pub one_column : (low above rest state : Placement) → IsCanonicalOf low rest → IsCanonicalOf above state → rest.piece ≡ state.piece → rest.rotation ≡ state.rotation → rest.x ≡ state.x → (low.rotation ≡ above.rotation) × (low.x ≡ above.x)
unfolding moved
one_column low above rest state of up kind turn column = search rules

-- where the canonical placement of the state is turned or stands otherwise than the aim, its rest has other cells
pub elsewhere : (F : Field) (aim above state : Placement) → IsCanonical aim → IsCanonicalOf above state → IsBelow F (rest_of F state) state →
    ((above.rotation ≡ aim.rotation) → (above.x ≡ aim.x) → ⊥) → false ≡ comes_to_rest F aim state
unfolding comes_to_rest
elsewhere F aim above state canonical up below other = sym (false_from_ne_true _ (λ same.
    let low = canonical_of (rest_of F state) (free_inside F (rest_of F state) below.free) in
    let one = aim_is aim low.0 (rest_of F state) canonical low.1 same in
    let there = one_column low.0 above (rest_of F state) state low.1 up below.kind below.turn below.column in
    other (sym there.0 ∙ ap (λ (p : Placement). p.rotation) one) (sym there.1 ∙ ap (λ (p : Placement). p.x) one)))

-- else the rows decide
pub by_rows : (F : Field) (aim above state low rest : Placement) → IsCanonical aim → state.piece ≡ aim.piece → IsCanonicalOf above state → rest ≡ rest_of F state → IsBelow F rest state → IsCanonicalOf low rest →
    above.rotation ≡ aim.rotation → above.x ≡ aim.x → (low.y == aim.y) ≡ comes_to_rest F aim state
unfolding comes_to_rest
by_rows F aim above state low rest canonical kind up is below of turn column =
    let there = one_column low above rest state of up below.kind below.turn below.column in
    subst (λ r. (low.y == aim.y) ≡ is_same_cells (cells_of r) (cells_of aim)) is (elim (cases_Bool (low.y == aim.y)) [
      | inl row ↦ row ∙ sym (is_aim aim low rest of (same_placement low aim (of.kind ∙ below.kind ∙ kind) (there.0 ∙ turn) (there.1 ∙ column) (eqb-true _ _ row)))
      | inr apart ↦ apart ∙ sym (false_from_ne_true _ (λ same.
          let one : low.y ≡ aim.y = ap (λ (p : Placement). p.y) (aim_is aim low rest canonical of same) in
          not_apart low.y aim.y apart one))
    ])
  where
    not_apart : (m n : ℕ) → (m == n) ≡ false → m ≡ n → ⊥
    not_apart m n apart one = grind (arith, nat_tests)
