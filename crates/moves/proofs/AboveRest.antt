-- The rest of a state, seen from the rest: the state stands so many rows above it, and is free on the way.
use Rattle.std.proofs.Common.{◌≡◌, ℕ, ◌+◌, ◌-◌, ◌≤◌, true, ℤ, pos, ◌-ℤ◌, refl, sym, ap, subst, ◌∙◌, arith, rules}
use Rattle.std.proofs.lemmas.Int.{ints}
use Rattle.lane_board.specs.Field.{Field}
use Rattle.srs.specs.declared.placement.Placement.{Placement}
use Rattle.srs.specs.Cells.{Cell}
use Rattle.well.specs.Free.{is_free_at}
use Rattle.well.proofs.CallerLemmas.{free_pivot}
use Rattle.moves.specs.Step.{state_at}
use Rattle.moves.specs.Rest.{lowered, IsRest}
use Rattle.moves.specs.RestingStates.{IsResting}
use Rattle.srs.proofs.CallerLemmas.{some_same}

pub record StandsAbove (F : Field) (s t : Placement) : Type 0 where
  pub rows : ℕ
  pub is : s ≡ record { piece = t.piece; rotation = t.rotation; x = t.x; y = t.y + rows }
  pub free : (j : ℕ) → j ≤ rows → is_free_at F t.piece t.rotation (pos t.x, pos (t.y + j)) ≡ true
  pub rests : IsResting F t

-- the cell so many rows below
lowered_is : (x y row k : ℕ) → y ≡ row + k → ◌≡◌ {A = Cell} (pos x, pos y -ℤ pos k) (pos x, pos row)
lowered_is x y row k e = let same : pos y -ℤ pos k ≡ pos row = omega (arith, ints) in λ i. (pos x, same i)

same_pos : (m n : ℕ) → ◌≡◌ {A = ℤ} (pos m) (pos n) → m ≡ n
same_pos m n e = omega (arith, ints)

pub stands_above : (F : Field) (s t : Placement) → IsRest F s t → StandsAbove F s t
stands_above F s t rest =
    let lies = free_pivot F s.piece s.rotation (lowered s rest.rows) (rest.free rest.rows (omega arith)) in
    let column : s.x ≡ lies.x = same_pos s.x lies.x (ap (λ (c : Cell). c.0) lies.is) in
    let row : pos s.y -ℤ pos rest.rows ≡ pos lies.y = ap (λ (c : Cell). c.1) lies.is in
    let height : s.y ≡ lies.y + rest.rows = omega (arith, ints) in
    let same : record { piece = s.piece; rotation = s.rotation; x = s.x; y = lies.y } ≡ t = some_same (ap (state_at s.piece s.rotation) (sym (lowered_is s.x s.y lies.y rest.rows height)) ∙ rest.rests) in
    subst (StandsAbove F s) same (record {
      rows = rest.rows;
      is = λ i. record { piece = s.piece; rotation = s.rotation; x = s.x; y = height i };
      free = λ j within.
          let up : s.y ≡ (lies.y + j) + (rest.rows - j) = omega arith in
          subst (λ (c : Cell). is_free_at F s.piece s.rotation c ≡ true) (lowered_is s.x s.y (lies.y + j) (rest.rows - j) up) (rest.free (rest.rows - j) (omega arith));
      rests = search (rules, lowered_is);
    })

-- and back
pub comes_to_rest : (F : Field) (t : Placement) (rows : ℕ) → ((j : ℕ) → j ≤ rows → is_free_at F t.piece t.rotation (pos t.x, pos (t.y + j)) ≡ true) → IsResting F t →
    IsRest F (record { piece = t.piece; rotation = t.rotation; x = t.x; y = t.y + rows }) t
comes_to_rest F t rows free rests = record {
  rows = rows;
  free = λ k within.
      let up : t.y + rows ≡ (t.y + (rows - k)) + k = omega arith in
      subst (λ (c : Cell). is_free_at F t.piece t.rotation c ≡ true) (sym (lowered_is t.x (t.y + rows) (t.y + (rows - k)) k up)) (free (rows - k) (omega arith));
  blocked = search rules;
  rests = ap (state_at t.piece t.rotation) (lowered_is t.x (t.y + rows) t.y rows refl);
}
