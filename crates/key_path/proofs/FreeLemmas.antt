-- A free pivot that is tried first is taken.
use Rattle.std.proofs.Common.{◌≡◌, ℕ, true, pos, Option, Some, List, [], ◌∷◌, ap, ◌∙◌, rules}
use Rattle.std.specs.Prelude.{IfSome}
use Rattle.std.proofs.lemmas.Bool.{cond-true}
use Rattle.lane_board.specs.Field.{Field}
use Rattle.srs.specs.declared.piece.Piece.{Piece}
use Rattle.srs.specs.declared.rotation.Rotation.{Rotation}
use Rattle.srs.specs.declared.placement.Placement.{Placement}
use Rattle.srs.specs.Cells.{Cell, moved, pivot_of}
use Rattle.srs.specs.Kick.{Table, kick_in}
use Rattle.well.specs.Free.{is_free_at}
use Rattle.moves.specs.declared.key.Key.{Key}
use Rattle.moves.specs.Step.{first_free, shifted, step_of, turned}

module _ (F : Field) where
  -- a free pivot that is tried first is taken
  pub first_is : (own piece : Piece) (r : Rotation) (pivot : Cell) (x y : ℕ) (pivots : List Cell) → piece ≡ own → pivot ≡ (pos x, pos y) → is_free_at F own r (pos x, pos y) ≡ true →
      first_free F piece r (pivot ∷ pivots) ≡ Some (record { piece = piece; rotation = r; x = x; y = y })
  unfolding first_free
  first_is own piece r pivot x y pivots kind is free = search (rules, cond-true)

  -- so is that of the first test of a turn
  pub turned_first : (table : Table) (state : Placement) (to : Rotation) (move : Cell) (next : Placement) → move ≡ kick_in table state.piece state.rotation to 1 →
      ((pivots : List Cell) → first_free F state.piece to (moved (pivot_of state) move ∷ pivots) ≡ Some next) → turned table F state to ≡ Some next
  unfolding turned
  turned_first table state to move next is leads = search rules

  -- and the pivot beside or below
  pub shifted_first : (table : Table) (state : Placement) (key other : Key) (move : Cell) (next : Placement) → key ≡ other → step_of table F state other ≡ shifted F state move →
      ((pivots : List Cell) → first_free F state.piece state.rotation (moved (pivot_of state) move ∷ pivots) ≡ Some next) → step_of table F state key ≡ Some next
  unfolding shifted
  shifted_first table state key other move next is one leads = ap (step_of table F state) is ∙ one ∙ leads []

pub if_some : {X : Type 0} (P Q : X → Type 0) (o : Option X) → ((x : X) → P x → Q x) → IfSome o P → IfSome o Q
if_some P Q o each has = search rules
