-- A step, and any keys, lead to a free state of the same piece.
use Rattle.std.proofs.Common.{◌≡◌, true, Some, List, [], ◌∷◌, sym, ◌∙◌, rules}
use Rattle.std.proofs.lemmas.Bool.{cases_Bool, cond-true, cond-false}
use Rattle.lane_board.specs.Field.{Field}
use Rattle.srs.specs.declared.piece.Piece.{Piece}
use Rattle.srs.specs.declared.rotation.Rotation.{Rotation}
use Rattle.srs.specs.declared.placement.Placement.{Placement}
use Rattle.srs.specs.Cells.{Cell}
use Rattle.srs.specs.Kick.{Table}
use Rattle.well.specs.Free.{is_free_at, is_free}
use Rattle.well.proofs.CallerLemmas.{free_pivot_inside}
use Rattle.moves.specs.declared.key.Key.{Key}
use Rattle.moves.specs.declared.key.Key.TheVariants.{Left, Right, Down, Clockwise, Anti}
use Rattle.moves.specs.Step.{state_at, first_free, shifted, turned, step_of}
use Rattle.moves.specs.Leads.{spawned}
use Rattle.moves.specs.States.{state_code}
use Rattle.moves.proofs.StateLemmas.{code_below, one_state}
use Rattle.moves.proofs.WalkLemmas.{not_some, IsFinite}
use Rattle.srs.proofs.CallerLemmas.{some_same}

-- a free state of a piece
pub record IsFreeState (F : Field) (piece : Piece) (s : Placement) : Type 0 where
  pub kind : s.piece ≡ piece
  pub free : is_free F s ≡ true

pub state_at-free : (F : Field) (piece : Piece) (rotation : Rotation) (pivot : Cell) (t : Placement) → is_free_at F piece rotation pivot ≡ true → state_at piece rotation pivot ≡ Some t → IsFreeState F piece t
state_at-free F piece rotation pivot t free e = search (rules, some_same, not_some)

pub first_free-free : (F : Field) (piece : Piece) (rotation : Rotation) (pivots : List Cell) (t : Placement) → first_free F piece rotation pivots ≡ Some t → IsFreeState F piece t
unfolding first_free
first_free-free F piece rotation [] t e = absurd (not_some e)
first_free-free F piece rotation (pivot ∷ pivots) t e =
    search (rules, cases_Bool, state_at-free, cond-true, cond-false, (first_free-free F piece rotation pivots t))

pub step_of-free : (table : Table) (F : Field) (s : Placement) (key : Key) (t : Placement) → step_of table F s key ≡ Some t → IsFreeState F s.piece t
unfolding shifted turned
step_of-free table F s Left t e = first_free-free F s.piece _ _ t e
step_of-free table F s Right t e = first_free-free F s.piece _ _ t e
step_of-free table F s Down t e = first_free-free F s.piece _ _ t e
step_of-free table F s Clockwise t e = first_free-free F s.piece _ _ t e
step_of-free table F s Anti t e = first_free-free F s.piece _ _ t e

pub step_is_finite : (table : Table) (F : Field) (piece : Piece) → IsFinite (step_of table F) (IsFreeState F piece) state_code 920
step_is_finite table F piece = record {
  kept = λ s key t here e.
      let there = step_of-free table F s key t e in
      record { kind = there.kind ∙ here.kind; free = there.free };
  below = λ s here. code_below s (free_pivot_inside F s here.free);
  one = λ s t here there e. one_state s t (here.kind ∙ sym there.kind) (free_pivot_inside F s here.free) (free_pivot_inside F t there.free) e;
}

-- the spawn, where it is free
pub spawned-free : (F : Field) (piece : Piece) (s : Placement) → spawned F piece ≡ Some s → IsFreeState F piece s
unfolding spawned
spawned-free F piece s e = search (rules, cases_Bool, some_same, cond-true, not_some, cond-false)
