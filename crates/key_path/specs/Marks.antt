-- Marks that say how each state of a piece was first reached.
use Rattle.std.specs.Prelude.{◌≡◌, ◌<◌, if◌then◌else◌, Bool, true, false, Option, None, List, [], ◌∷◌, length, slice_index_or, slice_set, option_and_then}
use Rattle.std.specs.Bool.{then_some}
use Rattle.lane_board.specs.Field.{Field}
use Rattle.srs.specs.declared.placement.Placement.{Placement}
use Rattle.srs.specs.Kick.{Table}
use Rattle.srs.specs.Cells.{HasPivotInWell}
use Rattle.moves.specs.declared.key.Key.{Key}
use Rattle.moves.specs.declared.key.DropMode.{DropMode}
use Rattle.moves.specs.Keys.{allows}
use Rattle.moves.specs.States.{state_code}
use Rattle.moves.specs.Step.{step_of}
use Rattle.key_path.specs.declared.marks.Mark.{Mark}
use Rattle.key_path.specs.declared.marks.Mark.TheVariants.{Unseen, Start, From}

-- the mark of a state, and the marks with another one
unfoldable pub mark_at : List Mark → Placement → Mark
mark_at marks state = slice_index_or marks (state_code state) Unseen

unfoldable pub with_mark : List Mark → Placement → Mark → List Mark
with_mark marks state mark = slice_set marks (state_code state) mark

abbrev pub is_unseen : Mark → Bool
is_unseen Unseen = true
is_unseen _ = false

-- the marks lead back from a state to the start by these keys, the last one first
abbrev pub Traces : List Mark → Placement → List Key → Type 0
Traces marks state [] = mark_at marks state ≡ Start
Traces marks state (key ∷ keys) =
    (from : Placement) × (mark_at marks state ≡ From from key) × HasPivotInWell from × Traces marks from keys

-- they do by fewer keys than there are states
pub record Traced (marks : List Mark) (state : Placement) : Type 0 where
  pub keys : List Key
  pub traces : Traces marks state keys
  pub few : length keys < 920

-- the state to which an allowed key leads, where it is unseen
unfoldable pub new_state : Table → Field → DropMode → List Mark → Placement → Key → Option Placement
new_state table F mode marks state key =
    if allows mode key then option_and_then (λ next. then_some (is_unseen (mark_at marks next)) next)
    (step_of table F state key) else None
