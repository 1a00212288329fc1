-- What going on finds.
use Rattle.std.specs.Prelude.{◌≡◌, ℕ, ◌+◌, ◌<◌, ◌≤◌, Bool, true, false, IsTrue, List, [], ◌∷◌, length}
use Rattle.srs.specs.declared.placement.Placement.{Placement}
use Rattle.srs.specs.Kick.{Table}
use Rattle.moves.specs.declared.key.DropMode.{DropMode}
use Rattle.enumerate.specs.declared.frame.Frame.{Frame}
use Rattle.enumerate.specs.Events.{found, floods}
use Rattle.enumerate.specs.Frames.{has_room, path_of, stacked}

-- where it is true a solution was found, and else none
abbrev pub Finds : List (List Placement) → List (List Placement) → List Placement → Bool → Type 0
Finds old new path true = old ≡ path ∷ new
Finds old new path false = old ≡ new

-- the frames go on by one event, and the path is a solution where it is true
pub record IsTry (table : Table) (mode : DropMode) (old new : List Frame) (before now : ℕ)
    (solved : Bool) : Type 0 where
  pub room : IsTrue (has_room 0 new)
  pub finds : Finds (found (stacked table mode [] old)) (found (stacked table mode [] new)) (path_of new) solved
  pub counted : floods (stacked table mode [] old) + before ≡ floods (stacked table mode [] new) + now
  pub fewer : floods (stacked table mode [] new) ≤ floods (stacked table mode [] old)
  pub shorter : length (stacked table mode [] new) < length (stacked table mode [] old)
