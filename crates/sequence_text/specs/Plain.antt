-- The text of placements without keys, placement by placement.
use Rattle.std.specs.Prelude.{ℕ, List, [], ◌∷◌, ◌++◌}
use Rattle.std.specs.List.{flat_map}
use Rattle.srs.specs.declared.placement.Placement.{Placement}
use Rattle.placement_form.specs.Form.{placement_form}

-- a placement that follows another one: a blank stands before it
abbrev pub next_form : Placement → List ℕ
next_form placement = 32 ∷ placement_form placement

-- placements divided by single blanks
abbrev pub plain_form : List Placement → List ℕ
plain_form [] = []
plain_form (first ∷ rest) = placement_form first ++ flat_map next_form rest
