-- What is written of a sequence: its placements divided by single blanks, each with its keys where there are some.
use Rattle.std.specs.Prelude.{ℕ, Option, Some, None, List, [], ◌∷◌, ◌++◌, map}
use Rattle.std.specs.List.{join_with_byte}
use Rattle.srs.specs.declared.placement.Placement.{Placement}
use Rattle.moves.specs.declared.key.Key.{Key}
use Rattle.moves.specs.Keys.{word_letters}
use Rattle.placement_form.specs.Form.{placement_form}

-- a placement, and the keys that are written behind it where there are some
abbrev pub Keyed : Type 0
Keyed = Placement × Option (List Key)

-- a colon, the letters of the keys, and `H` for the hard drop at the end
abbrev pub keys_form : Option (List Key) → List ℕ
keys_form None = []
keys_form (Some keys) = 58 ∷ word_letters keys

abbrev pub keyed_form : Keyed → List ℕ
keyed_form item = placement_form item.0 ++ keys_form item.1

-- placements divided by single blanks, as `I0:7,0 O0:8,0` or `I0:7,0:RRRH`
unfoldable pub sequence_form : List Keyed → List ℕ
sequence_form keyed = join_with_byte 32 (map keyed_form keyed)

-- placements with no keys
abbrev pub without_keys : List Placement → List Keyed
without_keys placements = map (λ placement. (placement, None)) placements
