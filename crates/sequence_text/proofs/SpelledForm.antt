-- What is written of placements in the well spells them.
use Rattle.std.proofs.Common.{suc, List, [], ◌∷◌, length, map, All, append-nil, Some, None, refl, arith, rules}
use Rattle.std.proofs.lemmas.List.{length-map}
use Rattle.srs.specs.declared.placement.Placement.{Placement}
use Rattle.srs.specs.Cells.{HasPivotInWell}
use Rattle.placement_form.specs.Form.{placement_form, IsPlacementText}
use Rattle.sequence_text.specs.Form.{alone, with_keys, none, last, more, Spells, SpellsPlacement, SpellsSequence}
use Rattle.sequence_text.specs.Written.{Keyed, keyed_form, sequence_form}

text_of : (placement : Placement) → HasPivotInWell placement → IsPlacementText (placement_form placement) placement
text_of placement pivot = record { pivot = pivot; written = refl }

item_spelled : (item : Keyed) → HasPivotInWell item.0 → SpellsPlacement (keyed_form item) item.0
item_spelled (placement, None) inside = search (rules, append-nil, alone, text_of)
item_spelled (placement, Some keys) inside =
    with_keys {text = placement_form placement} {placement = placement} (text_of placement inside) keys

first_inside : (item : Keyed) (rest : List Keyed) → All (λ item. HasPivotInWell item.0) (item ∷ rest) → HasPivotInWell item.0
first_inside item rest inside = inside 0 item (omega arith)

rest_inside : (item : Keyed) (rest : List Keyed) → All (λ item. HasPivotInWell item.0) (item ∷ rest) → All (λ item. HasPivotInWell item.0) rest
rest_inside item rest inside = λ i d within. inside (suc i) d (omega (arith, within))

items_spelled : (keyed : List Keyed) → All (λ item. HasPivotInWell item.0) keyed → SpellsSequence (sequence_form keyed) (map (λ item. item.0) keyed)
unfolding sequence_form
items_spelled [] inside = none
items_spelled (item ∷ []) inside = last (item_spelled item (first_inside item [] inside))
items_spelled (first ∷ second ∷ rest) inside =
    more (item_spelled first (first_inside first (second ∷ rest) inside)) (items_spelled (second ∷ rest) (rest_inside first (second ∷ rest) inside))

pub written_is_spelled : (keyed : List Keyed) → All (λ item. HasPivotInWell item.0) keyed → Spells (length keyed) (sequence_form keyed) (map (λ item. item.0) keyed)
written_is_spelled keyed inside = record { spelled = items_spelled keyed inside; count = length-map keyed (λ item. item.0) }
