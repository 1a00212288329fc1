-- The pattern of the first pieces of a pattern's queues.
use Rattle.std.specs.Prelude.{ℕ, zero, suc, ◌-◌, min, List, [], ◌∷◌}
use Rattle.queue_pattern.specs.declared.element.Element.{Element}

-- the elements that the queues' first n pieces are chosen of
unfoldable pub cut : ℕ → List Element → List Element
cut zero elements = []
cut (suc n) [] = []
cut (suc n) (element ∷ elements) =
    record { set = element.set; chosen = min element.chosen (suc n) } ∷ cut (suc n - element.chosen) elements
