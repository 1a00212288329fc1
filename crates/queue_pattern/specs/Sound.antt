-- Elements as a pattern keeps them.
use Rattle.std.specs.Prelude.{Bool, ◌&&◌, nat_le, nat_lt, length}
use Rattle.queue_pattern.specs.declared.element.Element.{Element}
use Rattle.queue_pattern.specs.Queues.{pieces_in}

-- some pieces are chosen of a set of the seven, and no more than it has
unfoldable pub is_sound : Element → Bool
is_sound element =
    nat_lt element.set 128 && (nat_lt 0 element.chosen && nat_le element.chosen (length (pieces_in element.set)))
