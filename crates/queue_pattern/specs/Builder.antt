-- What a builder holds.
use Rattle.std.specs.Prelude.{◌≡◌, min, take, length, List, IsTrue}
use Rattle.std.specs.List.{list_all}
use Rattle.queue_pattern.specs.declared.builder.Builder.{Builder}
use Rattle.queue_pattern.specs.declared.element.Element.{Element}
use Rattle.queue_pattern.specs.Queues.{queue_len, queue_count}
use Rattle.queue_pattern.specs.Sound.{is_sound}

-- it was made from these elements, of which it keeps the first 22
pub record Holds (builder : Builder) (elements : List Element) : Type 0 where
  pub pieces : builder.pieces ≡ min (queue_len elements) 23
  pub count : builder.count ≡ min (queue_count elements) 10000001
  pub number : builder.number ≡ min (length elements) 22
  pub kept : take builder.number builder.elements ≡ take 22 elements
  pub sound : IsTrue (list_all is_sound elements)
