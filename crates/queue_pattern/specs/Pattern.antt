-- What contracts see of a pattern: its elements.
use Rattle.std.specs.Prelude.{List, take}
use Rattle.queue_pattern.specs.declared.element.Element.{Element}
use Rattle.queue_pattern.specs.declared.pattern.Pattern.{Pattern}

-- the elements of a pattern, from the left
unfoldable pub elements_of : Pattern → List Element
elements_of pattern = take pattern.number pattern.elements
