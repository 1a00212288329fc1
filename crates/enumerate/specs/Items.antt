-- The list in a vector, where there is one.
use Rattle.std.specs.Prelude.{List, Option, Some, None}
use Rattle.arrayvec.specs.ArrayVec.{ArrayVec}

abbrev pub items_of : {T : Type 0} → Option (ArrayVec T) → Option (List T)
items_of None = None
items_of (Some v) = Some v.items
