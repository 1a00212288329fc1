-- What contracts see of the keys that are written with placements.
use Rattle.std.specs.Prelude.{Bool, IfSome, is_some}
use Rattle.key_path.specs.Known as known
use Rattle.report.specs.declared.keys.WrittenKeys.{WrittenKeys}

-- whether keys are written
abbrev pub has_keys : WrittenKeys → Bool
has_keys keys = is_some keys.finder

-- none of them was found yet
abbrev pub HasFoundNone : WrittenKeys → Type 0
HasFoundNone keys = IfSome keys.finder known.HasFoundNone
