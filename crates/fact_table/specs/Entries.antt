-- The entries of a table.
use Rattle.std.specs.Prelude.{ℕ, ◌-◌, List, Option, None, Some, [], Vec, bit_and, length, set}
use Rattle.std.specs.declared.alloc.Global.{Global}

-- the entries for which there is room
abbrev pub entries_of : {E : Type 0} → Option (Vec E Global) → List E
entries_of None = []
entries_of (Some entries) = entries.items

-- the index of the questions with this hash, where there is so much room
unfoldable pub slot_in : ℕ → ℕ → ℕ
slot_in room hash = bit_and hash (room - 1)

-- the entries after one is put there
abbrev pub with_entry : {E : Type 0} → List E → ℕ → E → List E
with_entry entries hash entry = set entries (slot_in (length entries) hash) entry
