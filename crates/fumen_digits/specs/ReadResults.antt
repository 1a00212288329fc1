-- What a reader answered, beside what reading gives.
use Rattle.std.specs.Prelude.{◌≡◌, Result, Ok, Err}
use Rattle.pc_outside.specs.declared.answers.Refused.{Refused}
use Rattle.pc_outside.specs.declared.answers.Refused.TheVariants as refused

-- What a reader answered, its value seen by view and its fault by fault, is what reading gives.
abbrev pub Reads : {X Y E F : Type 0} → (X → Y) → (E → F) → Result X E → Result Y F → Type 0
Reads view fault (Ok x) read = read ≡ Ok (view x)
Reads view fault (Err e) read = read ≡ Err (fault e)

-- A refusal by a fault is that of reading. Want of memory may come at any time.
abbrev pub IsRefusal : {Y E F : Type 0} → (E → F) → Refused E → Result Y F → Type 0
IsRefusal fault (refused.Fault e) read = read ≡ Err (fault e)
IsRefusal fault refused.NoMemory read = Unit {0}

-- The same of a reader that takes memory, unless memory ran out.
abbrev pub Gives : {X Y E F : Type 0} → (X → Y) → (E → F) → Result X (Refused E) → Result Y F → Type 0
Gives view fault (Ok x) read = read ≡ Ok (view x)
Gives view fault (Err e) read = IsRefusal fault e read
