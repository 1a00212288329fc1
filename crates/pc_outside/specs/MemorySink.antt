-- What a memory sink is.
use Rattle.std.specs.Prelude.{ℕ, ◌-◌, min, List, length, take}

pub record MemorySinkState : Type 0 where
  -- the bytes written so far
  pub bytes : List ℕ
  -- how many bytes it can hold in all
  pub room : ℕ
  -- the numbers of the writes that fail
  pub failing : List ℕ
  -- the writes so far that had a byte
  pub calls : ℕ
  pub faults : ℕ

-- the first n of these bytes, as far as the sink has room for them
abbrev pub front_with_room : MemorySinkState → ℕ → List ℕ → List ℕ
front_with_room s n bytes = take (min n (s.room - length s.bytes)) bytes
