-- What a sink over a slice is.
use Rattle.std.specs.Prelude.{ℕ, List, ◌++◌}

pub record SliceSinkState : Type 0 where
  -- the bytes written so far, which are the first ones of the slice
  pub bytes : List ℕ
  -- the bytes of the slice behind them
  pub rest : List ℕ
  -- once a write failed, the first byte for which there was no room
  pub missed : List ℕ
  pub faults : ℕ
  -- the name of the borrow of the slice, which tells it from others
  pub slice : ℕ

-- all bytes that it holds
abbrev pub held_bytes : SliceSinkState → List ℕ
held_bytes s = s.bytes ++ s.missed
