-- What a memory source is.
use Rattle.std.specs.Prelude.{ℕ, List}

pub record MemorySourceState : Type 0 where
  -- the bytes still to come
  pub bytes : List ℕ
  -- the numbers of the reads that fail
  pub failing : List ℕ
  -- the reads so far into buffers that had room
  pub calls : ℕ
  pub faults : ℕ
  -- the most bytes that one read moves
  pub piece : ℕ
