-- What writes do to the bytes that a sink holds.
use Rattle.std.specs.Prelude.{◌≡◌, ℕ, Option, Result, List, ◌++◌, OnOk, OnErr}
use Rattle.std.specs.Io.KnownBytes.{Appends}

-- the sink now holds these bytes after those that it held; of a sink that doesn't tell its bytes this says nothing
pub record Grows (old new : Option (List ℕ)) (bytes : List ℕ) : Type 0 where
  pub appended : Appends old new bytes

-- of the whole all but the rest was appended
pub record GrowsUpTo (old new : Option (List ℕ)) (whole rest : List ℕ) : Type 0 where
  pub front : List ℕ
  pub divided : whole ≡ front ++ rest
  pub grown : Grows old new front

-- some front of the whole was appended
pub record GrowsByFront (old new : Option (List ℕ)) (whole : List ℕ) : Type 0 where
  pub rest : List ℕ
  pub up_to : GrowsUpTo old new whole rest

-- the call appended all these bytes, or failed and appended a front of them
pub record WritesAll {T E : Type 0} (old new : Option (List ℕ)) (result : Result T E) (bytes : List ℕ) : Type 0 where
  pub done : OnOk result (Grows old new bytes)
  pub failed : OnErr result (GrowsByFront old new bytes)
