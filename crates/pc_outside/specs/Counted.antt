-- A reader or a writer of the standard library beside its count of faults.
use Rattle.std.specs.Prelude.{ℕ}

pub record Counted (X : Type 0) : Type 0 where
  pub inner : X
  pub faults : ℕ
