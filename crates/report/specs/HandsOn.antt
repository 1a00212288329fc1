-- Bytes that are held back to be written together.
use Rattle.std.specs.Prelude.{◌≡◌, ℕ, Option, List, ◌++◌}
use Rattle.pc_outside.specs.Writes.{Grows}

-- of the bytes that were held and those that came behind them a front was written, and the rest is held
pub record HandsOn (old new : Option (List ℕ)) (held bytes left : List ℕ) : Type 0 where
  pub front : List ℕ
  pub divided : held ++ bytes ≡ front ++ left
  pub grown : Grows old new front
