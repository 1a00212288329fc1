-- The two differences do not leave a byte.
use Rattle.std.proofs.Common.{◌≡◌, ◌-ℤ◌, rules}
use Rattle.srs.specs.Cells.{Cell}
use Rattle.srs.proofs.NumberLemmas.{small_within, difference_in_byte}
use Rattle.srs.proofs.kicks.kick.Goals as goal

less : (a b u v : Cell) → a ≡ u → b ≡ v → ◌≡◌ {A = Cell} (a.0 -ℤ b.0, a.1 -ℤ b.1) (u.0 -ℤ v.0, u.1 -ℤ v.1)
less a b u v e f = cc

pub returns : goal.returns
returns c = search (rules, small_within, difference_in_byte, less)
