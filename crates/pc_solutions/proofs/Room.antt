-- What may be written fits the room.
use Rattle.std.proofs.lemmas.Grind.{common_steps}
use Rattle.std.proofs.Common.{◌≡◌, ℕ, ◌*◌, ◌≤◌, min, subst, sym, arith, rules}
use Rattle.std.proofs.lemmas.Bool.{ne_eqb}
use Rattle.std.proofs.Math.Nat.{div-mul-le_self, mul-le-mul_right}
use Rattle.pc_solutions.specs.Written.{most_written}

most_fits : (limit room needed : ℕ) → most_written limit room needed * (4 * needed) ≤ room
most_fits limit room needed = grind (arith, common_steps, div-mul-le_self, mul-le-mul_right, ne_eqb)

-- so many solutions of the needed length
pub most_fit : (limit room one needed most : ℕ) → most ≡ most_written limit room one → one ≡ needed
    → most * (4 * needed) ≤ room
most_fit limit room one needed most is same =
    subst (λ n. most * (4 * n) ≤ room) same (subst (λ m. m * (4 * one) ≤ room) (sym is) (most_fits limit room one))

-- so do those that are written
pub all_fit : (count most width room others : ℕ) → count ≡ min most others → most * width ≤ room → count * width ≤ room
all_fit count most width room others is enough = search rules
