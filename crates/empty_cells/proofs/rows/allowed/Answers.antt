-- The three sets of rows.
use Rattle.std.proofs.Common.{◌≡◌, ℕ, ◌+◌, ◌<◌, ◌≤◌, Bool, true, false, not, ◌&&◌, ◌==◌, nat_le, nat_lt, if◌then◌else◌, ap, sym, ◌∙◌, arith, rules}
use Rattle.std.proofs.lemmas.Bool.{lt-ltb, le-ltb}
use Rattle.std.proofs.Math.Bool.{and-true}
use Rattle.empty_cells.specs.Spans.{has_first}
use Rattle.empty_cells.proofs.rows.allowed.Goals as goal

past : (y floor row : ℕ) (first : Bool) → y < floor → (if nat_lt y floor then true else (if first then row == y else nat_lt row y)) ≡ true
past y floor row first below = ap (λ t. if t then true else (if first then row == y else nat_lt row y)) (lt-ltb y floor below)

at_row : (y floor row : ℕ) (first : Bool) → floor ≤ y → first ≡ true → (nat_le y row && not (nat_le (y + 1) row)) ≡ (nat_le floor row && (if nat_lt y floor then true else (if first then row == y else nat_lt row y)))
at_row y floor row first from is = search (rules, le-ltb)

below_row : (y floor row : ℕ) (first : Bool) → floor ≤ y → first ≡ false → (nat_le floor row && not (nat_le y row)) ≡ (nat_le floor row && (if nat_lt y floor then true else (if first then row == y else nat_lt row y)))
below_row y floor row first from is = search (rules, le-ltb)

pub returns-then-y-floor : goal.returns-then-y-floor
returns-then-y-floor c = λ row low. c.rows_from-rows.ensures row low ∙ sym (and-true _) ∙ ap (λ t. nat_le c.args.floor row && t) (sym (past c.args.y c.args.floor row (has_first c.args.span) (omega arith)))

pub returns-then-has_first : goal.returns-then-has_first
returns-then-has_first c = search (rules, at_row)

pub returns-else-has_first : goal.returns-else-has_first
returns-else-has_first c = search (rules, below_row)
