-- The cells are the bits of the set, and those before a column its lowest bits.
use Rattle.std.proofs.Common.{◌≡◌, ℕ, ◌*◌, ◌<◌, ◌↔◌, IsTrue, nat_lt, arith}
use Rattle.std.proofs.lemmas.Bool.{lt-ltb, ltb-true}
use Rattle.empty_cells.proofs.RefusalLemmas.{before_min, ones_all}
use Rattle.empty_cells.proofs.empties.Empties.lies_right.Goals as goal

more : (a b c d : ℕ) → a ≡ c → b ≡ d → IsTrue (nat_lt a (2 * b)) ↔ (c < 2 * d)
more a b c d one other = (
  λ t. omega (arith, ltb-true _ _ t, one, other),
  λ less. lt-ltb _ _ (omega (arith, less, one, other)),
)

pub returns : goal.returns
returns c = more _ _ _ _ (ones_all c.args.self.now) (before_min c.args.self.now c.min.result c.args.column c.min.ensures)
