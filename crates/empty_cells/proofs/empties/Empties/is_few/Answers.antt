-- The cells are the bits of the set.
use Rattle.std.proofs.Common.{arith}
use Rattle.std.proofs.lemmas.Bool.{le-leb, leb-true}
use Rattle.empty_cells.proofs.RefusalLemmas.{ones_all}
use Rattle.empty_cells.proofs.empties.Empties.is_few.Goals as goal

pub returns : goal.returns
returns c = (
  λ few. omega (arith, leb-true _ _ few, ones_all c.args.self.now),
  λ few. le-leb _ _ (omega (arith, few, ones_all c.args.self.now)),
)
