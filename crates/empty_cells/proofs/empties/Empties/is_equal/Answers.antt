-- The bits are those of the cells.
use Rattle.std.proofs.lemmas.Bool.{eq-eqb, eqb-true}
use Rattle.empty_cells.proofs.EmptiesLemmas.{from_bits, same_bits}
use Rattle.empty_cells.proofs.empties.Empties.is_equal.Goals as goal

pub returns : goal.returns
returns c = (λ same. from_bits c.args.self.now c.args.other.now (eqb-true _ _ same), λ same. eq-eqb _ _ (same_bits c.args.self.now c.args.other.now same))
