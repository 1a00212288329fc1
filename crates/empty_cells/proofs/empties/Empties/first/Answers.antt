-- The lowest bit that is set.
use Rattle.std.proofs.Common.{rules}
use Rattle.std.specs.Int.{w128}
use Rattle.std.proofs.lemmas.Nat.Bits.{bit_at-trailing_zeros}
use Rattle.empty_cells.proofs.EmptiesLemmas.{none_in_zero, first_from_lowest}
use Rattle.empty_cells.proofs.empties.Empties.first.Goals as goal

pub returns-then-self-eq0 : goal.returns-then-self-eq0
returns-then-self-eq0 c = none_in_zero c.args.self.now c.if-self-eq0.true

pub returns : goal.returns
returns c = search (rules, (bit_at-trailing_zeros w128 c.args.self.now.cells), (first_from_lowest c.args.self.now))
