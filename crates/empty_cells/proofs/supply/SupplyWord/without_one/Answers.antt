-- One byte is one less.
use Rattle.std.proofs.Common.{◌-◌, sym, ap, arith}
use Rattle.empty_cells.specs.SupplyWords.{supply_of}
use Rattle.empty_cells.proofs.SupplyWordLemmas.{holds_piece, less_none, one_less_of, counted_once}
use Rattle.empty_cells.proofs.supply.SupplyWord.without_one.Goals as goal

pub returns-then-count_of-eq0 : goal.returns-then-count_of-eq0
returns-then-count_of-eq0 c = sym (less_none (supply_of c.args.self) c.args.piece (omega (arith, c.count_of.ensures, c.if-count_of-eq0.true)))

pub overflow_sub-result-2 : goal.overflow_sub-result-2
overflow_sub-result-2 c = omega (arith, counted_once c.code.result c.args.piece c.code.ensures, holds_piece c.args.self c.args.piece (omega (arith, c.count_of.ensures, c.if-count_of-eq0.false)))

pub returns : goal.returns
returns c = one_less_of c.args.self _ c.args.piece (omega (arith, c.count_of.ensures, c.if-count_of-eq0.false)) (ap (λ one. c.args.self.counts - one) (counted_once c.code.result c.args.piece c.code.ensures))
