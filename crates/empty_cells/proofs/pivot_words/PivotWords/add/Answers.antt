-- One bit more.
use Rattle.std.proofs.Common.{arith}
use Rattle.empty_cells.proofs.PivotLemmas.{has_added, keeps_added, only_added}
use Rattle.empty_cells.proofs.pivot_words.PivotWords.add.Goals as goal

pub returns-clause-added : goal.returns-clause-added
returns-clause-added c = has_added c.args.self.now (omega arith) c.args.placement.now c.requires.column c.requires.row _ _ c.bit_of-word.ensures.word c.bit_of-word.ensures.bit

pub returns-clause-kept : goal.returns-clause-kept
returns-clause-kept c = keeps_added c.args.self.now (omega arith) c.args.placement.now c.requires.column c.requires.row _ _ c.bit_of-word.ensures.word c.bit_of-word.ensures.bit

pub returns-clause-only : goal.returns-clause-only
returns-clause-only c = only_added c.args.self.now (omega arith) c.args.placement.now c.requires.column c.requires.row _ _ c.bit_of-word.ensures.word c.bit_of-word.ensures.bit
