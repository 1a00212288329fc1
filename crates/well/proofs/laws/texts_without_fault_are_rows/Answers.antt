-- The law is a lemma.
use Rattle.well.proofs.RowsTexts.{rows-from_none, none-from_rows}
use Rattle.well.proofs.laws.texts_without_fault_are_rows.Goals as goal

pub returns : goal.returns
returns c = λ text. (rows-from_none text, none-from_rows text)
