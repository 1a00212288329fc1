-- So much of the text is read.
use Rattle.well.specs.Well.{filled}
use Rattle.well.proofs.RowsLemmas.{Progress}
use Rattle.well.proofs.well.Well.from_rows.Given as goal

abbrev pub invariant-loop-place : goal.invariant-loop-place
invariant-loop-place l = Progress l.text l.place l.reader.row l.reader.characters (filled l.reader.well)
