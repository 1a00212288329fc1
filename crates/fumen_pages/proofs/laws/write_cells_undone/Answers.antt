-- What is written has only digits, cuts the cells by the longest runs, and is read again.
use Rattle.fumen_pages.proofs.RecordReadAsSpelled.{is_unchanged}
use Rattle.fumen_pages.proofs.WrittenRecordIsSpelled.{written_digits, written_same, written_other, written_apart, written_read}
use Rattle.fumen_pages.proofs.laws.write_cells_undone.Goals as goal

pub returns-clause-digits : goal.returns-clause-digits
returns-clause-digits c = written_digits

pub returns-clause-same : goal.returns-clause-same
returns-clause-same c = written_same

pub returns-clause-other : goal.returns-clause-other
returns-clause-other c = written_other

pub returns-clause-longest : goal.returns-clause-longest
returns-clause-longest c = written_apart

pub returns-clause-read : goal.returns-clause-read
returns-clause-read c = λ dialect ds old new place end sound made stands.
    (is_unchanged dialect ds place, written_read dialect ds place end old new sound made stands)
