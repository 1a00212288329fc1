-- What was written is digits, spells the text, and is read again.
use Rattle.fumen_comment.proofs.WrittenIsSpelled.{written_digits, written_comment, written_read}
use Rattle.fumen_comment.proofs.laws.write_comment_undone.Goals as goal

pub returns-clause-digits : goal.returns-clause-digits
returns-clause-digits c = written_digits

pub returns-clause-spells : goal.returns-clause-spells
returns-clause-spells c = written_comment

pub returns-clause-read : goal.returns-clause-read
returns-clause-read c = λ ds text place end. written_read ds place text end
