-- What was escaped is unescaped again.
use Rattle.fumen_comment.proofs.EscapeLaws.{unescaped-escaped}
use Rattle.fumen_comment.proofs.laws.escape_undone.Goals as goal

pub returns : goal.returns
returns c = unescaped-escaped
