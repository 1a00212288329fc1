-- One line after the other.
use Rattle.page_list.proofs.TextLines.{lines_followed, followed_lines}
use Rattle.page_list.proofs.laws.lines_follow_each_other.Goals as goal

pub returns-clause-lines : goal.returns-clause-lines
returns-clause-lines c = λ text lines. (lines_followed text lines, followed_lines text lines)
