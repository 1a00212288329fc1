-- Memory is taken only behind the first group.
use Rattle.std.proofs.Common.{◌≡◌, true, false, rules}
use Rattle.std.proofs.lemmas.Result.{err_from_is_err_and}
use Rattle.fumen_digits.proofs.CallerLemmas.{err_passed}
use Rattle.fumen_comment.proofs.FirstGroup.{first_from_text, group_from_first}
use Rattle.fumen_comment.proofs.part.read_part.Goals as goal

never : false ≡ true → ⊥
never e = cc

pub returns-in_err-text-clause-memory : goal.returns-in_err-text-clause-memory
returns-in_err-text-clause-memory c = search (rules, err_from_is_err_and, group_from_first, err_passed)

pub returns-in_err-comment-clause-memory : goal.returns-in_err-comment-clause-memory
returns-in_err-comment-clause-memory c = search (rules, never, group_from_first, first_from_text)
