-- The comment that stands there and the first fault there, from what reading gives.
use Rattle.std.proofs.Common.{ℕ, ◌≤◌, List, length, rules}
use Rattle.fumen_digits.proofs.CallerLemmas.{gives_found, gives_fault, gives_same}
use Rattle.fumen_comment.specs.Reading.{comment_at}
use Rattle.fumen_comment.specs.Faults.{comment_fault}
use Rattle.fumen_comment.proofs.CommentReadAsSpelled.{comment_from_read, read_from_comment, comment_fault_from_read, read_from_comment_fault}
use Rattle.fumen_comment.proofs.part.read_comment.Goals as goal

abbrev pair : List ℕ × ℕ → List ℕ × ℕ
pair x = x

pub returns-clause-found : goal.returns-clause-found
returns-clause-found c = search (rules, gives_found, comment_from_read)

pub returns-clause-within : goal.returns-clause-within
returns-clause-within c =
    let ds = c.args.digits.now in
    gives_found pair comment_fault (λ x. x.1 ≤ length ds) c.read_part.result (comment_at ds c.args.place) (λ x read. (comment_from_read ds c.args.place x.0 x.1 c.requires read).stands.within) c.read_part.ensures.exact

pub returns-clause-only : goal.returns-clause-only
returns-clause-only c = search (rules, gives_same, read_from_comment)

pub returns-clause-fault : goal.returns-clause-fault
returns-clause-fault c = search (rules, comment_fault_from_read, gives_fault)

pub returns-clause-fault_only : goal.returns-clause-fault_only
returns-clause-fault_only c = search (rules, gives_same, read_from_comment_fault)
