-- The list resumes behind its members.
use Rattle.std.proofs.Common.{◌++◌, ◌∙◌, None, drop, sym, ap, subst, take-append-drop}
use Rattle.problem.specs.SolutionList.{IsList}
use Rattle.pc_solutions.proofs.laws.lists_go_on_behind_the_last_one_written.Goals as goal

pub returns : goal.returns
returns c = λ problem after sequences front last count list taken.
    let whole = sym (take-append-drop count sequences) ∙ ap (λ l. l ++ drop count sequences) taken in
    c.lists_resume.ensures.after problem None after front (drop count sequences) last
    (subst (IsList (record { problem = problem; queue = None; bound = after })) whole list)
