-- The pages have no fault, and all solutions of the problem of their column are counted.
use Rattle.std.proofs.Common.{◌≡◌, ◌∙◌, ◌-◌, ℕ, List, [], length, true, None, refl, sym, ap, subst, inl, arith}
use Rattle.fumen_digits.specs.declared.dialect.Dialect.TheVariants.{V115}
use Rattle.fumen_pages.specs.declared.page.Page.{Page}
use Rattle.fumen_text.specs.Written.{list_encode_fault, written}
use Rattle.sample_pages.specs.Pages.{column_drawn, sample_pages}
use Rattle.problem.specs.SolutionList.{IsList}
use Rattle.enumerate.specs.ViewOf.{solutions, view_of}
use Rattle.enumerate.specs.Work.{pairs}
use Rattle.problem.specs.declared.problem.Problem.{Problem}
use Rattle.enumerate.specs.declared.search.Search.{Search}
use Rattle.pc_source.proofs.CommandEnds.{ends_unwritten, ends_written}
use Rattle.pc_selfrun.specs.Lines.{selfrun_form}
use Rattle.pc_selfrun.specs.Problem.{IsColumnProblem}
use Rattle.pc_selfrun.specs.SelfrunTask.{selfrun_task}
use Rattle.pc_selfrun.specs.Work.{IsWholeSearch}
use Rattle.pc_selfrun.proofs.ColumnProblem.{four_needed}
use Rattle.pc_selfrun.proofs.MadePages.{made_count, made_none}
use Rattle.pc_selfrun.proofs.SequenceCount.{few_solutions}
use Rattle.pc_selfrun.proofs.command.run_selfrun.Goals as goal

-- the list of a search that was started is that of its problem
abbrev list_of : (problem : Problem) (search : Search) → view_of search ≡ record { problem = problem; queue = None; bound = None } → IsList (view_of search) (solutions search)
    → IsList (record { problem = problem; queue = None; bound = None }) (solutions search)
list_of problem search view list = subst (λ v. IsList v (solutions search)) view list

-- the numbers of the lines
lines_of : (number pages counted bytes column drawn solutions : ℕ) (made given : List Page) → given ≡ made → made ≡ sample_pages number pages → bytes ≡ length (written V115 given) → column ≡ drawn
    → counted ≡ solutions
    → selfrun_form pages bytes true column counted ≡ selfrun_form (length (sample_pages number pages)) (length (written V115 (sample_pages number pages))) true drawn solutions
lines_of number pages counted bytes column drawn solutions made given taken is size same all =
    λ i. selfrun_form (sym (made_count number pages) i) ((size ∙ ap (λ (xs : List Page). length (written V115 xs)) (taken ∙ is)) i) true (same i) (all i)

pub checked_text-requires : goal.checked_text-requires
checked_text-requires g c =
    ap (list_encode_fault V115) (c.deref.ensures.value ∙ c.in-Ok.ensures.pages) ∙ made_none c.args.number c.args.pages c.requires.most

pub count_solutions-solutions-requires : goal.count_solutions-solutions-requires
count_solutions-solutions-requires g c =
    let problem = c.column_problem.result in
    let start = c.in-Ok-start.ensures in
    few_solutions problem (solutions c.in-Ok-start.search) c.column_problem.ensures.fit (four_needed c.in-Ok.sample.column problem c.in-Ok.ensures.within c.column_problem.ensures.problem)
    (list_of problem c.in-Ok-start.search start.view start.list)

pub returns-in-Err : goal.returns-in-Err
returns-in-Err g c = ends_unwritten (selfrun_task c.args.number c.args.pages) [] _ _ c.args.steps.now c.args.steps.now refl refl (omega arith) (inl refl)

pub returns-in-Err-checked_text : goal.returns-in-Err-checked_text
returns-in-Err-checked_text g c = ends_unwritten (selfrun_task c.args.number c.args.pages) [] _ _ c.args.steps.now c.args.steps.now refl refl (omega arith) (inl refl)

pub returns-in-Err-start : goal.returns-in-Err-start
returns-in-Err-start g c = ends_unwritten (selfrun_task c.args.number c.args.pages) [] _ _ c.args.steps.now c.args.steps.now refl refl (omega arith) (inl refl)

pub returns : goal.returns
returns g c =
    let number = c.args.number in
    let pages = c.args.pages in
    let problem = c.column_problem.result in
    let start = c.in-Ok-start.ensures in
    let named = subst (λ column. IsColumnProblem column problem) c.in-Ok.ensures.column c.column_problem.ensures.problem in
    let check = c.in-Ok-checked_text in
    let lines = selfrun_form pages check.check.bytes check.check.same c.in-Ok.sample.column c.count_solutions-solutions.result in
    let same = (λ i. selfrun_form pages check.check.bytes (check.ensures.same i) c.in-Ok.sample.column c.count_solutions-solutions.result)
    ∙ lines_of number pages _ _ _ (column_drawn number pages) _ c.in-Ok.sample.pages.items c.deref.result.now c.deref.ensures.value c.in-Ok.ensures.pages check.ensures.bytes c.in-Ok.ensures.column c.count_solutions-solutions.ensures.count in
    let floods = c.count_solutions-solutions.new.steps - c.args.steps.now in
    let all : floods ≡ pairs problem None =
    c.count_solutions-solutions.ensures.all start.after start.work ∙ (λ i. pairs (start.view i).problem (start.view i).queue) in
    let work : IsWholeSearch (column_drawn number pages) floods = record { problem = problem; named = named; all = all } in
    ends_written (selfrun_task number pages) [] _ _ c.args.steps.now c.count_solutions-solutions.new.steps lines c.write_findings.result c.after_writes.result c.after_writes.ensures refl
    (record {
      problem = problem;
      named = named;
      sequences = solutions c.in-Ok-start.search;
      list = list_of problem c.in-Ok-start.search start.view start.list;
      lines = same;
    })
    c.write_findings.ensures.written c.write_findings.ensures.cause c.count_solutions-solutions.ensures.counted work work
