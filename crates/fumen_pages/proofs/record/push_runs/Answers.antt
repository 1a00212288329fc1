-- One more run is written, and then all are.
use Rattle.std.proofs.Common.{ℕ, ◌+◌, ◌-◌, ◌*◌, ◌++◌, ap, ◌∙◌, arith, rules}
use Rattle.fumen_digits.specs.Number.{digits}
use Rattle.fumen_pages.proofs.WriteLoop.{write_starts, next_run, write_more, write_ends}
use Rattle.fumen_pages.proofs.record.push_runs.Goals as goal

pub loop-start-init : goal.loop-start-init
loop-start-init c = write_starts c.args.dialect c.args.old.now c.args.new.now c.args.out.now.items _ (omega arith)

pub overflow_sub-count : goal.overflow_sub-count
overflow_sub-count c = search (rules, next_run)

pub loop-start-smaller : goal.loop-start-smaller
loop-start-smaller c = search (rules, next_run)

pub loop-start-preserved : goal.loop-start-preserved
loop-start-preserved c =
    let run = next_run c.args.old.now c.args.new.now c.loop-start.start c.difference-shift.result c.same_count-count.result c.told-old c.told-new c.loop-start-test.true c.difference-shift.ensures.value c.same_count-count.ensures.value c.same_count-count.ensures.most in
    let count = c.same_count-count.result in
    let written = c.in_ok-push_number.ensures.ok
    ∙ (ap (λ (k : ℕ). c.loop-start.out.items ++ digits 2 (k * c.from-in-loop-start.result + (count - 1))) c.from.ensures
    ∙ ap (λ (k : ℕ). c.loop-start.out.items ++ digits 2 (c.difference-shift.result * k + (count - 1))) (c.from-in-loop-start.ensures ∙ c.cells-cells.ensures)) in
    write_more c.args.dialect c.args.old.now c.args.new.now c.args.out.now.items c.loop-start.out.items c.push_number.new.out.items c.loop-start.start c.difference-shift.result count c.told-old c.told-new c.loop-start-test.true run written c.loop-start.invariant

pub returns-clause-ok : goal.returns-clause-ok
returns-clause-ok c = search (rules, write_ends)
