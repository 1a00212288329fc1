-- One more run is read, or has a fault; and then all are read.
use Rattle.std.proofs.Common.{◌∙◌, arith, rules}
use Rattle.std.proofs.lemmas.Result.{err_from_is_err_and}
use Rattle.fumen_pages.specs.Faults.{cells_fault}
use Rattle.fumen_pages.proofs.RecordLoop.{read_starts, read_more, read_stops, read_ends, same_front}
use Rattle.fumen_pages.proofs.record.read_record.Goals as goal

pub loop-start-init : goal.loop-start-init
loop-start-init c = read_starts c.args.dialect c.args.digits.now c.args.place c.args.old.now _ c.requires.old c.requires.place (omega arith)

pub returns-in_err-count : goal.returns-in_err-count
returns-in_err-count c =
    let p = err_from_is_err_and c.from_residual.result c.from_residual.ensures.1 in
    rw (p.1, p.2) (read_stops c.args.dialect c.args.digits.now c.args.place c.args.old.now c.loop-start.cells c.loop-start.start c.loop-start.behind (cells_fault c.in_err-count.field-0.0) c.loop-start-test.true c.in_err-count.ensures.exact c.loop-start.invariant)

pub loop-start-preserved : goal.loop-start-preserved
loop-start-preserved c = search (rules, read_more)

pub returns : goal.returns
returns c =
    let there = c.starts_with-unchanged.ensures.value ∙ same_front c.args.dialect c.args.digits.now c.args.place c.unchanged.result.now c.unchanged.ensures in
    read_ends c.args.dialect c.args.digits.now c.args.place c.args.old.now c.loop-start.cells c.loop-start.start c.loop-start.behind c.starts_with-unchanged.result c.loop-start-test.false there c.loop-start.invariant
