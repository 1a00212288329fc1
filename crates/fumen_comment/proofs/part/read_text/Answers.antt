-- One more group is read, or has a fault; and then all are read.
use Rattle.std.proofs.Common.{arith, rules}
use Rattle.std.proofs.lemmas.Result.{err_from_is_err_and}
use Rattle.fumen_comment.proofs.Packing.{taken}
use Rattle.fumen_comment.proofs.ReadLoop.{first_read, text_starts, text_more, text_stops, text_ends}
use Rattle.fumen_comment.proofs.part.read_text.Goals as goal

pub loop-left-init : goal.loop-left-init
loop-left-init c = search (rules, text_starts)

pub loop-left-preserved : goal.loop-left-preserved
loop-left-preserved c =
    search (rules, (taken c.loop-left.left c.in_ok-group.group c.min.result c.unpacked-characters.result c.min.ensures c.unpacked-characters.ensures), (text_more c.args.digits.now c.args.place c.args.count c.loop-left.text.items c.loop-left.place c.loop-left.left c.in_ok-group.group))

pub returns-in_err-group-clause-exact : goal.returns-in_err-group-clause-exact
returns-in_err-group-clause-exact c = search (rules, err_from_is_err_and, text_stops)

pub returns-clause-exact : goal.returns-clause-exact
returns-clause-exact c = text_ends c.args.digits.now c.args.place c.args.count c.loop-left.text.items c.loop-left.place c.loop-left.left (omega arith) c.loop-left.invariant

pub returns-in_err-extend_from_slice-clause-memory : goal.returns-in_err-extend_from_slice-clause-memory
returns-in_err-extend_from_slice-clause-memory c = search (rules, first_read)
