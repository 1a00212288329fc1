-- The length is written, one more group is, and then all are.
use Rattle.std.proofs.Common.{ap, ◌∙◌}
use Rattle.std.specs.Slice.Iter.{chunks_rest, chunks_size}
use Rattle.fumen_comment.proofs.WriteLoop.{written_starts, written_more, written_all}
use Rattle.fumen_comment.proofs.part.push_part.Goals as goal

pub loop-group-init : goal.loop-group-init
loop-group-init c =
    let it = c.into_iter-group-iterator.ensures.into_iter_gives in
    written_starts c.args.out.now.items c.args.escaped.now c.push_number.new.out.items _ _ (ap chunks_size it ∙ c.chunks-group-items.ensures.size) (ap chunks_rest it ∙ c.chunks-group-items.ensures.rest) c.requires.printable c.in_ok-push_number.ensures.ok

pub loop-group-preserved : goal.loop-group-preserved
loop-group-preserved c =
    let steps = c.in-Some.ensures.steps in
    written_more c.args.out.now.items c.args.escaped.now c.loop-group.out.items _ c.in-Some.group.now _ _ _ _ steps.1.0 steps.1.1 steps.1.2 steps.0 c.in_ok-push_group.ensures.ok c.loop-group.invariant

pub returns-clause-ok : goal.returns-clause-ok
returns-clause-ok c =
    written_all c.args.out.now.items c.args.escaped.now c.loop-group.out.items _ _ c.in-None.ensures.steps.1.0 c.loop-group.invariant
