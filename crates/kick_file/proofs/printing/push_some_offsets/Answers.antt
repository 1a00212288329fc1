-- The first offset, and then those after it.
use Rattle.std.proofs.Common.{get_or, pos, refl}
use Rattle.srs.specs.declared.offset.Offset.{Offset}
use Rattle.kick_file.proofs.PrintLemmas.{front_kept, offsets_end, short_in_rest}
use Rattle.kick_file.proofs.printing.push_some_offsets.Goals as goal

abbrev none : Offset
none = record { dx = pos 0; dy = pos 0 }

pub push_offset-requires-in-loop-offset : goal.push_offset-requires-in-loop-offset
push_offset-requires-in-loop-offset c = short_in_rest c.args.offsets.now c.loop-offset.offset-index _ c.requires c.loop-offset-test.true

pub returns-clause-ok : goal.returns-clause-ok
returns-clause-ok c =
    offsets_end c.loop-offset.text.items c.push_offset.new.text.items c.args.text.now.items c.args.offsets.now (get_or c.args.offsets.now 0 none) none c.loop-offset.offset-index
    c.in-len1-up.len_at_least refl c.loop-offset-test.false (c.in_ok-push_offset.ensures.ok) c.loop-offset.invariant

pub returns-in_err-push_offset-2-clause-kept : goal.returns-in_err-push_offset-2-clause-kept
returns-in_err-push_offset-2-clause-kept c =
    front_kept c.args.text.now.items c.push_offset.new.text.items c.loop-offset.text.items c.push.new.self.items c.push_offset-in-loop-offset.new.text.items _ _ _
    c.in_ok-push_offset.ensures.ok c.loop-offset.invariant c.in_ok-push.ensures.items c.push_offset-in-loop-offset.ensures.kept
