-- A put notes.
use Rattle.std.proofs.Common.{ap}
use Rattle.well.specs.Well.{filled}
use Rattle.dead_memo.specs.Memo.{kept, capacity_of}
use Rattle.dead_memo.proofs.KeyLemmas.{question_dead}
use Rattle.dead_memo.proofs.MemoLemmas.{is_noted, put_dead}
use Rattle.dead_memo.proofs.memo.DeadMemo.note_dead.Goals as goal

pub invariant_of-self : goal.invariant_of-self
invariant_of-self c = record { dead = put_dead c.args.self.now.cache c.new.result _ c.new.ensures c.put.new.self c.put.result c.put.ensures.entries c.put.ensures.err (question_dead (filled c.args.well.now) c.args.rows_left c.args.supply.now c.requires.dead) c.args.self.now.dead }

pub returns-clause-noted : goal.returns-clause-noted
unfolding kept capacity_of
returns-clause-noted c = is_noted c.args.self.now.cache c.new.result _ c.new.ensures c.put.new.self c.in_ok-put.ensures.entries

pub returns-clause-capacity : goal.returns-clause-capacity
unfolding capacity_of
returns-clause-capacity c = ap (λ cache. cache.cap) c.in_ok-put.ensures.entries
