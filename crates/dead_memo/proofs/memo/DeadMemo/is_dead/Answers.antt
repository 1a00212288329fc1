-- A promotion is a use.
use Rattle.std.proofs.Common.{ap}
use Rattle.std.proofs.lemmas.List.Elements.{All-contains}
use Rattle.well.specs.Well.{filled}
use Rattle.dead_memo.specs.Question.{question, HasNoTiling}
use Rattle.dead_memo.specs.Keys.{kept_in}
use Rattle.dead_memo.specs.Memo.{kept, capacity_of}
use Rattle.dead_memo.proofs.KeyLemmas.{dead_question}
use Rattle.dead_memo.proofs.MemoLemmas.{is_found, is_used, is_same, stays_dead}
use Rattle.dead_memo.proofs.memo.DeadMemo.is_dead.Goals as goal

pub invariant_of-self : goal.invariant_of-self
invariant_of-self c = record { dead = stays_dead c.args.self.now.cache c.new.result _ c.new.ensures c.promote.result c.promote.ensures.value c.promote.new.self c.promote.ensures.entries c.args.self.now.dead }

pub returns-clause-found : goal.returns-clause-found
unfolding kept
returns-clause-found c = is_found c.args.self.now.cache c.new.result _ c.new.ensures c.promote.result c.promote.ensures.value

pub returns-clause-used : goal.returns-clause-used
unfolding kept
returns-clause-used c = is_used c.args.self.now.cache c.new.result _ c.new.ensures c.promote.result c.promote.ensures.value c.promote.new.self c.promote.ensures.entries

pub returns-clause-same : goal.returns-clause-same
unfolding kept
returns-clause-same c = is_same c.args.self.now.cache c.new.result _ c.new.ensures c.promote.result c.promote.ensures.value c.promote.new.self c.promote.ensures.entries

pub returns-clause-capacity : goal.returns-clause-capacity
unfolding capacity_of
returns-clause-capacity c = ap (λ cache. cache.cap) c.promote.ensures.entries

pub returns-clause-dead : goal.returns-clause-dead
returns-clause-dead c = λ found. dead_question (filled c.args.well.now) c.args.rows_left c.args.supply.now
    (All-contains HasNoTiling (kept_in c.args.self.now.cache) (question (filled c.args.well.now) c.args.rows_left c.args.supply.now) c.args.self.now.dead ((is_found c.args.self.now.cache c.new.result _ c.new.ensures c.promote.result c.promote.ensures.value).0 found))
