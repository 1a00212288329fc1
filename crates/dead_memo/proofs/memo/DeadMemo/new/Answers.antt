-- Nothing is kept at first.
use Rattle.std.proofs.Common.{◌≡◌, ap, subst, ◌∙◌, arith, length}
use Rattle.std.specs.Prelude.{MatchOption}
use Rattle.std.specs.NonZero.{non_zero_usize_get}
use Rattle.dead_memo.specs.Keys.{kept_in}
use Rattle.dead_memo.specs.Memo.{kept, capacity_of}
use Rattle.dead_memo.proofs.memo.DeadMemo.new.Goals as goal

pub invariant_of-result : goal.invariant_of-result
unfolding kept_in
invariant_of-result c = record { dead = λ k d below. absurd (omega (arith, below, ap (λ cache. length (kept_in cache)) c.in_ok-cache.ensures)) }

pub returns-clause-empty : goal.returns-clause-empty
unfolding kept kept_in
returns-clause-empty c = ap kept_in c.in_ok-cache.ensures

pub returns-clause-capacity : goal.returns-clause-capacity
unfolding capacity_of
returns-clause-capacity c = ap (λ cache. cache.cap) c.in_ok-cache.ensures ∙ subst (λ o. MatchOption o (c.args.capacity ≡ 0) (λ x. non_zero_usize_get x ≡ c.args.capacity)) c.unwrap-capacity.ensures c.new.ensures
