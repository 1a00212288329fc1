-- What plays is kept.
use Rattle.std.proofs.Common.{refl, rules}
use Rattle.std.specs.Result.{OnErr}
use Rattle.std.specs.declared.result.Result.{Result}
use Rattle.cover.specs.Kept.{lists_of, kept_problem}
use Rattle.cover.proofs.set.CoverSet.add.Goals as goal

on_err : {A E : Type 0} (r : Result A E) (P : Type 0) → P → OnErr r P
on_err r P holds = search rules

pub returns-then-not-plays_by-clause-plays : goal.returns-then-not-plays_by-clause-plays
unfolding kept_problem
returns-then-not-plays_by-clause-plays g c = c.if-not-plays_by.ensures.exact

pub returns-in_err-keep-clause-problem : goal.returns-in_err-keep-clause-problem
unfolding kept_problem
returns-in_err-keep-clause-problem g c = refl

pub returns-in_err-keep-clause-err : goal.returns-in_err-keep-clause-err
unfolding lists_of
returns-in_err-keep-clause-err g c = on_err _ _ c.in_err-keep.ensures.err

pub returns-clause-problem : goal.returns-clause-problem
unfolding kept_problem
returns-clause-problem g c = refl

pub returns-clause-plays : goal.returns-clause-plays
unfolding kept_problem
returns-clause-plays g c = c.if-not-plays_by.ensures.exact

pub returns-clause-kept : goal.returns-clause-kept
unfolding lists_of
returns-clause-kept g c = search rules

pub returns-in_err-keep-clause-none : goal.returns-in_err-keep-clause-none
unfolding kept_problem
returns-in_err-keep-clause-none g c = search rules
