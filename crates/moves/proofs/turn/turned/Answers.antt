-- The five tests, one after another.
use Rattle.std.proofs.Common.{sym, ap, ◌∙◌, arith, rules}
use Rattle.srs.specs.Cells.{moved, pivot_of}
use Rattle.srs.specs.Kick.{kick_in}
use Rattle.srs.specs.Rules.{table_of}
use Rattle.srs.proofs.CallerLemmas.{table_of-small}
use Rattle.well.specs.Well.{filled}
use Rattle.moves.specs.Step.{first_free, turned}
use Rattle.moves.proofs.TurnLemmas.{kick_is_short, all_pivots, no_pivots, test_fails, test_holds}
use Rattle.moves.proofs.turn.turned.Goals as goal

pub free_at-requires-clause-short : goal.free_at-requires-clause-short
free_at-requires-clause-short c = kick_is_short (table_of c.args.rules.now) _ _ _ _ _ (table_of-small c.args.rules.now) (omega arith) (omega arith) c.kick-change.ensures

pub loop-test-init : goal.loop-test-init
unfolding turned
loop-test-init c = ap (first_free (filled c.args.well.now) c.args.state.now.piece c.args.to) (all_pivots (λ test. moved (pivot_of c.args.state.now) (kick_in (table_of c.args.rules.now) c.args.state.now.piece c.args.state.now.rotation c.args.to test)))

pub returns-in-Some : goal.returns-in-Some
returns-in-Some c = search (rules, test_holds)

pub loop-test-preserved : goal.loop-test-preserved
loop-test-preserved c = search (rules, test_fails)

pub returns : goal.returns
unfolding first_free
returns c = ap (first_free (filled c.args.well.now) c.args.state.now.piece c.args.to) (sym (no_pivots _ c.loop-test.test (omega arith))) ∙ c.loop-test.invariant
