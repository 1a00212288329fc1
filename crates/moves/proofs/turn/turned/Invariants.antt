-- The tests so far have failed, so that the first state that is free is that of the tests to come.
use Rattle.std.proofs.Common.{◌≡◌}
use Rattle.srs.specs.Cells.{moved, pivot_of}
use Rattle.srs.specs.Kick.{kick_in}
use Rattle.srs.specs.Rules.{table_of}
use Rattle.well.specs.Well.{filled}
use Rattle.moves.specs.Step.{first_free, turned}
use Rattle.moves.proofs.TurnLemmas.{pivots_from}
use Rattle.moves.proofs.turn.turned.Given as goal

abbrev pub invariant-loop-test : goal.invariant-loop-test
invariant-loop-test l =
    first_free (filled l.well) l.state.piece l.to (pivots_from (λ test. moved (pivot_of l.state) (kick_in (table_of l.rules) l.state.piece l.state.rotation l.to test)) l.test)
    ≡ turned (table_of l.rules) (filled l.well) l.state l.to
