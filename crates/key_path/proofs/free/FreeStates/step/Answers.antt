-- What nothing hinders is the step.
use Rattle.std.proofs.Common.{sym}
use Rattle.well.specs.Well.{filled}
use Rattle.well.proofs.CallerLemmas.{free_pivot_inside}
use Rattle.key_path.proofs.free.FreeStates.step.Goals as goal

pub unhindered-requires-clause-pivot : goal.unhindered-requires-clause-pivot
unhindered-requires-clause-pivot c = free_pivot_inside (filled c.args.self.now.well) c.args.state.now c.requires.free

pub returns-in-Some : goal.returns-in-Some
returns-in-Some c = sym c.in-Some.ensures
