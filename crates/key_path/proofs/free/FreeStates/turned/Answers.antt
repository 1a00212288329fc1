-- The pivot of the first test is tried first.
use Rattle.std.proofs.Common.{arith}
use Rattle.srs.specs.Kick.{pair_of}
use Rattle.srs.specs.Rules.{table_of}
use Rattle.srs.proofs.CallerLemmas.{table_of-small}
use Rattle.well.specs.Well.{filled}
use Rattle.moves.proofs.CallerLemmas.{kick_is_short}
use Rattle.key_path.proofs.FreeLemmas.{if_some, turned_first}
use Rattle.key_path.proofs.free.FreeStates.turned.Goals as goal

pub moved-requires-clause-short : goal.moved-requires-clause-short
moved-requires-clause-short c = kick_is_short (table_of c.args.rules.now) c.args.state.now.piece c.args.state.now.rotation c.args.to 1 c.kick.result (table_of-small c.args.rules.now) (omega arith) (omega arith) c.kick.ensures

pub returns : goal.returns
returns c = if_some _ _ c.moved.result (λ next leads. turned_first (filled c.args.self.now.well) (table_of c.args.rules.now) c.args.state.now c.args.to (pair_of c.kick.result) next c.kick.ensures leads) c.moved.ensures
