-- The pivot beside or below is the only one that is tried.
use Rattle.std.proofs.Common.{pos, rules}
use Rattle.srs.specs.Cells.{minus}
use Rattle.srs.specs.Rules.{table_of}
use Rattle.well.specs.Well.{filled}
use Rattle.moves.specs.declared.key.Key.TheVariants.{Left, Right, Down}
use Rattle.key_path.proofs.FreeLemmas.{if_some, shifted_first}
use Rattle.key_path.proofs.free.FreeStates.unhindered.Goals as goal

pub returns-in-Left : goal.returns-in-Left
returns-in-Left c = search (rules, if_some, (shifted_first (filled c.args.self.now.well) (table_of c.args.rules.now) c.args.state.now c.args.key Left (minus 1, pos 0)))

pub returns-in-Right : goal.returns-in-Right
returns-in-Right c = search (rules, if_some, (shifted_first (filled c.args.self.now.well) (table_of c.args.rules.now) c.args.state.now c.args.key Right (pos 1, pos 0)))

pub returns-in-Down : goal.returns-in-Down
returns-in-Down c = search (rules, if_some, (shifted_first (filled c.args.self.now.well) (table_of c.args.rules.now) c.args.state.now c.args.key Down (pos 0, minus 1)))
