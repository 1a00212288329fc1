-- A place is inside the well.
use Rattle.srs.specs.Rules.{table_of}
use Rattle.well.specs.Well.{filled}
use Rattle.well.proofs.CallerLemmas.{free_inside}
use Rattle.moves.proofs.CallerLemmas.{place-free}
use Rattle.calling.proofs.bot.with_keys.Goals as goal

pub find-requires : goal.find-requires
find-requires c =
    let problem = c.args.problem.now in
    free_inside (filled problem.well) c.args.placement (place-free (table_of problem.rules) (filled problem.well) problem.drop_mode c.args.placement c.requires)
