-- What is wrong with the problem is what is wrong with what is asked.
use Rattle.std.proofs.Common.{refl}
use Rattle.problem.specs.declared.problem.Problem.{Problem}
use Rattle.pc_settings.specs.Views.{field_view}
use Rattle.pc_source.proofs.ToldFaults.{told-first}
use Rattle.pc_source.proofs.asked.problem_of.Goals as goal

pub returns-in-Err-clause-fault : goal.returns-in-Err-clause-fault
returns-in-Err-clause-fault c =
    let settings = c.args.settings.now in
    let problem : Problem = record { well = c.args.well; height = settings.height; pattern = c.in_ok-pattern.pattern; hold = settings.hold; held = settings.held; drop_mode = settings.drop_mode; rules = settings.rules } in
    told-first (field_view settings) problem refl refl refl c.in_ok-pattern.ensures.pattern c.in_ok-rows.ensures.none c.in-Err.fault c.told.result c.in-Err.ensures c.told.ensures
