-- The problem of the bot, and its answer.
use Rattle.std.proofs.Common.{Err, subst, sym}
use Rattle.std.proofs.lemmas.Result.{err_from_is_err_and}
use Rattle.calling.specs.FirstMove.{IsBotAnswer, IsFirstMove}
use Rattle.calling.proofs.FirstPlacement.{bot_problem, is_bot_problem}
use Rattle.calling.proofs.bot.first_move_of.Goals as goal

pub returns-in-Err : goal.returns-in-Err
returns-in-Err c =
    let pattern = c.from_queue-pattern.result in
    let rules = c.srs-rules.result in (
      bot_problem c.args.well c.args.height pattern rules,
      is_bot_problem c.args.well c.args.height c.args.queue.now.items pattern rules c.from_queue-pattern.ensures c.srs-rules.ensures,
      c.in-Err.ensures,
    )

pub returns-in_err-first_move : goal.returns-in_err-first_move
returns-in_err-first_move c =
    let pattern = c.from_queue-pattern.result in
    let rules = c.srs-rules.result in
    let problem = bot_problem c.args.well c.args.height pattern rules in
    let refused = err_from_is_err_and c.from_residual.result c.from_residual.ensures.1 in (
      problem,
      is_bot_problem c.args.well c.args.height c.args.queue.now.items pattern rules c.from_queue-pattern.ensures c.srs-rules.ensures,
      subst (IsBotAnswer problem) (sym refused.1) (subst (λ fault. IsBotAnswer problem (Err fault)) (sym refused.2) c.in-Ok.ensures.1),
    )

pub returns : goal.returns
returns c =
    let pattern = c.from_queue-pattern.result in
    let rules = c.srs-rules.result in (
      bot_problem c.args.well c.args.height pattern rules,
      is_bot_problem c.args.well c.args.height c.args.queue.now.items pattern rules c.from_queue-pattern.ensures c.srs-rules.ensures,
      subst (λ problem. IsFirstMove problem c.in_ok-first_move.field-0) c.in-Ok.ensures.0 c.in_ok-first_move.ensures,
    )
