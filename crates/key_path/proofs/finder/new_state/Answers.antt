-- The key is not allowed, makes no move, or leads to a state whose mark decides.
use Rattle.std.proofs.Common.{sym, ◌∙◌, rules}
use Rattle.std.specs.Bool.{then_some}
use Rattle.well.specs.Well.{filled}
use Rattle.well.proofs.CallerLemmas.{free_pivot_inside}
use Rattle.srs.specs.Rules.{table_of}
use Rattle.moves.proofs.CallerLemmas.{step_of-free}
use Rattle.key_path.proofs.NewStates.{new_not_allowed, new_no_move, new_move}
use Rattle.key_path.proofs.finder.new_state.Goals as goal

pub returns-then-not-allows : goal.returns-then-not-allows
returns-then-not-allows c = new_not_allowed (table_of c.args.rules.now) (filled c.args.states.now.well) c.args.drop_mode c.args.marks.now.marks c.args.state.now c.args.key (sym c.allows.ensures ∙ c.if-not-allows.true)

pub returns-in_err-next : goal.returns-in_err-next
returns-in_err-next c = search (rules, new_no_move)

pub is_unseen-requires : goal.is_unseen-requires
is_unseen-requires c =
    search (rules, (free_pivot_inside (filled c.args.states.now.well) c.in_ok-next.next (step_of-free (table_of c.args.rules.now) (filled c.args.states.now.well) c.args.state.now c.args.key c.in_ok-next.next (sym c.step.ensures ∙ c.in_ok-next.was)).free))

pub returns : goal.returns
returns c = search (rules, then_some, new_move)
