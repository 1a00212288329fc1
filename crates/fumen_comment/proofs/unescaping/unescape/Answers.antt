-- One more unit is read, and then all are.
use Rattle.std.proofs.Common.{◌-◌, ◌∙◌, length, drop, take, rules}
use Rattle.std.proofs.lemmas.List.{take_rest}
use Rattle.fumen_comment.specs.Unescape.{unescaped}
use Rattle.fumen_comment.proofs.UnescapeLoop.{units_more, units_none, units_all}
use Rattle.fumen_comment.proofs.unescaping.unescape.Goals as goal

pub loop-rest-preserved : goal.loop-rest-preserved
loop-rest-preserved c =
    search (rules, (units_more c.loop-rest.units.items c.loop-rest.rest.now (take (length c.loop-rest.rest.now - 1) (drop 1 c.loop-rest.rest.now))), (take_rest c.loop-rest.rest.now 1), (take_rest (take (length c.loop-rest.rest.now - 1) (drop 1 c.loop-rest.rest.now)) c.unit_of-unit.result.1))

pub returns-clause-units : goal.returns-clause-units
returns-clause-units c =
    c.from_units.ensures ∙ units_all c.loop-rest.units.items c.loop-rest.rest.now (unescaped c.args.text.now) c.in_default.len_below c.loop-rest.invariant

pub returns-in_err-push-clause-none : goal.returns-in_err-push-clause-none
unfolding Rattle.fumen_comment.specs.Unescape.unescaped_behind
returns-in_err-push-clause-none c = search (rules, units_none)
