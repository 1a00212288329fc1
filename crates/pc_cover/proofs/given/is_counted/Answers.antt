-- By what stands behind the name.
use Rattle.std.proofs.Common.{◌&&◌, drop, length, sym, ap, rules}
use Rattle.pc_cover.specs.Given.{is_count, is_counted}
use Rattle.pc_cover.proofs.given.is_counted.Goals as goal

pub returns-in-Some : goal.returns-in-Some
unfolding is_counted
returns-in-Some c = search rules

pub returns-in-None : goal.returns-in-None
unfolding is_counted
returns-in-None c = sym (ap (λ b. b && is_count (drop (length c.args.name.now) c.args.line.now)) c.in-None.ensures.cases)
