-- What is passed by at the last frame is passed by of all.
use Rattle.std.proofs.Common.{arith, rules}
use Rattle.reach.specs.FloodRules.{flood_table}
use Rattle.enumerate.proofs.SeekLemmas.{old-fresh, old-within, skipped}
use Rattle.enumerate.proofs.seek.skip_at.Goals as goal

pub skip-requires-clause-fresh : goal.skip-requires-clause-fresh
skip-requires-clause-fresh g c = old-fresh (flood_table c.args.rules.now) c.args.drop_mode c.args.frames.now c.split_at_mut-walked.result.0.now c.args.top c.split_at_mut-walked.ensures.front (omega arith) c.index-walked-top.result c.requires.fresh

pub skip-requires-clause-room : goal.skip-requires-clause-room
skip-requires-clause-room g c = search (rules, old-within)

pub returns-clause-sought : goal.returns-clause-sought
returns-clause-sought g c = grind (arith, skipped)
