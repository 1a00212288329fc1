-- There is room for one more.
use Rattle.std.proofs.Common.{sym, arith, rules}
use Rattle.kick_file.proofs.GivenLemmas.{room, distinct_more}
use Rattle.kick_file.proofs.reading.Reader.begin.Goals as goal

pub push-requires : goal.push-requires
push-requires c = (omega arith, room c.args.self.now.given.items c.args.turned c.args.self.now.distinct (sym c.if-has.ensures))

pub invariant_of-self-clause-distinct : goal.invariant_of-self-clause-distinct
invariant_of-self-clause-distinct c = search (rules, distinct_more)
