-- The flag of a queue that is there is its answer, and behind the last queue there is none.
use Rattle.std.proofs.Common.{◌∙◌, sym, arith}
use Rattle.std.proofs.lemmas.Bool.{le-ltb}
use Rattle.percent.specs.Answers.{problem_of}
use Rattle.pc_good_queues.proofs.FlagLemmas.{flag_past, flag_there}
use Rattle.pc_good_queues.proofs.bits.is_good_one.Goals as goal

pub returns-then-number-count : goal.returns-then-number-count
returns-then-number-count c =
    flag_there (problem_of c.args.answers.now) c.requires.fit c.args.number c.is_good.result (omega (arith, c.if-number-count.true, c.requires.all))
    c.is_good.ensures

pub returns-else-number-count : goal.returns-else-number-count
returns-else-number-count c =
    le-ltb c.args.number c.args.count c.if-number-count.false ∙ sym (flag_past (problem_of c.args.answers.now) c.args.number (omega (arith, c.if-number-count.false, c.requires.all)))
