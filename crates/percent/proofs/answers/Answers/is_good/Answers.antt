-- The answer for the queue is kept.
use Rattle.std.proofs.Common.{◌<◌, ◌∙◌, length, false, arith}
use Rattle.std.proofs.lemmas.List.{get_or_default}
use Rattle.percent.specs.Answers.{problem_of}
use Rattle.percent.proofs.AnswerLemmas.{numbered-answer}
use Rattle.percent.proofs.answers.Answers.is_good.Goals as goal

pub index-requires : goal.index-requires
unfolding problem_of
index-requires c = let size = c.args.self.now.exact.size in omega (arith, size, c.requires)

pub returns : goal.returns
unfolding problem_of
returns c = λ queue read.
    let answers = c.args.self.now in
    let within : c.args.number < length answers.good.items = let size = answers.exact.size in omega (arith, size, c.requires) in
    numbered-answer answers.problem c.args.number queue answers.good.items _ c.index.result.now answers.fit answers.exact c.requires read
    (c.index.ensures ∙ get_or_default answers.good.items c.args.number c.index.result.now false within)
