-- The text is written, and a newline.
use Rattle.std.proofs.Common.{Err, ap, refl}
use Rattle.pc_source.proofs.CallerLemmas.{refused_answers, wants_memory}
use Rattle.pc_pages.specs.Tasks.{encode_task}
use Rattle.pc_pages.proofs.encode.run_encode.Goals as goal

pub returns-in-Err-clause-answers : goal.returns-in-Err-clause-answers
returns-in-Err-clause-answers g c = refused_answers (encode_task c.args.dialect) c.args.bytes.now _ _ 0 c.in-Err.refused c.from.result c.from.ensures refl (λ _ reads. cc) c.in-Err.ensures.refused

pub returns-in-Err-clause-memory : goal.returns-in-Err-clause-memory
returns-in-Err-clause-memory g c = λ none. c.in-Err.ensures.memory (ap (λ r. Err r) (wants_memory c.in-Err.refused c.from.result c.from.ensures none))
