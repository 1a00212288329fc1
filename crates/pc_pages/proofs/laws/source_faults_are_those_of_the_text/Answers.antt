-- The source is too long, or its text has a fault, or it reads as pages.
use Rattle.std.proofs.Common.{None, ◌∙◌, refl}
use Rattle.pc_source.proofs.CallerLemmas.{not_too_long, text_faulty, text_page, too_long}
use Rattle.pc_pages.specs.Tasks.{decode_task, show_task}
use Rattle.pc_pages.proofs.laws.source_faults_are_those_of_the_text.Goals as goal

pub returns : goal.returns
returns c = record {
  decode_too_long = λ bytes more. too_long decode_task bytes refl more;
  decode_text = λ bytes fault within is. not_too_long decode_task bytes within ∙ text_faulty None bytes fault is;
  decode_pages = λ bytes dialect pages within reads. not_too_long decode_task bytes within ∙ text_page None bytes dialect pages reads;
  show_too_long = λ asked bytes more. too_long (show_task asked) bytes refl more;
  show_text = λ asked bytes fault within is. not_too_long (show_task asked) bytes within ∙ text_faulty asked bytes fault is;
  show_page = λ asked bytes dialect pages within reads. not_too_long (show_task asked) bytes within ∙ text_page asked bytes dialect pages reads;
}
