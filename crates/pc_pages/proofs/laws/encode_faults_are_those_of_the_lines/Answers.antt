-- The source is too long, or its lines have a fault, or they spell pages.
use Rattle.std.proofs.Common.{◌∙◌, refl}
use Rattle.pc_source.proofs.CallerLemmas.{not_too_long, too_long}
use Rattle.pc_pages.specs.Tasks.{encode_task}
use Rattle.pc_pages.proofs.EncodeFaults.{lines_faulty, lines_spelled}
use Rattle.pc_pages.proofs.laws.encode_faults_are_those_of_the_lines.Goals as goal

pub returns : goal.returns
returns c = record {
  too_long = λ dialect bytes more. too_long (encode_task dialect) bytes refl more;
  lines = λ dialect bytes fault within is. not_too_long (encode_task dialect) bytes within ∙ lines_faulty dialect bytes fault is;
  pages = λ dialect bytes pages within spelled. not_too_long (encode_task dialect) bytes within ∙ lines_spelled dialect bytes pages spelled;
}
