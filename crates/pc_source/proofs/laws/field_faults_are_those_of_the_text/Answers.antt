-- The fault of a fumen text that gives the field is that of the text.
use Rattle.std.proofs.Common.{Some}
use Rattle.pc_source.specs.FieldText.{text_given}
use Rattle.pc_source.proofs.TextFaults.{text_faulty, text_page}
use Rattle.pc_source.proofs.laws.field_faults_are_those_of_the_text.Goals as goal

pub returns : goal.returns
returns c = record {
  text = λ word number bytes fault is. text_faulty (Some number) (text_given word bytes) fault is;
  page = λ word number bytes dialect pages reads. text_page (Some number) (text_given word bytes) dialect pages reads;
}
