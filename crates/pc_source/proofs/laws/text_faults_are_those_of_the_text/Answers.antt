-- The fault of a text is that of its reading.
use Rattle.pc_source.proofs.TextFaults.{text_faulty, text_page}
use Rattle.pc_source.proofs.laws.text_faults_are_those_of_the_text.Goals as goal

pub returns : goal.returns
returns c = record { text = text_faulty; page = text_page }
