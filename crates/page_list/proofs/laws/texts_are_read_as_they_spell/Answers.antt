-- The line form and the reading agree.
use Rattle.page_list.proofs.PagesReadAsSpelled.{pages_spelled, spelled_pages_read, fault_spelled, spelled_fault_read}
use Rattle.page_list.proofs.laws.texts_are_read_as_they_spell.Goals as goal

pub returns : goal.returns
returns c = record { pages = λ text pages. (pages_spelled text pages, spelled_pages_read text pages); fault = λ text fault. (fault_spelled text fault, spelled_fault_read text fault) }
