-- What is read is one.
use Rattle.page_list.proofs.PagesReadAsSpelled.{either, not_both, one_page_list, one_fault}
use Rattle.page_list.proofs.laws.a_text_spells_pages_or_has_a_fault.Goals as goal

pub returns : goal.returns
returns c = record { either = either; not_both = not_both; one_list = one_page_list; one_fault = one_fault }
