-- Lemmas that the crates above cite.
pub use Rattle.page_list.proofs.ListLemmas.{behind_shorter, lines-more, none-left}
pub use Rattle.page_list.proofs.PagesReadAsSpelled.{one_page_list, pages_spelled, spelled_fault_read, spelled_pages_read}
pub use Rattle.page_list.proofs.PrintedIsSpelled.{printed_pages}
pub use Rattle.page_list.proofs.SpelledCells.{cells_of_pages, units_of_pages}
