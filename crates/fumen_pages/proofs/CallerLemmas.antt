-- Lemmas that the crates above cite.
pub use Rattle.fumen_pages.proofs.InsideLaws.{inside_well, page_row_count-most, pivot_inside_in}
pub use Rattle.fumen_pages.proofs.NextSound.{next_cells_sound}
pub use Rattle.fumen_pages.proofs.PageReadAsSpelled.{page_from_read, read_from_page, read_from_tail_fault, tail_fault_from_read}
pub use Rattle.fumen_pages.proofs.RecordReadAsSpelled.{read_from_record, read_from_record_fault, record_fault_from_read, record_from_read}
pub use Rattle.fumen_pages.proofs.RowLaws.{flat, flat-rows_in, length-flat, length-rows_in}
pub use Rattle.fumen_pages.proofs.ShownRows.{rows_left-end, rows_left-more, shown-left}
unfoldable pub use Rattle.fumen_pages.proofs.ShownRows.{rows_left}
pub use Rattle.fumen_pages.proofs.WrittenActionIsSpelled.{number_says}
pub use Rattle.fumen_pages.proofs.WrittenRecordIsSpelled.{written_digits, written_other, written_same}
