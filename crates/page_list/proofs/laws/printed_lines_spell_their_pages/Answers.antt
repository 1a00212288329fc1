-- Line by line.
use Rattle.page_list.proofs.PrintedIsSpelled.{printed_pages}
use Rattle.page_list.proofs.laws.printed_lines_spell_their_pages.Goals as goal

pub returns : goal.returns
returns c = printed_pages
