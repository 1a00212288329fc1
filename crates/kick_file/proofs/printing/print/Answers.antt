-- The last `;` goes.
use Rattle.std.proofs.Common.{rules}
use Rattle.srs.proofs.CallerLemmas.{table_of-small}
use Rattle.kick_file.proofs.PrintLemmas.{table_ends, printed_read}
use Rattle.kick_file.proofs.printing.print.Goals as goal

pub returns-clause-form : goal.returns-clause-form
returns-clause-form c = search (rules, table_ends)

pub returns-clause-read : goal.returns-clause-read
returns-clause-read c = search (rules, printed_read, table_of-small, returns-clause-form)
