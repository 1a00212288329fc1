-- What is printed is read again.
use Rattle.std.proofs.Common.{refl}
use Rattle.kick_file.specs.Printed.{table_form}
use Rattle.kick_file.proofs.PrintLemmas.{printed_read}
use Rattle.kick_file.proofs.laws.print_undone.Goals as goal

pub returns : goal.returns
returns c table small = printed_read table (table_form table) small refl
