-- The offsets of a table are short.
use Rattle.std.proofs.Common.{rules}
use Rattle.srs.proofs.CallerLemmas.{table_of-small}
use Rattle.kick_file.proofs.PrintLemmas.{short_moves}
use Rattle.kick_file.proofs.printing.push_some_entry.Goals as goal

pub push_offsets-requires : goal.push_offsets-requires
push_offsets-requires c = search (rules, short_moves, (table_of-small c.args.rules.now))
