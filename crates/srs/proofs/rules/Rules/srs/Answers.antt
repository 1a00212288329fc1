-- The 28 rows of the table.
use Rattle.std.proofs.Common.{rules}
use Rattle.srs.specs.Rules.{table_of}
use Rattle.srs.proofs.TableLemmas.{same_piece_tables, same_tables}
use Rattle.srs.proofs.rules.Rules.srs.Goals as goal

pub returns : goal.returns
unfolding table_of
returns c = search (rules, same_tables, same_piece_tables)
