-- The test of two tables decides whether they are equal.
use Rattle.std.proofs.Common.{rules}
use Rattle.srs.proofs.TableLemmas.{table_eq-decides}
use Rattle.srs.proofs.rules.Rules.is_srs.Goals as goal

pub returns : goal.returns
returns c = search (rules, table_eq-decides)
