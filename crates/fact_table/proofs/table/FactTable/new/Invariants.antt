-- So far each entry says nothing.
use Rattle.std.proofs.Common.{◌≡◌, All, length}
use Rattle.fact_table.proofs.table.FactTable.new.Given as goal

abbrev pub invariant-loop : goal.invariant-loop
invariant-loop g l = All g.E.Entry.says_nothing l.entries.items × (length l.entries.items ≡ l.counter)
