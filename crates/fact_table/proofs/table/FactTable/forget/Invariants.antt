-- The entries so far say nothing.
use Rattle.std.proofs.Common.{◌≡◌, All, length, take}
use Rattle.fact_table.proofs.table.FactTable.forget.Given as goal

abbrev pub invariant-loop-slot : goal.invariant-loop-slot
invariant-loop-slot g l = All g.E.Entry.says_nothing (take l.slot l.entries.items) × (length l.entries.items ≡ length l.initial.entries.items)
