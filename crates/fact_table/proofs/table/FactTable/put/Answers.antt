-- The entry is written, if there is room.
use Rattle.std.proofs.Common.{ap, ◌∙◌}
use Rattle.fact_table.specs.Entries.{entries_of, with_entry}
use Rattle.fact_table.proofs.SlotLemmas.{slot-lost, slot-written}
use Rattle.fact_table.proofs.table.FactTable.put.Goals as goal
use Rattle.fact_table.proofs.table.FactTable.put.Goals.{in-Some, in_default}

pub returns : goal.returns
returns g c = elim c.match-self.branch [
  | in-Some w ↦
      ap (λ inside. entries_of inside.entries) w.self-inside-is
      ∙ slot-written c.self.inside.entries w.in-Some.entries w.len.result c.args.hash c.args.entry w.in-Some.is w.len.ensures
      ∙ ap (λ entries. with_entry entries c.args.hash c.args.entry) c.self.view_is
  | in_default w ↦
      ap (λ inside. entries_of inside.entries) w.self-inside-is ∙ slot-lost c.self.inside.entries c.args.hash c.args.entry w.in_default.is
      ∙ ap (λ entries. with_entry entries c.args.hash c.args.entry) c.self.view_is
]
