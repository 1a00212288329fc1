-- What is read is what stands there.
use Rattle.std.proofs.Common.{length, ap, ◌∙◌}
use Rattle.std.specs.Prelude.{slice_get}
use Rattle.fact_table.specs.Entries.{slot_in}
use Rattle.fact_table.proofs.SlotLemmas.{slot-read}
use Rattle.fact_table.proofs.table.FactTable.entry.Goals as goal

pub returns : goal.returns
returns g c =
    slot-read c.self.inside.entries c.in_ok-entries.entries.now c.len.result c.args.hash c.index.result.now c.in_ok-entries.ensures.value c.self.invariant c.len.ensures c.index.ensures
    ∙ ap (λ entries. slice_get entries (slot_in (length entries) c.args.hash)) c.self.view_is
