-- The sink fills the slice that it was made for.
use Rattle.pc_outside.specs.SliceSinkView.{sink_view}
use Rattle.pc_c.proofs.slots.write_line.Given as goal

abbrev pub ghosts-tell_fault : goal.ghosts-tell_fault
ghosts-tell_fault a = record { name = (sink_view a.err.now).slice; before = (sink_view a.err.now).rest }
