-- The ledger of steps is the one that is made here, and each sink fills the slice that it was made for.
use Rattle.pc_outside.specs.SliceSinkView.{sink_view}
use Rattle.pc_c.proofs.run_words.Given as goal

abbrev pub ghosts-run_into-L-Ledger : goal.ghosts-run_into-L-Ledger
ghosts-run_into-L-Ledger a = record { name = a.blank.name; parts = a.blank.parts }

abbrev pub ghosts-run_into-P-Slot : goal.ghosts-run_into-P-Slot
ghosts-run_into-P-Slot a = record { name = (sink_view a.out.now).slice; before = (sink_view a.out.now).rest }

abbrev pub ghosts-run_into-Q-Slot : goal.ghosts-run_into-Q-Slot
ghosts-run_into-Q-Slot a = record { name = (sink_view a.err.now).slice; before = (sink_view a.err.now).rest }
