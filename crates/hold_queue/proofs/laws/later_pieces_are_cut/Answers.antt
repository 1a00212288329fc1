-- The goal of `later_pieces_are_cut` needs a lemma.
use Rattle.hold_queue.proofs.CutLemmas.{takes-is_cut}
use Rattle.hold_queue.proofs.laws.later_pieces_are_cut.Goals as goal

pub returns : goal.returns
returns c = takes-is_cut
