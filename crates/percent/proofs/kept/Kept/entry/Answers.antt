-- What is kept beside what was known is true.
use Rattle.std.proofs.Common.{refl, subst, sym}
use Rattle.percent.specs.declared.kept.Slot.{Slot}
use Rattle.percent.proofs.KeptLemmas.{AreTrueOf, bits-filled, new-slot, true-alone, true-merged}
use Rattle.percent.proofs.kept.Kept.entry.Goals as goal
use Rattle.percent.proofs.kept.Kept.entry.Goals.{in-Some+in_ok-merged-in-Some+in_ok-merged-in-Some-2, in-None+in_ok-copied-in-None+in_ok-copied-in-None-2}

are-true : (c : goal.After-cells_below) → AreTrueOf c.args.self.now.tree c.args.self.now.game c.args.position.now c.args.left c.args.found.now c.args.missed.now c.match-known.found
are-true c =
    let tree = c.args.self.now.tree in
    let game = c.args.self.now.game in
    let p = c.args.position.now in
    elim c.match-known.branch [
      | in-Some+in_ok-merged-in-Some+in_ok-merged-in-Some-2 w ↦
          subst (AreTrueOf tree game p c.args.left c.args.found.now c.args.missed.now) (sym w.found-is)
          (true-merged tree game p c.args.left c.args.found.now c.args.missed.now _ _ _ _ w.in_ok-merged-in-Some.ensures w.in_ok-merged-in-Some-2.ensures
          w.in-Some.ensures.found w.in-Some.ensures.missed c.requires.found_true c.requires.missed_true)
      | in-None+in_ok-copied-in-None+in_ok-copied-in-None-2 w ↦
          subst (AreTrueOf tree game p c.args.left c.args.found.now c.args.missed.now) (sym w.found-is)
          (true-alone tree game p c.args.left c.args.found.now c.args.missed.now _ _ w.in_ok-copied-in-None.ensures w.in_ok-copied-in-None-2.ensures c.requires.found_true c.requires.missed_true)
    ]

pub returns-clause-holds : goal.returns-clause-holds
returns-clause-holds c =
    let p = c.args.position.now in
    let slot : Slot = record { cells = c.cells_below.result; rows = p.rows; left = c.args.left; found = c.match-known.found.0; missed = c.match-known.found.1 } in
    new-slot c.args.self.now.tree c.args.self.now.game slot p c.args.left c.args.found.now c.args.missed.now c.match-known.found
    (bits-filled p c.cells_below.result c.cells_below.ensures) refl refl refl refl (are-true c)

pub returns-clause-cells : goal.returns-clause-cells
returns-clause-cells c = bits-filled c.args.position.now c.cells_below.result c.cells_below.ensures

pub returns-clause-found : goal.returns-clause-found
returns-clause-found c = (are-true c).found_in

pub returns-clause-missed : goal.returns-clause-missed
returns-clause-missed c = (are-true c).missed_in
