-- A hand that is refused is bad.
use Rattle.std.proofs.Common.{◌<◌, ◌∙◌, length, sym}
use Rattle.percent.proofs.BuildingLemmas.{tests-bad}
use Rattle.percent.proofs.marks.Marks.note.Goals as goal
use Rattle.percent.proofs.marks.Marks.note.Goals.{then-has_bit, else-has_bit}

pub loop-k-preserved : goal.loop-k-preserved
loop-k-preserved c =
    let k = c.loop-k.k in
    let low : k < length c.args.own.now = c.loop-k-test.true in
    elim c.if-has_bit.branch [
      | then-has_bit w ↦
          rw w.may-is
          (tests-bad c.args.self.now c.args.mark.now c.args.left c.args.own.now c.args.indexes.now c.args.may.now.items c.loop-k.may.items k low c.requires.among
          (c.unserved-unserved.ensures.unserved k low (sym c.has_bit.ensures ∙ w.if-has_bit.true)) c.loop-k.invariant)
      | else-has_bit w ↦ rw w.may-is c.loop-k.invariant
    ]
