-- The marks are narrowed so far.
use Rattle.percent.specs.Building.{AreNarrowed, AreTested}
use Rattle.percent.proofs.marks.Marks.narrow.Given as goal

abbrev pub invariant-loop-index : goal.invariant-loop-index
invariant-loop-index l = record {
  narrowed : AreNarrowed l.fn.self l.self l.left l.hands;
  tested : AreTested l.fn.self.game l.fn.self.position l.left l.hands l.may.items;
}
