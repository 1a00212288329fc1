-- The tilings that have the piece are those of what it leaves.
use Rattle.std.proofs.Common.{refl, arith}
use Rattle.std.proofs.lemmas.Option.{slice_get_read, slice_get_within}
use Rattle.empty_cells.specs.Empties.{empty_cells}
use Rattle.percent.proofs.MarkLemmas.{mark-listed}
use Rattle.percent.proofs.marks.Marks.mark_after.Goals as goal

pub index-mark-requires : goal.index-mark-requires
index-mark-requires c =
    let within = slice_get_within c.args.self.now.known.items c.in_ok-index.index c.in_ok-index.ensures.there.mark c.in_ok-index.ensures.there.there in
    let size = c.args.self.now.known.ok in
    omega (arith, within, size)

pub returns-in-Ok : goal.returns-in-Ok
returns-in-Ok c = λ rest at.
    let marks = c.args.self.now in
    let k = c.in_ok-index.ensures in
    let within = slice_get_within marks.known.items c.in_ok-index.index k.there.mark k.there.there in
    mark-listed marks c.args.child.now c.args.left rest c.args.hand c.in_ok-index.index (empty_cells c.args.taken.now) c.index-mark.result.now _ c.requires.child k
    (slice_get_read marks.known.items _ c.in_ok-index.index c.index-mark.result.now refl within c.index-mark.ensures)
    c.requires.taken c.requires.counts c.in-Ok.ensures at
