-- The tilings of the mark that may serve some hand are used.
use Rattle.std.proofs.Common.{sym, subst}
use Rattle.percent.specs.declared.marks.Mark.{Mark}
use Rattle.percent.specs.Building.{HasOwn, IsUsedByAll}
use Rattle.percent.proofs.BuildingLemmas.{mark-is, used-by-own}
use Rattle.percent.proofs.marks.Marks.narrow_at_once.Goals as goal

pub returns-clause-narrowed : goal.returns-clause-narrowed
returns-clause-narrowed c = λ hands lists owned.
    let marks = c.args.self.now in
    let left = c.args.left in
    let own = c.args.own.now in
    let old = c.index-mark.result.now in
    c.keep_used.ensures.narrowed left hands lists
    (λ mark there.
    let is = mark-is marks.known.items c.args.index old mark c.index-mark.ensures there in
    subst (λ m. IsUsedByAll marks left hands m c.as_slice.result.now) is
    (subst (IsUsedByAll marks left hands old) (sym c.as_slice.ensures.value)
    (used-by-own marks left hands own old c.note_used.new.used.items c.note_used.ensures.size (subst (λ (m : Mark). HasOwn m.counts left hands own) (sym is) (owned mark there)) c.note_used.ensures.used)))
