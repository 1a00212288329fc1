-- The walls.
use Rattle.std.proofs.Common.{refl}
use Rattle.well.specs.Well.{filled}
use Rattle.combo.proofs.MiddleLemmas.{between}
use Rattle.combo.proofs.room.has_walls.Goals as goal

pub returns : goal.returns
returns c is =
    between (filled c.args.well.now) c.args.height c.requires (c.if-not-all_have_gaps.ensures refl) (c.if-not-is_empty_from.ensures refl) (c.is_empty_from-2.ensures is)
