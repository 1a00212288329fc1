-- The offsets change at the rotation alone.
use Rattle.std.proofs.Common.{refl}
use Rattle.srs.proofs.TableLemmas.{same_piece_tables, changed_pairs}
use Rattle.srs.proofs.rules.PieceOffsets.with_offset.Goals as goal

pub returns-in-Spawn : goal.returns-in-Spawn
returns-in-Spawn c = rw c.in-Spawn.is (same_piece_tables _ _ (changed_pairs _ _ _ _ c.with_offset-table.ensures) refl refl refl)

pub returns-in-Right : goal.returns-in-Right
returns-in-Right c = rw c.in-Right.is (same_piece_tables _ _ refl (changed_pairs _ _ _ _ c.with_offset-table-in-Right.ensures) refl refl)

pub returns-in-Reverse : goal.returns-in-Reverse
returns-in-Reverse c = rw c.in-Reverse.is (same_piece_tables _ _ refl refl (changed_pairs _ _ _ _ c.with_offset-table-in-Reverse.ensures) refl)

pub returns-in-Left : goal.returns-in-Left
returns-in-Left c = rw c.in-Left.is (same_piece_tables _ _ refl refl refl (changed_pairs _ _ _ _ c.with_offset-table-in-Left.ensures))
