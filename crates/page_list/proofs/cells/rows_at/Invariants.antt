-- The colours so far stand in front of those that are left.
use Rattle.std.proofs.Common.{◌≡◌, ◌+◌, ◌*◌, ◌≤◌, length, drop}
use Rattle.page_list.specs.CellsReading.{rows_at, with_front}
use Rattle.page_list.proofs.cells.rows_at.Given as goal

abbrev pub invariant-loop-place : goal.invariant-loop-place
invariant-loop-place l =
    (with_front l.colours.items (rows_at l.column (drop l.place l.text)) ≡ rows_at 0 l.text)
    × (l.column ≤ 10) × (11 * length l.colours.items ≡ 10 * l.place + l.column)
