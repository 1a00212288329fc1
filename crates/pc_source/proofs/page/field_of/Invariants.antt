-- The cells so far are those of the page's field.
use Rattle.std.proofs.Common.{◌≡◌}
use Rattle.well.specs.Well.{filled}
use Rattle.pc_source.proofs.PageCells.{cells_before}
use Rattle.pc_source.proofs.page.field_of.Given as goal

abbrev pub invariant-loop-index : goal.invariant-loop-index
invariant-loop-index l = filled l.well ≡ cells_before l.index l.page
