-- The pages so far, and those that are still to come from the state, make all.
use Rattle.std.proofs.Common.{◌≡◌, ◌-◌, ◌++◌, ◌==◌, All}
use Rattle.fumen_digits.specs.declared.dialect.Dialect.TheVariants.{V115}
use Rattle.fumen_pages.specs.Cells.{AreCells}
use Rattle.fumen_pages.specs.Sound.{IsSound}
use Rattle.sample_pages.specs.Pages.{pages_drawn, sample_pages, state_behind_pages}
use Rattle.sample_pages.proofs.pages.sample_of.Given as goal

abbrev pub invariant-loop-index : goal.invariant-loop-index
invariant-loop-index l = record {
  pages : l.made.items ++ pages_drawn (l.pages - l.index) l.state (l.index == 0) l.cells ≡ sample_pages l.number l.pages;
  behind : state_behind_pages (l.pages - l.index) l.state ≡ state_behind_pages l.pages l.number;
  cells : AreCells V115 l.cells;
  sound : All (IsSound V115) l.made.items;
}
