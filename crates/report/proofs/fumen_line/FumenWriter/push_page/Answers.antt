-- The page is sound.
use Rattle.std.proofs.Common.{sym, subst}
use Rattle.std.specs.Prelude.{option_map}
use Rattle.fumen_digits.specs.declared.dialect.Dialect.TheVariants.{V115}
use Rattle.fumen_pages.specs.Sound.{IsSound}
use Rattle.report.proofs.LineFields.{placing_sound}
use Rattle.report.proofs.fumen_line.FumenWriter.push_page.Goals as goal

pub next_cells-left-requires : goal.next_cells-left-requires
next_cells-left-requires c =
    subst (IsSound V115) (sym c.in_ok-page.ensures)
    (placing_sound c.args.cells.now c.args.colour c.args.placement.now (option_map (λ word. word.items) c.args.word.now) c.requires.cells c.requires.inside)
