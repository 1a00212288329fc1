-- Where the page locks, its cells are filled, cleared, risen and mirrored.
use Rattle.std.proofs.Common.{rules}
use Rattle.fumen_pages.proofs.InsideLaws.{inside_well}
use Rattle.fumen_pages.proofs.NextSound.{left_open, left_locked}
use Rattle.fumen_pages.proofs.next.left_cells.Goals as goal

pub returns-then-not-page : goal.returns-then-not-page
returns-then-not-page c = left_open c.args.dialect c.args.page.now c.if-not-page.true

pub fill-requires : goal.fill-requires
fill-requires c = λ p is. inside_well c.args.dialect p (c.requires.inside p is)

pub returns : goal.returns
returns c = search (rules, left_locked)
