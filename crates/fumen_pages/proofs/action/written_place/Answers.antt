-- The pivot lies in the well, and so does the cell where it is written.
use Rattle.std.proofs.Common.{◌≡◌, true, sym, ap, subst, ◌∙◌, arith, rules}
use Rattle.std.proofs.lemmas.Int.{ints}
use Rattle.srs.specs.Cells.{Cell}
use Rattle.srs.proofs.CallerLemmas.{pivot_inside}
use Rattle.fumen_pages.specs.Action.{in_rows}
use Rattle.fumen_pages.specs.Cells.{place_of}
use Rattle.fumen_pages.proofs.InsideLaws.{inside_well}
use Rattle.fumen_pages.proofs.WrittenActionIsSpelled.{written_in_rows, written_there}
use Rattle.fumen_pages.proofs.action.written_place.Goals as goal

pub overflow_cast-pivot : goal.overflow_cast-pivot
overflow_cast-pivot c = grind (arith, ints, pivot_inside, inside_well)

pub overflow_cast-pivot-2 : goal.overflow_cast-pivot-2
overflow_cast-pivot-2 c = grind (arith, ints, pivot_inside, inside_well)

pub moved-written-requires-clause-right : goal.moved-written-requires-clause-right
moved-written-requires-clause-right c = grind (arith, ints, pivot_inside, inside_well)

pub moved-written-requires-clause-left : goal.moved-written-requires-clause-left
moved-written-requires-clause-left c = search (rules, pivot_inside, inside_well)

pub moved-written-requires-clause-high : goal.moved-written-requires-clause-high
moved-written-requires-clause-high c = grind (arith, ints, pivot_inside, inside_well)

pub moved-written-requires-clause-low : goal.moved-written-requires-clause-low
moved-written-requires-clause-low c = search (rules, pivot_inside, inside_well)

pub place_of-requires : goal.place_of-requires
place_of-requires c =
    let there = written_there c.args.dialect c.args.placement.now c.moved-written.result c.written_by.result c.requires c.moved-written.ensures c.written_by.ensures.pair in
    subst (λ (x : Cell). in_rows c.args.dialect x ≡ true) (sym there) (written_in_rows c.args.dialect c.args.placement.now c.requires)

pub returns-clause-exact : goal.returns-clause-exact
returns-clause-exact c =
    c.place_of.ensures.exact
    ∙ ap (λ (x : Cell). place_of c.args.dialect x) (written_there c.args.dialect c.args.placement.now c.moved-written.result c.written_by.result c.requires c.moved-written.ensures c.written_by.ensures.pair)
