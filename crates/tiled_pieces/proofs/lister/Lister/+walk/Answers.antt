-- Each way on, and what it adds.
use Rattle.std.proofs.Common.{[], ◌∷◌, refl, sym, ap₂, subst, ◌∙◌, arith, rules}
use Rattle.lane_board.specs.Field.{Field, difference}
use Rattle.empty_cells.specs.Empties.{empty_cells}
use Rattle.empty_cells.specs.ShiftedCells.{shifted_cells}
use Rattle.empty_cells.specs.Stacks.{CanFill}
use Rattle.empty_cells.specs.SupplyWords.{supply_of}
use Rattle.tiled_pieces.specs.RowBits.{Fills}
use Rattle.tiled_pieces.proofs.MovedOrders.{fills_counted, fills_there}
use Rattle.empty_cells.proofs.CallerLemmas.{fewer, shifted_small}
use Rattle.tiled_pieces.specs.Listings.{GoesOn, GoesOnWith, HasFirst, IsAny, path_of}
use Rattle.tiled_pieces.proofs.AddsLemmas.{adds_as, adds_full, adds_none, adds_none_here, rows-all, rows-next, rows-none, rows-start}
use Rattle.tiled_pieces.proofs.StepLemmas.{fills_from, four_of, goes_fills, leaves_adds, leaves_none, none_added, nothing_more, one_of, path_goes, seven_add, takes_adds, two_of}
use Rattle.tiled_pieces.proofs.lister.Lister.+walk.Goals as goal

pub asks-returns-then-is_dead : goal.asks-returns-then-is_dead
asks-returns-then-is_dead t c = let supply = supply_of c.args.supply in let E = shifted_cells c.args.cells.now in let before = c.args.self.now.listing in
    adds_none_here before (GoesOn HasFirst supply E) (GoesOn IsAny supply E) (λ found from goes. c.is_dead.ensures c.if-is_dead.true
    (subst (Fills before.order supply) (sym c.counted-counted.ensures) (fills_counted c.args.cells.now before.order supply
    (fills_from before.order supply E (path_of before.path) found (shifted_small c.args.cells.now) from goes))))

pub asks-new-requires : goal.asks-new-requires
asks-new-requires t c = λ filling. let supply = supply_of c.args.supply in let before = c.args.self.now.listing in
    none_added supply (shifted_cells c.args.cells.now) before c.covers.new.self.listing (shifted_small c.args.cells.now)
    c.covers.ensures (omega (arith, c.len-before.ensures, c.is_none_since.ensures.same c.if-is_none_since.true)) (c.is_none_since.ensures.room c.if-is_none_since.true)
    (fills_there c.args.cells.now before.order supply (subst (Fills before.order supply) c.counted-counted.ensures filling))

pub covers-returns : goal.covers-returns
covers-returns t c = search (rules, seven_add, shifted_small)

pub takes-forms-requires : goal.takes-forms-requires
takes-forms-requires t c = omega (arith, fewer _ _ _ c.without_one.ensures (omega (arith, c.count_of.ensures)), c.decreases)

pub takes-returns-then-count_of-eq0 : goal.takes-returns-then-count_of-eq0
takes-returns-then-count_of-eq0 t c = search (rules, adds_none)

pub takes-returns : goal.takes-returns
takes-returns t c = search (rules, takes_adds)

pub forms-returns-in-I : goal.forms-returns-in-I
forms-returns-in-I t c = search (rules, two_of, shifted_small)

pub forms-returns-in-L : goal.forms-returns-in-L
forms-returns-in-L t c = search (rules, four_of, shifted_small)

pub forms-returns-in-O : goal.forms-returns-in-O
forms-returns-in-O t c = search (rules, one_of, shifted_small)

pub forms-returns-in-Z : goal.forms-returns-in-Z
forms-returns-in-Z t c = search (rules, two_of, shifted_small)

pub forms-returns-in-T : goal.forms-returns-in-T
forms-returns-in-T t c = search (rules, four_of, shifted_small)

pub forms-returns-in-J : goal.forms-returns-in-J
forms-returns-in-J t c = search (rules, four_of, shifted_small)

pub forms-returns-in-S : goal.forms-returns-in-S
forms-returns-in-S t c = search (rules, two_of, shifted_small)

pub leaves-returns-then-is_full : goal.leaves-returns-then-is_full
leaves-returns-then-is_full t c = search (rules, adds_full)

pub leaves-returns-in_default : goal.leaves-returns-in_default
leaves-returns-in_default t c = let cover = c.args.cover.now in
    leaves_none (supply_of cover.supply) (shifted_cells cover.cells) (shifted_cells c.args.rest.now) c.args.piece c.args.self.now.listing (empty_cells c.without_cells-taken.result)
    (c.without_cells-taken.ensures ∙ ap₂ difference c.cells.ensures c.cells-2.ensures) c.in_default.ensures

pub leaves-returns : goal.leaves-returns
leaves-returns t c = let cover = c.args.cover.now in let before = c.args.self.now.listing in
    leaves_adds (supply_of cover.supply) (shifted_cells cover.cells) (shifted_cells c.args.rest.now) c.args.piece before
    (record { path = c.push.new.self; order = c.in-Some.after; tilings = before.tilings; most = before.most; is_full = before.is_full }) c.search.new.self.listing _ (empty_cells c.without_cells-taken.result)
    (c.without_cells-taken.ensures ∙ ap₂ difference c.cells.ensures c.cells-2.ensures) c.push.ensures refl refl c.in-Some.ensures c.search.ensures c.pop.ensures refl refl refl

pub search-returns-then-self : goal.search-returns-then-self
search-returns-then-self t c = search (rules, adds_full)

pub search-returns-in_default : goal.search-returns-in_default
search-returns-in_default t c = let supply = supply_of c.args.supply in let E = shifted_cells c.args.cells.now in
    adds_as c.args.self.now.listing c.add.new.self _ _ (GoesOn HasFirst supply E) (GoesOn IsAny supply E)
    (λ path found goes. nothing_more HasFirst supply E path found (shifted_small c.args.cells.now) c.in_default.ensures goes) (λ path found is. path_goes supply E path found c.in_default.ensures is) c.add.ensures

pub search-returns-then-is_without_room : goal.search-returns-then-is_without_room
search-returns-then-is_without_room t c = search rules

pub search-returns-then-is_refused : goal.search-returns-then-is_refused
search-returns-then-is_refused t c = let supply = supply_of c.args.supply in let E = shifted_cells c.args.cells.now in
    adds_none c.args.self.now.listing (GoesOn HasFirst supply E) (GoesOn IsAny supply E) (λ path found goes.
    subst (λ (G : Field). CanFill 8 supply G → ⊥) c.in-Some.ensures.0 (c.is_refused.ensures.none c.if-is_refused.true) (goes_fills supply E path found (shifted_small c.args.cells.now) goes))

pub search-returns : goal.search-returns
search-returns t c = search rules

pub stacks_one-loop-rows-init : goal.stacks_one-loop-rows-init
stacks_one-loop-rows-init t c = search (rules, rows-start, shifted_small)

pub stacks_one-loop-rows-preserved : goal.stacks_one-loop-rows-preserved
stacks_one-loop-rows-preserved t c = search (rules, rows-next, shifted_small, rows-none)

pub stacks_one-loop-rows-smaller : goal.stacks_one-loop-rows-smaller
stacks_one-loop-rows-smaller t c = c.without_row-rows.ensures.fewer c.lowest_row-row.ensures.has

pub stacks_one-returns : goal.stacks_one-returns
stacks_one-returns t c = rows-all (GoesOnWith HasFirst (supply_of c.args.cover.now.supply) (shifted_cells c.args.cover.now.cells) c.args.piece) (GoesOnWith IsAny (supply_of c.args.cover.now.supply) (shifted_cells c.args.cover.now.cells) c.args.piece)
    (shifted_cells c.args.cells.now) c.args.cells.now.x c.args.cover.now.y c.args.floor c.args.a [] _ c.loop-rows.rows _ _ refl (omega (arith, c.loop-rows-test.false)) c.loop-rows.invariant

pub stacks_two-loop-rows-init : goal.stacks_two-loop-rows-init
stacks_two-loop-rows-init t c = search (rules, rows-start, shifted_small)

pub stacks_two-loop-rows-preserved : goal.stacks_two-loop-rows-preserved
stacks_two-loop-rows-preserved t c = search (rules, rows-next, shifted_small)

pub stacks_two-loop-rows-smaller : goal.stacks_two-loop-rows-smaller
stacks_two-loop-rows-smaller t c = c.without_row-rows.ensures.fewer c.lowest_row-row.ensures.has

pub stacks_two-returns : goal.stacks_two-returns
stacks_two-returns t c = rows-all (GoesOnWith HasFirst (supply_of c.args.cover.now.supply) (shifted_cells c.args.cover.now.cells) c.args.piece) (GoesOnWith IsAny (supply_of c.args.cover.now.supply) (shifted_cells c.args.cover.now.cells) c.args.piece)
    (shifted_cells c.args.cells.now) c.args.cells.now.x c.args.cover.now.y c.args.floor c.args.a (c.args.b ∷ []) _ c.loop-rows.rows _ _ refl (omega (arith, c.loop-rows-test.false)) c.loop-rows.invariant

pub stacks_three-loop-rows-init : goal.stacks_three-loop-rows-init
stacks_three-loop-rows-init t c = search (rules, rows-start, shifted_small)

pub stacks_three-loop-rows-preserved : goal.stacks_three-loop-rows-preserved
stacks_three-loop-rows-preserved t c = search (rules, rows-next, shifted_small)

pub stacks_three-loop-rows-smaller : goal.stacks_three-loop-rows-smaller
stacks_three-loop-rows-smaller t c = c.without_row-rows.ensures.fewer c.lowest_row-row.ensures.has

pub stacks_three-returns : goal.stacks_three-returns
stacks_three-returns t c = rows-all (GoesOnWith HasFirst (supply_of c.args.cover.now.supply) (shifted_cells c.args.cover.now.cells) c.args.piece) (GoesOnWith IsAny (supply_of c.args.cover.now.supply) (shifted_cells c.args.cover.now.cells) c.args.piece)
    (shifted_cells c.args.cells.now) c.args.cells.now.x c.args.cover.now.y c.args.floor c.args.a (c.args.b ∷ c.args.c ∷ []) _ c.loop-rows.rows _ _ refl (omega (arith, c.loop-rows-test.false)) c.loop-rows.invariant

pub stacks_four-loop-rows-init : goal.stacks_four-loop-rows-init
stacks_four-loop-rows-init t c = search (rules, rows-start, shifted_small)

pub stacks_four-loop-rows-preserved : goal.stacks_four-loop-rows-preserved
stacks_four-loop-rows-preserved t c = search (rules, rows-next, shifted_small)

pub stacks_four-loop-rows-smaller : goal.stacks_four-loop-rows-smaller
stacks_four-loop-rows-smaller t c = c.without_row-rows.ensures.fewer c.lowest_row-row.ensures.has

pub stacks_four-returns : goal.stacks_four-returns
stacks_four-returns t c = rows-all (GoesOnWith HasFirst (supply_of c.args.cover.now.supply) (shifted_cells c.args.cover.now.cells) c.args.piece) (GoesOnWith IsAny (supply_of c.args.cover.now.supply) (shifted_cells c.args.cover.now.cells) c.args.piece)
    (shifted_cells c.args.cells.now) c.args.cells.now.x c.args.cover.now.y c.args.floor c.args.a (c.args.b ∷ c.args.c ∷ c.args.d ∷ []) _ c.loop-rows.rows _ _ refl (omega (arith, c.loop-rows-test.false)) c.loop-rows.invariant
