-- The pivot lies in the well, and so does that of the canonical placement.
use Rattle.std.proofs.Common.{◌≡◌, pos, arith, to_z, of_z, w8, ap, rules}
use Rattle.std.proofs.lemmas.Int.{ints}
use Rattle.srs.specs.Cells.{Cell, moved, pivot_of}
use Rattle.srs.specs.Canonical.{canonical_move}
use Rattle.srs.proofs.CanonicalLemmas.{canonical_pivot, pivot_inside, LiesAt}
use Rattle.srs.proofs.symmetry.moved_pivot.Goals as goal

pub overflow_cast-placement : goal.overflow_cast-placement
overflow_cast-placement c = let p = pivot_inside c.args.placement.now c.requires in omega (arith, ints)

pub overflow_cast-placement-2 : goal.overflow_cast-placement-2
overflow_cast-placement-2 c = let p = pivot_inside c.args.placement.now c.requires in omega (arith, ints)

pub cell_at-x-requires-clause-left : goal.cell_at-x-requires-clause-left
cell_at-x-requires-clause-left c = let p = pivot_inside c.args.placement.now c.requires in omega (arith, ints)

pub cell_at-x-requires-clause-right : goal.cell_at-x-requires-clause-right
cell_at-x-requires-clause-right c = let p = pivot_inside c.args.placement.now c.requires in omega (arith, ints)

pub cell_at-x-requires-clause-low : goal.cell_at-x-requires-clause-low
cell_at-x-requires-clause-low c = let p = pivot_inside c.args.placement.now c.requires in omega (arith, ints)

pub cell_at-x-requires-clause-high : goal.cell_at-x-requires-clause-high
cell_at-x-requires-clause-high c = let p = pivot_inside c.args.placement.now c.requires in omega (arith, ints)

-- where the moved pivot is
at_moved : (c : goal.After-result-1) → c.cell_at-x.result ≡ moved (pivot_of c.args.placement.now) (canonical_move c.args.placement.now.piece c.args.placement.now.rotation)
at_moved c = search (rules, pivot_inside)

lies : (c : goal.After-result-1) → LiesAt c.cell_at-x.result
lies c = search (rules, canonical_pivot, at_moved)

pub overflow_cast-result : goal.overflow_cast-result
overflow_cast-result c = let there = lies c in let x : c.cell_at-x.result.0 ≡ pos there.x = ap (λ (c : Cell). c.0) there.is in omega (arith, ints)

pub overflow_cast-result-2 : goal.overflow_cast-result-2
overflow_cast-result-2 c = let there = lies c in let y : c.cell_at-x.result.1 ≡ pos there.y = ap (λ (c : Cell). c.1) there.is in omega (arith, ints)

pub returns-clause-pivot : goal.returns-clause-pivot
returns-clause-pivot c = search (rules, (lies c), (to_z w8 (of_z w8 c.cell_at-x.result.0)), (to_z w8 (of_z w8 c.cell_at-x.result.1)), (at_moved c))
