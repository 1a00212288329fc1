-- One picture after another.
use Rattle.std.proofs.Common.{◌+◌, ◌-◌, refl, ap, sym, subst, ◌∙◌, arith, rules}
use Rattle.srs.specs.declared.placement.Placement.{Placement}
use Rattle.srs.specs.declared.piece.Piece.TheVariants.{I}
use Rattle.srs.specs.declared.rotation.Rotation.TheVariants.{Spawn}
use Rattle.srs.specs.Rules.{table_of}
use Rattle.well.specs.Well.{filled}
use Rattle.pc_outside.specs.CountLaws.{none_more, none_yet}
use Rattle.pc_outside.specs.WriteLaws.{begins, after_piece, ends, failed_piece, at_err}
use Rattle.report.proofs.GridLemmas.{next_picture, no_picture}
use Rattle.report.proofs.LineLemmas.{PlaysOn, plays_free, plays_next, plays_pivot}
use Rattle.report.proofs.grid.write_pictures.Goals as goal

-- what an index past the end would read
abbrev default : Placement
default = record { piece = I; rotation = Spawn; x = 0; y = 0 }

pub loop-placement-init : goal.loop-placement-init
loop-placement-init g c = search (rules, begins, none_yet)

pub picture-requires-clause-column : goal.picture-requires-clause-column
picture-requires-clause-column g c =
    let at = plays_pivot (table_of c.args.problem.now.rules) c.args.problem.now.drop_mode (filled c.loop-placement.well) c.args.placements.now c.loop-placement.placement-index default c.loop-placement-test.true c.loop-placement.invariant.1 in
    omega (arith, at.in_columns)

pub picture-requires-clause-row : goal.picture-requires-clause-row
picture-requires-clause-row g c =
    let at = plays_pivot (table_of c.args.problem.now.rules) c.args.problem.now.drop_mode (filled c.loop-placement.well) c.args.placements.now c.loop-placement.placement-index default c.loop-placement-test.true c.loop-placement.invariant.1 in
    omega (arith, at.in_rows)

pub returns-in_err-write-clause-written : goal.returns-in_err-write-clause-written
returns-in_err-write-clause-written g c =
    at_err c.from_residual.ensures.0 (failed_piece _ c.loop-placement.invariant.0
    (next_picture (filled c.loop-placement.well) _ c.loop-placement.rows _ c.args.placements.now c.loop-placement.placement-index default c.as_slice.result.now c.loop-placement-test.true (c.as_slice.ensures.value ∙ c.picture.ensures) refl refl)
    c.in_err-write.ensures.written)

pub lock-locked-requires : goal.lock-locked-requires
lock-locked-requires g c = search (rules, plays_free)

pub loop-placement-preserved : goal.loop-placement-preserved
loop-placement-preserved g c =
    let table = table_of c.args.problem.now.rules in
    let mode = c.args.problem.now.drop_mode in
    let s = c.args.placements.now in
    let i = c.loop-placement.placement-index in
    let F = filled c.loop-placement.well in
    let rows = c.loop-placement.rows in
    let next = next_picture F (filled c.lock-locked.result.0) rows c.saturating_sub-rows.result s i default c.as_slice.result.now c.loop-placement-test.true (c.as_slice.ensures.value ∙ c.picture.ensures) c.lock-locked.ensures.field
    (c.saturating_sub-rows.ensures ∙ ap (λ n. rows - n) c.lock-locked.ensures.removed) in (
      after_piece c.loop-placement.invariant.0 next c.in_ok-write.ensures.written,
      subst (λ F. PlaysOn table mode F s (i + 1)) (sym c.lock-locked.ensures.field) (plays_next table mode F s i default c.loop-placement-test.true c.loop-placement.invariant.1),
      none_more c.loop-placement.invariant.2 c.in_ok-write.ensures.cause,
    )

pub returns-clause-written : goal.returns-clause-written
returns-clause-written g c = search (rules, ends, no_picture)
