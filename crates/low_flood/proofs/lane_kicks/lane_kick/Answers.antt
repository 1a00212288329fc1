-- The difference of two offsets, and of two lane states.
use Rattle.std.proofs.Common.{◌≡◌, ap, arith}
use Rattle.std.proofs.lemmas.Int.{ints}
use Rattle.srs.specs.Cells.{Cell}
use Rattle.srs.specs.Kick.{srs_table, offset_in}
use Rattle.place_sets.proofs.CallerLemmas.{same_cell}
use Rattle.low_flood.proofs.lane_kicks.lane_kick.Goals as goal

pub returns-clause-change : goal.returns-clause-change
returns-clause-change c =
    let a = offset_in srs_table c.args.piece c.args.from c.args.test in
    let b = offset_in srs_table c.args.piece c.args.to c.args.test in
    let a_x : c.srs_offset-left_x.result.0 ≡ a.0 = ap (λ (c : Cell). c.0) c.srs_offset-left_x.ensures.offset in
    let a_y : c.srs_offset-left_x.result.1 ≡ a.1 = ap (λ (c : Cell). c.1) c.srs_offset-left_x.ensures.offset in
    let b_x : c.srs_offset-reached_x.result.0 ≡ b.0 = ap (λ (c : Cell). c.0) c.srs_offset-reached_x.ensures.offset in
    let b_y : c.srs_offset-reached_x.result.1 ≡ b.1 = ap (λ (c : Cell). c.1) c.srs_offset-reached_x.ensures.offset in
    let m_to = c.canonical_columns.ensures in
    let m_from = c.canonical_columns-2.ensures in
    let l_to = c.lowest_row.ensures in
    let l_from = c.lowest_row-2.ensures in
    same_cell _ _ (omega (arith, ints, m_to.columns, m_from.columns)) (omega (arith, ints, l_to.rows, l_from.rows))
