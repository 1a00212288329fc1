-- A row is put behind the others, or isn't one of the set.
use Rattle.std.proofs.Common.{◌<◌, length-set, get_or, refl, sym, ◌∙◌, arith}
use Rattle.lane_board.specs.Lanes.{has_bit}
use Rattle.percent.proofs.SpreadLemmas.{keeping-ends, keeping-more, keeping-pass, keeping-starts, not_full, row_full, small_set, zero_at}
use Rattle.percent.proofs.spread.rows_among.Goals as goal
use Rattle.percent.proofs.spread.rows_among.Goals.{then-has_row, else-has_row}

pub loop-y-init : goal.loop-y-init
loop-y-init c = record {
  few = omega arith;
  size = refl;
  small = zero_at;
  keeps = λ G is. keeping-starts G c.args.rows.now _ refl;
}

pub loop-y-preserved : goal.loop-y-preserved
loop-y-preserved c =
    let rows = c.args.rows.now in
    let y = c.loop-y.y in
    let low : y < c.args.height = omega (arith, c.loop-y-test.true, c.from-y-end.ensures) in
    let near : y < 8 = omega (arith, c.requires.height) in
    elim c.if-has_row.branch [
      | then-has_row w ↦
          rw (w.kept-is, w.count-is) (record {
            few = let few = c.loop-y.invariant.few in omega arith;
            size = length-set c.loop-y.kept c.loop-y.count (get_or rows y 0) ∙ c.loop-y.invariant.size;
            small = small_set c.loop-y.kept c.loop-y.count (get_or rows y 0) (let few = c.loop-y.invariant.few in omega (arith, c.loop-y.invariant.size)) (c.requires.within y near) c.loop-y.invariant.small;
            keeps = λ G is. keeping-more G rows c.loop-y.kept c.loop-y.count y near (not_full (has_bit c.args.set (get_or rows y 0)) G y (is y low) (sym c.has_row.ensures ∙ w.if-has_row.true)) (c.loop-y.invariant.keeps G is);
          })
      | else-has_row w ↦
          rw (w.kept-is, w.count-is) (record {
            few = let few = c.loop-y.invariant.few in omega arith;
            size = c.loop-y.invariant.size;
            small = c.loop-y.invariant.small;
            keeps = λ G is. keeping-pass G rows c.loop-y.kept c.loop-y.count y (row_full (has_bit c.args.set (get_or rows y 0)) G y (is y low) (sym c.has_row.ensures ∙ w.if-has_row.false)) (c.loop-y.invariant.keeps G is);
          })
    ]

pub returns-clause-within : goal.returns-clause-within
returns-clause-within c = c.loop-y.invariant.small

pub returns-clause-kept : goal.returns-clause-kept
returns-clause-kept c = λ G is. keeping-ends G c.args.rows.now c.loop-y.kept c.loop-y.count c.args.height c.loop-y.y (omega (arith, c.loop-y-test.false, c.from-y-end.ensures, c.loop-y.auto.y-end)) (c.loop-y.invariant.keeps G is)
