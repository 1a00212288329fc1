-- What is left lies below the rows that are left, and has no full row.
use Rattle.std.proofs.Common.{◌∙◌, arith}
use Rattle.lane_board.specs.FullRows.{is_full}
use Rattle.well.specs.Well.{filled}
use Rattle.well.proofs.CallerLemmas.{stays_below}
use Rattle.percent.proofs.BuiltLemmas.{locked-open}
use Rattle.percent.proofs.position.Position.after.Goals as goal

pub invariant_of-result : goal.invariant_of-result
invariant_of-result c =
    let p = c.args.self.now in
    let few = p.few in record {
      few = omega (arith, c.saturating_sub-rows.ensures, few);
      below = record {
        none = λ x y above.
            (λ i. c.lock-removed.ensures.field i x y)
            ∙ stays_below (filled p.well) c.args.placement.now p.rows (omega (arith, few)) p.below c.requires.below x y
            (omega (arith, above, c.saturating_sub-rows.ensures, c.lock-removed.ensures.removed));
      };
      open_rows = record {
        each = λ y low.
            (λ i. is_full (c.lock-removed.ensures.field i) y)
            ∙ (locked-open (filled p.well) p.rows c.args.placement.now few p.below c.requires.free c.requires.below).each y
            (omega (arith, low, c.saturating_sub-rows.ensures, c.lock-removed.ensures.removed));
      };
    }
