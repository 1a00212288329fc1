-- The lowest set bit of the mask is the lowest full row.
use Rattle.std.proofs.Common.{◌≡◌, ℕ, ◌<◌, true, sym, arith, rules}
use Rattle.lane_board.specs.FullRows.{is_full}
use Rattle.lane_board.proofs.CallerLemmas.{cell_from_full}
use Rattle.well.specs.declared.well.Well.{Well}
use Rattle.well.specs.Well.{filled}
use Rattle.well.proofs.WellFields.{filled-within}
use Rattle.well.proofs.CountLemmas.{lowest_full_none, lowest_full_some}
use Rattle.well.proofs.well.Well.lowest_full.Goals as goal

full_within : (w : Well) (y : ℕ) → is_full (filled w) y ≡ true → y < 23
full_within w y full = (filled-within w 0 y (cell_from_full (filled w) 0 y (omega arith) full)).1

pub returns-then-full-eq0 : goal.returns-then-full-eq0
unfolding filled
returns-then-full-eq0 c = sym (lowest_full_none (filled c.args.self.now) c.full_rows-full.result (search rules) c.full_rows-full.ensures.rows)

pub returns : goal.returns
unfolding filled
returns c = lowest_full_some (filled c.args.self.now) c.full_rows-full.result (search rules) (search rules) c.full_rows-full.ensures.rows (full_within c.args.self.now)
