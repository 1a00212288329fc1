-- The cell is in the well, so its two numbers are a column and a row.
use Rattle.std.proofs.Common.{◌≡◌, pos, nat_abs, ap, sym, ◌∙◌, arith}
use Rattle.std.proofs.lemmas.Int.{ints}
use mir.Syntax.{w8}
use mir.Val.{to_z, of_z}
use Rattle.srs.specs.Cells.{Cell}
use Rattle.srs.proofs.CallerLemmas.{in_well-place}
use Rattle.well.specs.Lock.{with_cell_at}
use Rattle.well.specs.Well.{filled}
use Rattle.well.proofs.LockLemmas.{placed}
use Rattle.well.proofs.WellFields.{with_cell-other_row}
use Rattle.well.proofs.well.Well.fill_cell.Goals as goal

pub invariant_of-self : goal.invariant_of-self
invariant_of-self c =
    let lies = in_well-place c.args.cell c.requires in
    let b : c.args.cell.1 ≡ pos lies.y = ap (λ (c : Cell). c.1) lies.is in
    record {
      top_is_empty = λ x. ap (λ F. F x 23) c.fill.ensures ∙ with_cell-other_row _ _ _ x 23 (λ e. omega (arith, ints, e, b, lies.in_rows)) (c.args.self.now.top_is_empty x);
    }

pub returns : goal.returns
unfolding filled
returns c =
    let lies = in_well-place c.args.cell c.requires in
    let a : c.args.cell.0 ≡ pos lies.x = ap (λ (c : Cell). c.0) lies.is in
    let b : c.args.cell.1 ≡ pos lies.y = ap (λ (c : Cell). c.1) lies.is in
    let x : pos (nat_abs (to_z w8 (of_z w8 c.args.cell.0))) ≡ c.args.cell.0 = omega (arith, ints, lies.in_columns) in
    let y : pos (nat_abs (to_z w8 (of_z w8 c.args.cell.1))) ≡ c.args.cell.1 = omega (arith, ints, lies.in_rows) in
    c.fill.ensures ∙ sym (placed (filled c.args.self.now) _ _) ∙ (λ i. with_cell_at (filled c.args.self.now) (x i, y i))
